-- What is known of a journal that is replayed, entry by entry.
use Rattle.std.proofs.Common.{◌≡◌, ℕ, zero, suc, ◌+◌, ◌^◌, ◌<◌, List, [], ◌∷◌, ◌++◌, length, Option, Some, None, Ok, Err, IsTrue, refl, sym, subst, ◌∙◌, ap, arith}
use Rattle.std.specs.Prelude.{slice_get, take}
use Rattle.std.proofs.Math.Seq.{take-length}
use Rattle.std.proofs.lemmas.List.{length-take-le, take_more}
use Rattle.std.proofs.lemmas.Option.{slice_get_within, get_or_from_slice_get}
use Rattle.ttm_base.specs.declared.Actor.{Actor}
use Rattle.ttm_base.specs.declared.Need.{Need}
use Rattle.ttm_base.specs.Pages.{PageBytes}
use Rattle.journal_model.specs.declared.script.Script.{Script}
use Rattle.journal_model.specs.declared.state.State.{State}
use Rattle.journal_model.specs.declared.entry.Entry.{Entry}
use Rattle.journal_model.specs.declared.entry.Kind.{Kind}
use Rattle.journal_model.specs.declared.entry.Kind.TheVariants as kind
use Rattle.journal_model.specs.scripts.ScriptRules.{is_script}
use Rattle.journal_model.specs.rules.Next.{next}
use Rattle.journal_model.specs.rules.Apply.{apply}
use Rattle.journal_model.specs.rules.Stores.{Stores, zeros, within, stores_after, showing}
use Rattle.journal_model.specs.statements.Complete.{is_over, is_complete}
use Rattle.journal_model.specs.rules.Legal.{World, first_state, first_world, IsLegal, IsLegalFrom, IsLegalNext, state_of, stores_of, world_of, world_after, world_along, shown_step}
use Rattle.journal_model.specs.reports.Verdict.{unshown, unshown_step, IsStep}
use Rattle.laws.specs.law_owners.OneOwner.{HaveOneOwner}
use Rattle.laws.proofs.law_owners.Law.{owner_law}
use Rattle.laws.proofs.law_state.Shown.{legal_step}
use Rattle.laws.proofs.law_state.Counted.{over_law}
use Rattle.rules_search.specs.Room.{HasRoom}
use Rattle.rules_apply.specs.Ready.{IsReady}
use Rattle.rules_stores.specs.Kept.{KeptBytes, BecomesBytes, bytes_of}
use Rattle.plain_device.specs.Kept.{entry_of}
use Rattle.plain_device.specs.Held.{IsHeld}
use Rattle.plain_device.proofs.ReadyLaws.{has_room}
use Rattle.plain_device.proofs.DeviceLaws.{known, entry_is, can_apply, held_after, same_within}
use Rattle.entry_reader.specs.declared.rule.Rule.{Rule}
use Rattle.entry_reader.specs.declared.rule.Rule.TheVariants as rule
use Rattle.report_check.specs.Judged.{Breaks, Differs, IsJudged, IsBadAt}

-- ---- one entry

-- what is shown is no part of the step
unshown_showing : (script : Script) (stores : Stores) (s : State) (who : Actor) (k : Kind) → unshown (showing script stores s who k) ≡ unshown k
unshown_showing script stores s who (kind.Result r) = refl
unshown_showing script stores s who (kind.Packet n k piece) = refl
unshown_showing script stores s who k = refl

-- an entry that is legal next is its actor's step
legal_is_step : (script : Script) (w : World) (e : Entry) → IsLegalNext script w e → IsStep script w e
legal_is_step script w e h =
    let l = legal_step script w e h in
    let told : unshown e.kind ≡ unshown l.kind = ap (λ (f : Entry). unshown f.kind) l.entry ∙ unshown_showing script w.stores w.state e.who l.kind in
    ap unshown_step l.step ∙ ap (λ (k : Kind). Ok k) (sym told)

-- so one that breaks a rule isn't legal next
broken_is_not_legal : (script : Script) (w : World) (e : Entry) (r : Rule) → Breaks script w e r → IsLegalNext script w e → ⊥
broken_is_not_legal script w e rule.Step h legal = h (legal_is_step script w e legal)
broken_is_not_legal script w e rule.Shown h legal = h.1 legal
broken_is_not_legal script w e rule.Head h legal = h
broken_is_not_legal script w e rule.Line h legal = h
broken_is_not_legal script w e rule.Complete h legal = h
broken_is_not_legal script w e rule.End h legal = h

module _ (script : Script) (s : State) (bytes : PageBytes) (e : Entry) where
  -- the state and the bytes
  abbrev here : World
  here = record { state = s; stores = bytes }

  -- an actor that has no entry makes none
  pub no_step : (need : Need) → next script s e.who ≡ Err need → IsStep script here e → ⊥
  no_step need n h = let bad : unshown_step (Err need) ≡ Ok (unshown e.kind) = sym (ap unshown_step n) ∙ h in cc

  -- the entry is judged by how it differs from the actor's
  pub judged : (k made : Kind) (r : Option Rule) → next script s e.who ≡ Ok k → made ≡ showing script bytes s e.who k → Differs made e.kind r → IsJudged script here e r
  judged k made None n m d = ap (shown_step script here e.who) n ∙ ap (λ (x : Kind). Ok (record { who = e.who; kind = x })) (sym m ∙ d)
  judged k made (Some rule.Shown) n m d = (
    ap unshown_step n ∙ ap (λ (x : Kind). Ok x) (sym (unshown_showing script bytes s e.who k) ∙ ap unshown (sym m) ∙ d.0),
    λ legal.
        let both : shown_step script here e.who (Ok k) ≡ Ok e = sym (ap (shown_step script here e.who) n) ∙ legal in
        let it : (record { who = e.who; kind = showing script bytes s e.who k }) ≡ e = cc in
        d.1 (m ∙ ap (λ (x : Entry). x.kind) it),
  )
  judged k made (Some rule.Step) n m d = λ step.
      let both : unshown_step (Ok k) ≡ Ok (unshown e.kind) = sym (ap unshown_step n) ∙ step in
      let it : unshown k ≡ unshown e.kind = cc in
      d (ap unshown m ∙ unshown_showing script bytes s e.who k ∙ it)
  judged k made (Some rule.Head) n m d = absurd d
  judged k made (Some rule.Line) n m d = absurd d
  judged k made (Some rule.Complete) n m d = absurd d
  judged k made (Some rule.End) n m d = absurd d

-- ---- the entries so far

-- one more
more : (es : List Entry) (at : ℕ) (e : Entry) → slice_get es at ≡ Some e → take (at + 1) es ≡ take at es ++ e ∷ []
more es at e h = take_more es at e (slice_get_within es at e h) ∙ ap (λ (y : Entry). take at es ++ y ∷ []) (get_or_from_slice_get es at e e h)

-- each entry of a legal journal is legal next after those before it
legal_at : (script : Script) (w : World) (es : List Entry) (at : ℕ) (e : Entry) → slice_get es at ≡ Some e → IsLegalFrom script w es → IsLegalNext script (world_along script w (take at es)) e
legal_at script w [] at e g h = cc
legal_at script w (x ∷ es) zero e g h = let it : x ≡ e = cc in subst (IsLegalNext script w) it h.0
legal_at script w (x ∷ es) (suc at) e g h = legal_at script (world_after script w x) es at e g h.1

-- fewer entries than the journal has can be counted
short_take : (es : List Entry) (at : ℕ) → at < length es → length es < 2 ^ 64 → length (take at es) + 1 < 2 ^ 64
short_take es at h l = let e = length-take-le at es (omega (arith, h)) in omega (arith, e, h, l)

module _ (script : Script) (journal : List Entry) (at : ℕ) (state : State) (stores : KeptBytes) where
  -- what is held of the entries so far
  abbrev pub IsHeldSoFar : Type 0
  IsHeldSoFar = IsHeld script (take at journal) state stores.sizes (bytes_of stores)

  abbrev world : World
  world = record { state = state; stores = bytes_of stores }

  world_is : IsHeldSoFar → world ≡ world_of script (take at journal)
  world_is h =
      ap (λ (s : State). record { state = s; stores = bytes_of stores }) h.state_is
      ∙ ap (λ (b : PageBytes). record { state = state_of script (take at journal); stores = b }) h.bytes_are

  pub room : IsHeldSoFar → at < length journal → length journal < 2 ^ 64 → HasRoom script state
  room h less l = has_room script state (length (take at journal)) (known script (take at journal) state stores.sizes (bytes_of stores) h (short_take journal at less l))

  -- no frame and no slot is held twice
  pub one_owner : IsHeldSoFar → HaveOneOwner script state.core
  one_owner h = subst (λ (s : State). HaveOneOwner script s.core) (sym h.state_is) (owner_law script (take at journal) h.fits h.legal)

  -- a legal entry is that of the journal
  entry_next : IsHeldSoFar → (e : Entry) → IsLegalNext script world e → entry_of (record { script = script; journal = take at journal }) e.who ≡ Ok e
  entry_next h e legal = entry_is script (take at journal) state stores.sizes (bytes_of stores) h e.who ∙ legal

  pub ready : IsHeldSoFar → at < length journal → length journal < 2 ^ 64 → (e : Entry) → IsLegalNext script world e → IsReady script state e
  ready h less l e legal = can_apply script (take at journal) state stores.sizes (bytes_of stores) h (short_take journal at less l) e.who e (entry_next h e legal)

  -- held again after the entry
  pub held_next : IsHeldSoFar → (e : Entry) (s : State) (new : KeptBytes) → slice_get journal at ≡ Some e → IsLegalNext script world e →
      s ≡ apply script state e → BecomesBytes stores new (stores_after script state e.who e.kind (bytes_of stores)) → IsHeld script (take (at + 1) journal) s new.sizes (bytes_of new)
  held_next h e s new there legal to b =
      let bytes_is : bytes_of new ≡ within stores.sizes (stores_after script state e.who e.kind (bytes_of stores)) =
      b.bytes_are ∙ same_within stores.sizes (stores_after script state e.who e.kind (bytes_of stores)) (bytes_of stores) h.no_more in
      let after = held_after script (take at journal) state stores.sizes (bytes_of stores) h e.who e (entry_next h e legal) in
      subst (λ j. IsHeld script j s new.sizes (bytes_of new)) (sym (more journal at e there))
      (subst (λ t. IsHeld script (take at journal ++ e ∷ []) t new.sizes (bytes_of new)) (sym to)
      (subst (λ n. IsHeld script (take at journal ++ e ∷ []) (apply script state e) n (bytes_of new)) (sym b.same_sizes)
      (subst (λ m. IsHeld script (take at journal ++ e ∷ []) (apply script state e) stores.sizes m) (sym bytes_is) after)))

  -- the first that isn't legal next
  pub bad_at : IsHeldSoFar → (e : Entry) (number : ℕ) (r : Rule) → slice_get journal at ≡ Some e → number ≡ at + 1 → Breaks script world e r → IsBadAt script journal number r
  bad_at h e number r there counted wrong =
      let here : Breaks script (world_of script (take at journal)) e r = subst (λ w. Breaks script w e r) (world_is h) wrong in
      record {
        at = at;
        entry = e;
        counted = counted;
        there = there;
        before = h.legal;
        breaks = here;
        not_legal = λ legal. broken_is_not_legal script (world_of script (take at journal)) e r here (legal_at script (first_world script) journal at e there legal);
      }

-- ---- all of them

-- before the first
pub held_first : (script : Script) (journal : List Entry) (state : State) (stores : KeptBytes) → IsTrue (is_script script) → state ≡ first_state script → stores.sizes ≡ script.sizes → bytes_of stores ≡ zeros →
    IsHeld script (take 0 journal) state stores.sizes (bytes_of stores)
held_first script journal state stores fits s z b =
    record {
      fits = fits;
      legal = tt;
      state_is = s;
      sizes_are = z;
      bytes_are = b;
      no_more = λ page o h. ap (λ (f : PageBytes). f page o) b;
    }

-- after the last: the journal is legal, and complete where the state is over
pub legal_to : (script : Script) (journal : List Entry) (state : State) (stores : KeptBytes) → IsHeld script (take (length journal) journal) state stores.sizes (bytes_of stores) →
    IsLegal script journal × (is_over script state ≡ is_complete script journal)
legal_to script journal state stores h =
    let all = take-length journal in
    let legal = subst (IsLegal script) all h.legal in
    (legal, ap (is_over script) (h.state_is ∙ ap (state_of script) all) ∙ over_law script journal legal)

-- ---- the states of a legal journal, without its bytes

module _ (script : Script) (journal : List Entry) (at : ℕ) (state : State) where
  abbrev bytes : PageBytes
  bytes = stores_of script (take at journal)

  -- the state is that of the entries so far
  abbrev pub LeadsSoFar : Type 0
  LeadsSoFar = IsHeld script (take at journal) state script.sizes bytes

  pub entry_ready : LeadsSoFar → IsLegal script journal → at < length journal → length journal < 2 ^ 64 → (e : Entry) → slice_get journal at ≡ Some e → IsReady script state e
  entry_ready h legal less most e there =
      can_apply script (take at journal) state script.sizes bytes h (short_take journal at less most) e.who e (legal_at script (first_world script) journal at e there legal)

  -- that after the next entry
  pub leads_on : LeadsSoFar → IsLegal script journal → (e : Entry) (s : State) → slice_get journal at ≡ Some e → s ≡ apply script state e →
      IsHeld script (take (at + 1) journal) s script.sizes (stores_of script (take (at + 1) journal))
  leads_on h legal e s there to =
      let longer = take at journal ++ e ∷ [] in
      let after = held_after script (take at journal) state script.sizes bytes h e.who e (legal_at script (first_world script) journal at e there legal) in
      let kept : IsHeld script longer (apply script state e) script.sizes (stores_of script longer) =
      subst (λ (b : PageBytes). IsHeld script longer (apply script state e) script.sizes b) after.bytes_are after in
      subst (λ j. IsHeld script j s script.sizes (stores_of script j)) (sym (more journal at e there))
      (subst (λ t. IsHeld script longer t script.sizes (stores_of script longer)) (sym to) kept)

-- before the first
pub leads_first : (script : Script) (journal : List Entry) (state : State) → IsTrue (is_script script) → state ≡ first_state script →
    IsHeld script (take 0 journal) state script.sizes (stores_of script (take 0 journal))
leads_first script journal state fits s =
    record { fits = fits; legal = tt; state_is = s; sizes_are = refl; bytes_are = refl; no_more = λ page o h. refl }

-- after the last
pub leads_to : (script : Script) (journal : List Entry) (state : State) → IsHeld script (take (length journal) journal) state script.sizes (stores_of script (take (length journal) journal)) →
    state ≡ state_of script journal
leads_to script journal state h = h.state_is ∙ ap (state_of script) (take-length journal)
