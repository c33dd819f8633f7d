-- A device that holds the state of its journal answers by the definitions, and holds it again after an entry.
use Rattle.std.proofs.Common.{◌≡◌, ℕ, zero, suc, ◌+◌, ◌^◌, ◌<◌, ◌≤◌, Bool, true, false, List, [], ◌∷◌, ◌++◌, length, Option, Some, None, Result, Ok, Err, IsTrue, refl, sym, subst, ◌∙◌, ap, arith}
use Rattle.std.specs.Prelude.{nat_le, nat_lt, ◌&&◌, remove, slice_get, if◌then◌else◌}
use Rattle.std.specs.List.{list_all}
use Rattle.std.proofs.lemmas.Bool.Decides.{nat_tests}
use Rattle.ttm_base.specs.declared.Actor.{Actor}
use Rattle.ttm_base.specs.declared.Need.{Need}
use Rattle.ttm_base.specs.Pages.{Page, PageBytes}
use Rattle.journal_model.specs.declared.script.Script.{Script}
use Rattle.journal_model.specs.declared.script.Sizes.{Sizes}
use Rattle.journal_model.specs.declared.script.Command.{Command}
use Rattle.journal_model.specs.declared.script.Command.TheVariants as command
use Rattle.journal_model.specs.declared.state.State.{State}
use Rattle.journal_model.specs.declared.entry.Entry.{Entry}
use Rattle.journal_model.specs.declared.entry.Kind.{Kind}
use Rattle.journal_model.specs.declared.entry.Kind.TheVariants as kind
use Rattle.journal_model.specs.rules.Commands.{command_at_work}
use Rattle.journal_model.specs.scripts.ScriptRules.{is_script}
use Rattle.journal_model.specs.rules.Next.{next}
use Rattle.journal_model.specs.rules.Apply.{apply, applied, thread_of}
use Rattle.journal_model.specs.rules.Stores.{is_there, within, zeros, stores_after, showing}
use Rattle.journal_model.specs.statements.Complete.{is_over, is_complete}
use Rattle.journal_model.specs.rules.Legal.{World, first_state, IsLegal, IsLegalNext, state_of, stores_of, world_of, world_after, next_entry, shown_step}
use Rattle.journal_model.proofs.JournalLaws.{world_of-append, IsLegal-append}
use Rattle.laws.proofs.law_state.Counted.{over_law}
use Rattle.laws.proofs.law_state.Shown.{LegalStep, legal_step}
use Rattle.laws.proofs.law_state.Turns.{next_is_legal}
use Rattle.laws.proofs.law_state.Rules.{Rules, rules_of, at_work_rules}
use Rattle.laws.proofs.law_state.GoodStates.{good_law}
use Rattle.laws.proofs.law_state.Counters.{below_law}
use Rattle.laws.proofs.law_state.Pins.{courses_law}
use Rattle.rules_apply.specs.Ready.{IsReady, IsReadyFor}
use Rattle.plain_device.specs.Kept.{Kept, entry_of, with_entry}
use Rattle.plain_device.specs.Held.{IsHeld, HasNoMore}
use Rattle.rules_stores.specs.Kept as kept
use Rattle.rules_stores.specs.Kept.{KeptBytes}
use Rattle.plain_device.proofs.ReadyLaws.{Known, has_room, ready}

-- beyond the pages that there are, there is nothing
nothing_beyond : (sizes : Sizes) (bytes : PageBytes) → HasNoMore sizes (within sizes bytes)
nothing_beyond sizes bytes page o h = by (is_there sizes page && nat_lt o 4096) h
  where
    by : (b : Bool) → b ≡ false → (if b then bytes page o else 0) ≡ 0
    by true g = cc
    by false g = refl

-- where nothing is beyond, to keep what is there is to keep zeros
pub same_within : (sizes : Sizes) (new old : PageBytes) → HasNoMore sizes old → kept.within sizes new old ≡ within sizes new
same_within sizes new old h = λ i page o. at page o i
  where
    at : (page : Page) (o : ℕ) → kept.within sizes new old page o ≡ within sizes new page o
    at page o = by (is_there sizes page && nat_lt o 4096) refl
      where
        by : (b : Bool) → (is_there sizes page && nat_lt o 4096) ≡ b → (if b then new page o else old page o) ≡ (if b then new page o else 0)
        by true g = refl
        by false g = h page o g

-- the last entry
at_end : (xs : List Entry) (at : ℕ) (e x : Entry) → at ≡ length xs → slice_get (xs ++ e ∷ []) at ≡ Some x → e ≡ x
at_end [] zero e x l h = cc
at_end [] (suc at) e x l h = absurd (omega (arith, l))
at_end (y ∷ ys) zero e x l h = absurd (omega (arith, l))
at_end (y ∷ ys) (suc at) e x l h = at_end ys at e x (omega (arith, l)) h

-- with it taken out again
without_end : (xs : List Entry) (at : ℕ) (e : Entry) → at ≡ length xs → remove (xs ++ e ∷ []) at ≡ xs
without_end [] zero e l = refl
without_end [] (suc at) e l = absurd (omega (arith, l))
without_end (y ∷ ys) zero e l = absurd (omega (arith, l))
without_end (y ∷ ys) (suc at) e l = ap (λ zs. y ∷ zs) (without_end ys at e (omega (arith, l)))

-- the same bytes
within_same : (sizes : Sizes) (bytes : PageBytes) → kept.within sizes bytes bytes ≡ bytes
within_same sizes bytes = λ i page o. at page o i
  where
    at : (page : Page) (o : ℕ) → kept.within sizes bytes bytes page o ≡ bytes page o
    at page o = by (is_there sizes page && nat_lt o 4096)
      where
        by : (b : Bool) → (if b then bytes page o else bytes page o) ≡ bytes page o
        by true = refl
        by false = refl

module _ (script : Script) (journal : List Entry) (state : State) (sizes : Sizes) (bytes : PageBytes) where
  -- what is known of the state
  pub known : IsHeld script journal state sizes bytes → length journal + 1 < 2 ^ 64 → Known script state (length journal)
  known h short =
      subst (λ s. Known script s (length journal)) (sym h.state_is) (record {
        fits = h.fits;
        rules = rules_of script h.fits;
        good = good_law script h.fits journal h.legal;
        courses = courses_law script journal h.legal;
        below = below_law script journal h.legal;
        short = short;
      })

  pub over : IsHeld script journal state sizes bytes → is_over script state ≡ is_complete script journal
  over h = ap (is_over script) h.state_is ∙ over_law script journal h.legal

  -- the state and the bytes that are held
  abbrev pub held_world : World
  held_world = record { state = state; stores = bytes }

  world_is : IsHeld script journal state sizes bytes → held_world ≡ world_of script journal
  world_is h = ap (λ s. record { state = s; stores = bytes }) h.state_is ∙ ap (λ b. record { state = state_of script journal; stores = b }) h.bytes_are

  -- the next entry is that of the journal
  pub entry_is : IsHeld script journal state sizes bytes → (who : Actor) → entry_of (record { script = script; journal = journal }) who ≡ next_entry script held_world who
  entry_is h who = sym (ap (λ w. next_entry script w who) (world_is h))

  -- the next entry is legal next
  pub legal_next : (who : Actor) (e : Entry) → entry_of (record { script = script; journal = journal }) who ≡ Ok e → IsLegalNext script (world_of script journal) e
  legal_next who e h = next_is_legal script (world_of script journal) who e h

  -- held again after the entry
  pub held_after : IsHeld script journal state sizes bytes → (who : Actor) (e : Entry) → entry_of (record { script = script; journal = journal }) who ≡ Ok e →
      IsHeld script (journal ++ e ∷ []) (apply script state e) sizes (within sizes (stores_after script state e.who e.kind bytes))
  held_after h who e next =
      let along : world_after script held_world e ≡ world_of script (journal ++ e ∷ []) = ap (λ w. world_after script w e) (world_is h) ∙ sym (world_of-append script journal e) in
      record {
        fits = h.fits;
        legal = IsLegal-append script journal e h.legal (legal_next who e next);
        state_is = ap (λ w. w.state) along;
        sizes_are = h.sizes_are;
        bytes_are = ap (λ n. within n (stores_after script state e.who e.kind bytes)) h.sizes_are ∙ ap (λ w. w.stores) along;
        no_more = nothing_beyond sizes (stores_after script state e.who e.kind bytes);
      }

  -- the entry can be applied
  pub can_apply : IsHeld script journal state sizes bytes → length journal + 1 < 2 ^ 64 → (who : Actor) (e : Entry) → entry_of (record { script = script; journal = journal }) who ≡ Ok e → IsReady script state e
  can_apply h short who e next =
      let legal : IsLegalNext script held_world e = subst (λ w. IsLegalNext script w e) (sym (world_is h)) (legal_next who e next) in
      let step = legal_step script held_world e legal in
      subst (λ f. IsReadyFor script state e.who f.kind) (sym step.entry) (ready script state (length journal) (known h short) bytes e.who step.kind step.step)

  -- the next entry, with what it shows
  pub entry_shown : IsHeld script journal state sizes bytes → (who : Actor) (k shown : Kind) → next script state who ≡ Ok k → shown ≡ showing script bytes state who k →
      Ok (record { who = who; kind = shown }) ≡ entry_of (record { script = script; journal = journal }) who
  entry_shown h who k shown n s =
      ap (λ (f : Kind). Ok (record { who = who; kind = f })) s ∙ sym (ap (shown_step script held_world who) n) ∙ sym (entry_is h who)

  -- the need
  pub entry_needs : IsHeld script journal state sizes bytes → (who : Actor) (need : Need) → next script state who ≡ Err need → Err need ≡ entry_of (record { script = script; journal = journal }) who
  entry_needs h who need n = sym (ap (shown_step script held_world who) n) ∙ sym (entry_is h who)

-- ---- what a device's fields are after a call

module _ (script : Script) (journal : List Entry) (state : State) (stores : KeptBytes) where
  -- at the start
  pub held_first : IsTrue (is_script script) → journal ≡ [] → state ≡ first_state script → stores.sizes ≡ script.sizes → kept.bytes_of stores ≡ zeros → IsHeld script journal state stores.sizes (kept.bytes_of stores)
  held_first fits j s z b =
      record {
        fits = fits;
        legal = subst (IsLegal script) (sym j) tt;
        state_is = s ∙ ap (state_of script) (sym j);
        sizes_are = z;
        bytes_are = b ∙ ap (stores_of script) (sym j);
        no_more = λ page o h. ap (λ (f : PageBytes). f page o) b;
      }

  -- where nothing was made
  pub held_same : IsHeld script journal state stores.sizes (kept.bytes_of stores) → (at : ℕ) (pushed back : List Entry) (e : Entry) (z : State) (new : KeptBytes) →
      at ≡ length journal → pushed ≡ journal ++ e ∷ [] → back ≡ remove pushed at → (z ≡ state) × kept.BecomesBytes stores new (kept.bytes_of stores) → IsHeld script back z new.sizes (kept.bytes_of new)
  held_same h at pushed back e z new l p b same =
      let journal_is : back ≡ journal = b ∙ ap (λ xs. remove xs at) p ∙ without_end journal at e l in
      let bytes_is : kept.bytes_of new ≡ kept.bytes_of stores = same.1.bytes_are ∙ within_same stores.sizes (kept.bytes_of stores) in
      subst (λ j. IsHeld script j z new.sizes (kept.bytes_of new)) (sym journal_is)
      (subst (λ t. IsHeld script journal t new.sizes (kept.bytes_of new)) (sym same.0)
      (subst (λ n. IsHeld script journal state n (kept.bytes_of new)) (sym same.1.same_sizes)
      (subst (λ m. IsHeld script journal state stores.sizes m) (sym bytes_is) h)))

  -- where an entry was made
  pub held_more : IsHeld script journal state stores.sizes (kept.bytes_of stores) → (at : ℕ) (pushed : List Entry) (e x : Entry) (z : State) (new : KeptBytes) →
      at ≡ length journal → pushed ≡ journal ++ e ∷ [] → slice_get pushed at ≡ Some x → entry_of (record { script = script; journal = journal }) e.who ≡ Ok e →
      z ≡ apply script state x → kept.BecomesBytes stores new (stores_after script state x.who x.kind (kept.bytes_of stores)) → IsHeld script pushed z new.sizes (kept.bytes_of new)
  held_more h at pushed e x z new l p g next s b =
      let same : e ≡ x = at_end journal at e x l (subst (λ xs. slice_get xs at ≡ Some x) p g) in
      let state_is : z ≡ apply script state e = s ∙ ap (apply script state) (sym same) in
      let bytes_is : kept.bytes_of new ≡ within stores.sizes (stores_after script state e.who e.kind (kept.bytes_of stores)) =
      b.bytes_are ∙ same_within stores.sizes (stores_after script state x.who x.kind (kept.bytes_of stores)) (kept.bytes_of stores) h.no_more
      ∙ ap (λ (f : Entry). within stores.sizes (stores_after script state f.who f.kind (kept.bytes_of stores))) (sym same) in
      let after = held_after script journal state stores.sizes (kept.bytes_of stores) h e.who e next in
      subst (λ j. IsHeld script j z new.sizes (kept.bytes_of new)) (sym p)
      (subst (λ t. IsHeld script (journal ++ e ∷ []) t new.sizes (kept.bytes_of new)) (sym state_is)
      (subst (λ n. IsHeld script (journal ++ e ∷ []) (apply script state e) n (kept.bytes_of new)) (sym b.same_sizes)
      (subst (λ m. IsHeld script (journal ++ e ∷ []) (apply script state e) stores.sizes m) (sym bytes_is) after)))

  -- the entry that was pushed can be made
  pub pushed_ready : IsHeld script journal state stores.sizes (kept.bytes_of stores) → length journal + 1 < 2 ^ 64 → (at : ℕ) (pushed : List Entry) (e x : Entry) →
      at ≡ length journal → pushed ≡ journal ++ e ∷ [] → slice_get pushed at ≡ Some x → entry_of (record { script = script; journal = journal }) e.who ≡ Ok e → IsReady script state x
  pushed_ready h short at pushed e x l p g next =
      let same : e ≡ x = at_end journal at e x l (subst (λ xs. slice_get xs at ≡ Some x) p g) in
      subst (IsReady script state) same (can_apply script journal state stores.sizes (kept.bytes_of stores) h short e.who e next)
