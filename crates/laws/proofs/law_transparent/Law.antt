-- Every legal journal is transparent.
use Rattle.std.proofs.Common.{◌≡◌, ℕ, List, [], ◌∷◌, ◌++◌, Some, IsTrue, refl, sym, subst, ◌∙◌, ap}
use Rattle.std.specs.Prelude.{slice_get}
use Rattle.ttm_base.specs.declared.Actor.{Actor}
use Rattle.journal_model.specs.declared.script.Script.{Script}
use Rattle.journal_model.specs.declared.state.State.{State}
use Rattle.journal_model.specs.declared.state.Victim.{Victim}
use Rattle.journal_model.specs.declared.entry.Entry.{Entry}
use Rattle.journal_model.specs.declared.entry.Kind.{Kind}
use Rattle.journal_model.specs.declared.entry.Kind.TheVariants as kind
use Rattle.journal_model.specs.rules.State.{buffer, course}
use Rattle.journal_model.specs.scripts.ScriptRules.{is_script}
use Rattle.journal_model.specs.rules.Apply.{applied, thread_of}
use Rattle.journal_model.specs.rules.Stores.{Stores, within, stores_after, showing}
use Rattle.journal_model.specs.rules.Legal.{World, first_world, world_after, world_along, world_of, state_of, IsLegalNext, IsLegalFrom, IsLegal}
use Rattle.journal_model.specs.rules.PlainMemory.{Plain, first_plain, plain_after, plain_after_kind}
use Rattle.journal_model.specs.rules.Transparent.{IsKindPlain, IsTransparentFrom, IsTransparent}
use Rattle.laws.proofs.law_state.Shown.{legal_step, shown_alike}
use Rattle.laws.proofs.law_state.Rules.{rules_of}
use Rattle.laws.proofs.law_state.GoodStates.{good_law}
use Rattle.laws.proofs.law_state.Pins.{courses_law}
use Rattle.laws.proofs.law_owners.Law.{AreHeldOnce, once_law}
use Rattle.laws.proofs.law_sound.Along.{sound_law, first_course}
use Rattle.laws.specs.lemma_bytes_told.Told.{OnWay}
use Rattle.laws.proofs.lemma_bytes_told.Shapes.{first_shapes}
use Rattle.laws.proofs.law_transparent.First.{first_viewed}
use Rattle.laws.proofs.law_transparent.Steps.{Clear, Known, step_clear}

-- ---- one entry more

pub world_push : (script : Script) (w : World) (xs : List Entry) (e : Entry) → world_along script w (xs ++ e ∷ []) ≡ world_after script (world_along script w xs) e
world_push script w [] e = refl
world_push script w (x ∷ xs) e = world_push script (world_after script w x) xs e

pub legal_push : (script : Script) (w : World) (xs : List Entry) (e : Entry) → IsLegalFrom script w xs → IsLegalNext script (world_along script w xs) e → IsLegalFrom script w (xs ++ e ∷ [])
legal_push script w [] e l n = (n, tt)
legal_push script w (x ∷ xs) e l n = (l.0, legal_push script (world_after script w x) xs e l.1 n)

-- what an entry shows changes nothing
shown_stores : (script : Script) (s : State) (bytes : Stores) (who : Actor) (k : Kind) → stores_after script s who (showing script bytes s who k) bytes ≡ stores_after script s who k bytes
shown_stores script s bytes who (kind.Ticket stamp) = refl
shown_stores script s bytes who k = refl

shown_plain : (script : Script) (s : State) (bytes : Stores) (who : Actor) (p : Plain) (t : ℕ) (k : Kind) → plain_after_kind script p t (showing script bytes s who k) ≡ plain_after_kind script p t k
shown_plain script s bytes who p t (kind.Ticket stamp) = refl
shown_plain script s bytes who p t k = refl

-- ---- along a journal

-- victims are on their way in each state that a legal journal leads to
abbrev pub HaveWays : Script → Type 0
HaveWays script =
    (journal : List Entry) → IsLegal script journal → (t : ℕ) (v : Victim) (i : ℕ) → slice_get (course (state_of script journal) t).caught i ≡ Some v → OnWay (buffer (state_of script journal) v.b) v.why

abbrev pub ClearWorld : Script → World → Plain → Type 0
ClearWorld script w p = Clear script w.state w.stores p

module _ (script : Script) (fits : IsTrue (is_script script)) (ways : HaveWays script) where
  pub known : (journal : List Entry) → IsLegal script journal → Known script (state_of script journal)
  known journal l = record {
    held = once_law script journal fits l;
    good = good_law script fits journal l;
    sound = sound_law script journal fits l;
    courses = courses_law script journal l;
    ways = ways journal l;
  }

  -- the next entry shows what it has to, and the view goes on
  pub one_more : (journal : List Entry) (e : Entry) (p : Plain) → IsLegal script journal → (n : IsLegalNext script (world_of script journal) e) → ClearWorld script (world_of script journal) p →
      ClearWorld script (world_after script (world_of script journal) e) (plain_after script p e) × IsKindPlain script p e.who e.kind
  one_more journal e p l n c =
      let w : World = world_of script journal in
      let step = legal_step script (world_of script journal) e n in
      let next_held : AreHeldOnce script (state_of script (journal ++ e ∷ [])).core = once_law script (journal ++ e ∷ []) fits (legal_push script (first_world script) journal e l n) in
      let held : AreHeldOnce script (applied script (world_of script journal).state e.who step.kind).core =
      subst (λ (s : State). AreHeldOnce script s.core) (ap (λ (x : World). x.state) (world_push script (first_world script) journal e) ∙ step.state) next_held in
      let now = step_clear script (rules_of script fits) (world_of script journal).state (world_of script journal).stores p c (known journal l) e.who step.kind step.step held in
      subst (λ (x : Entry). ClearWorld script (world_after script (world_of script journal) x) (plain_after script p x) × IsKindPlain script p x.who x.kind) (sym step.entry)
      (shown_so (world_of script journal) e.who step.kind now.0, now.1)
    where
      shown_so : (w : World) (who : Actor) (k : Kind) → Clear script (applied script w.state who k) (within script.sizes (stores_after script w.state who k w.stores)) (plain_after_kind script p (thread_of who) k) →
          Clear script (applied script w.state who (showing script w.stores w.state who k)) (within script.sizes (stores_after script w.state who (showing script w.stores w.state who k) w.stores)) (plain_after_kind script p (thread_of who) (showing script w.stores w.state who k))
      shown_so w who k h =
          subst (λ (s : State). Clear script s (within script.sizes (stores_after script w.state who (showing script w.stores w.state who k) w.stores)) (plain_after_kind script p (thread_of who) (showing script w.stores w.state who k))) (sym (shown_alike script w.stores w.state w.state who k))
          (subst (λ (st : Stores). Clear script (applied script w.state who k) (within script.sizes st) (plain_after_kind script p (thread_of who) (showing script w.stores w.state who k))) (sym (shown_stores script w.state w.stores who k))
          (subst (λ (q : Plain). Clear script (applied script w.state who k) (within script.sizes (stores_after script w.state who k w.stores)) q) (sym (shown_plain script w.state w.stores who p (thread_of who) k)) h))

  along : (journal es : List Entry) (p : Plain) → IsLegal script journal → IsLegalFrom script (world_of script journal) es → ClearWorld script (world_of script journal) p → IsTransparentFrom script p es
  along journal [] p l m c = tt
  along journal (e ∷ es) p l m c =
      let now = one_more journal e p l m.0 c in
      let push = world_push script (first_world script) journal e in (
        now.1,
        along (journal ++ e ∷ []) es (plain_after script p e) (legal_push script (first_world script) journal e l m.0) (subst (λ (w : World). IsLegalFrom script w es) (sym push) m.1)
            (subst (λ (w : World). ClearWorld script w (plain_after script p e)) (sym push) now.0),
      )

  pub first_clear : ClearWorld script (first_world script) first_plain
  first_clear = record {
    viewed = first_viewed script;
    shapes = first_shapes script.buffers;
    numbers = record { below = λ i h e. cc; distinct = tt; ring = λ i e. cc };
    undue = λ n k. refl;
    answered = λ t. sym (ap (λ c. c.answered) (first_course script t));
  }

  pub transparent_given : (journal : List Entry) → IsLegal script journal → IsTransparent script journal
  transparent_given journal l = along [] journal first_plain tt l first_clear
