-- What is held after an entry, and what a legal entry is.
use Rattle.std.proofs.Common.{◌≡◌, ℕ, Bool, true, false, List, [], ◌∷◌, ◌++◌, Ok, IsSome, refl, sym, ◌∙◌, ap, subst}
use Rattle.ttm_base.specs.declared.Actor.{Actor}
use Rattle.ttm_base.specs.declared.Actor.TheVariants as actor
use Rattle.ttm_base.specs.Pages.{PageBytes}
use Rattle.journal_model.specs.declared.script.Script.{Script}
use Rattle.journal_model.specs.declared.state.State.{State}
use Rattle.journal_model.specs.declared.state.Course.{Course}
use Rattle.journal_model.specs.declared.entry.Entry.{Entry}
use Rattle.journal_model.specs.declared.entry.Kind.{Kind}
use Rattle.journal_model.specs.declared.entry.Kind.TheVariants as kind
use Rattle.journal_model.specs.rules.Next.{next}
use Rattle.journal_model.specs.rules.Apply.{apply}
use Rattle.journal_model.specs.rules.Stores.{Stores, within, showing, stores_after}
use Rattle.journal_model.specs.rules.Legal.{World, IsLegalNext, state_of, stores_of, world_of, world_after}
use Rattle.journal_model.proofs.JournalLaws.{world_of-append, IsLegal-append}
use Rattle.laws.proofs.law_state.Shown.{legal_step}
use Rattle.laws.proofs.law_sound.Along.{Stepped, stepped_of, sound_law}
use Rattle.room_representation.specs.declared.parts.Parts.{Parts}
use Rattle.room_representation.specs.Represents.{Represents}
use Rattle.room_representation.specs.Held.{AreHeld}
use Rattle.room_representation.proofs.lemma_jobs.Packets.{within_same}
use Rattle.room_representation.specs.steps.Courses.{course_at}

-- held again after an entry, where the parts tell where it leads
pub held_after : (script : Script) (journal : List Entry) (p q : Parts) (e : Entry) → AreHeld script journal p → IsLegalNext script (world_of script journal) e →
    Represents script (world_after script (world_of script journal) e).state (world_after script (world_of script journal) e).stores q → AreHeld script (journal ++ e ∷ []) q
held_after script journal p q e h legal represents =
    record {
      fits = h.fits;
      legal = IsLegal-append script journal e h.legal legal;
      represents = subst (λ (w : World). Represents script w.state w.stores q) (sym (world_of-append script journal e)) represents;
    }

-- an entry that changes no byte leaves the bytes
pub held_still : (script : Script) (journal : List Entry) (p q : Parts) (e x : Entry) → AreHeld script journal p → e ≡ x → IsLegalNext script (world_of script journal) e →
    stores_after script (state_of script journal) x.who x.kind (stores_of script journal) ≡ stores_of script journal →
    Represents script (apply script (state_of script journal) x) (stores_of script journal) q → AreHeld script (journal ++ e ∷ []) q
held_still script journal p q e x h is legal still represents =
    let w = world_of script journal in
    held_after script journal p q e h legal
    (subst (λ (y : Entry). Represents script (world_after script w y).state (world_after script w y).stores q) (sym is)
    (subst (λ (b : PageBytes). Represents script (apply script w.state x) b q) (sym (ap (within script.sizes) still ∙ within_same script.sizes w.stores h.represents.no_more)) represents))

-- the kinds that show bytes
abbrev pub shows : Kind → Bool
shows (kind.Packet n k piece) = true
shows (kind.Result r) = true
shows _ = false

-- any other is shown as it is
unshown : (script : Script) (stores : Stores) (s : State) (who : Actor) (k l : Kind) → shows l ≡ false → l ≡ showing script stores s who k → k ≡ l
unshown script stores s who (kind.Packet n k piece) l h e = let g : shows l ≡ true = ap shows e in cc
unshown script stores s who (kind.Result r) l h e = let g : shows l ≡ true = ap shows e in cc
unshown script stores s who k l h e = sym e

-- an entry that shows no bytes is its actor's step
pub step_is : (script : Script) (w : World) (e : Entry) → IsLegalNext script w e → shows e.kind ≡ false → next script w.state e.who ≡ Ok e.kind
step_is script w e h quiet =
    let st = legal_step script w e h in
    let same : st.kind ≡ e.kind = unshown script w.stores w.state e.who st.kind e.kind quiet (ap (λ (x : Entry). x.kind) st.entry) in
    st.step ∙ ap Ok same

module _ (script : Script) (journal : List Entry) (e x : Entry) (is : e ≡ x) (legal : IsLegalNext script (world_of script journal) e) where
  -- so where it is written out
  pub step_as : shows x.kind ≡ false → next script (state_of script journal) x.who ≡ Ok x.kind
  step_as quiet = subst (λ (y : Entry). next script (state_of script journal) y.who ≡ Ok y.kind) is (step_is script (world_of script journal) e legal (ap (λ (y : Entry). shows y.kind) is ∙ quiet))

module _ (script : Script) (journal : List Entry) (p : Parts) (held : AreHeld script journal p) (t : ℕ) (k : Kind) (e : Entry) (is : e ≡ record { who = actor.Thread t; kind = k }) (legal : IsLegalNext script (world_of script journal) e) (quiet : shows k ≡ false) where
  -- what the entry of a thread tells
  pub thread_stepped : Stepped script (state_of script journal) t k
  thread_stepped =
      stepped_of script (state_of script journal) t k (sound_law script journal held.fits held.legal).owned.courses
      (step_as script journal e (record { who = actor.Thread t; kind = k }) is legal quiet)

  -- the thread is there
  pub thread_there : IsSome (course_at p.courses t)
  thread_there = subst (λ (cs : List Course). IsSome (course_at cs t)) (sym held.represents.courses) thread_stepped.here
