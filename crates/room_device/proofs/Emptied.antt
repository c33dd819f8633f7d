-- A victim none of whose pages is due to go to a slot is let go.
use Rattle.std.proofs.Common.{◌≡◌, ℕ, Bool, true, false, Option, Some, None, Ok, refl, sym, ◌∙◌, ap}
use Rattle.std.specs.Prelude.{◌&&◌, is_some}
use Rattle.std.proofs.lemmas.Bool.{false≢true, true≢false}
use Rattle.ttm_base.specs.declared.Actor.TheVariants as actor
use Rattle.ttm_base.specs.declared.BufId.{BufId}
use Rattle.journal_model.specs.declared.script.Script.{Script}
use Rattle.journal_model.specs.declared.state.Course.{Course}
use Rattle.journal_model.specs.declared.state.State.{State}
use Rattle.journal_model.specs.declared.state.Stage.{Stage}
use Rattle.journal_model.specs.declared.state.Stage.TheVariants as stage
use Rattle.journal_model.specs.declared.state.Task.TheVariants as task
use Rattle.journal_model.specs.declared.entry.Kind.TheVariants as kind
use Rattle.journal_model.specs.declared.entry.Why.{Why}
use Rattle.journal_model.specs.declared.entry.Why.TheVariants as why
use Rattle.journal_model.specs.rules.State.{buffer, course}
use Rattle.journal_model.specs.rules.Commands.{command_at_work}
use Rattle.journal_model.specs.rules.Dry.{has_frame}
use Rattle.journal_model.specs.rules.Holds.{free_slot}
use Rattle.journal_model.specs.rules.PageSteps.{first_frame_page, once_idle, step_of_empty, why_caught}
use Rattle.journal_model.specs.rules.Search.{Step}
use Rattle.journal_model.specs.rules.Tasks.{stage_of, task_of}
use Rattle.evict_core.specs.Tasks.{lets_go}
use Rattle.swap_core.specs.Due.{can_swap, if_for_swap, swap_out_due, swapped_at}
use Rattle.room_state.specs.turns.Turns.{Kept, entry_of, state_behind}
use Rattle.room_state.proofs.turns.Threads.{command_at, entry_is, next_at}

module _ (script : Script) (s : State) (b : BufId) where
  -- the step of a victim, by its frames and the free slot
  abbrev by_frame : Bool → Option ℕ → Step
  by_frame q o =
      elim q [
        | false ↦ Ok (kind.Loose b)
        | true ↦ elim o [ None ↦ Ok (kind.Loose b) | Some slot ↦ once_idle s.core b (kind.SwapOut b (first_frame_page (buffer s b)) slot) ]
      ]

  -- by its cause
  abbrev by_cause : Option Why → Step
  by_cause o =
      elim o [
        | Some w ↦ elim w [
          | why.Swap ↦ by_frame (has_frame (buffer s b)) (free_slot script s.core)
          | why.Tt ↦ Ok (kind.Loose b)
          | why.Vram ↦ Ok (kind.Loose b)
        ]
        | None ↦ Ok (kind.Loose b)
      ]

  goes_by_frame : (q : Bool) (o : Option ℕ) → (q && is_some o) ≡ false → by_frame q o ≡ Ok (kind.Loose b)
  goes_by_frame false o h = refl
  goes_by_frame true None h = refl
  goes_by_frame true (Some slot) h = absurd (true≢false h)

  goes_by_cause : (o : Option Why) → can_swap script s (if_for_swap b o) ≡ false → by_cause o ≡ Ok (kind.Loose b)
  goes_by_cause None h = refl
  goes_by_cause (Some why.Swap) h = goes_by_frame (has_frame (buffer s b)) (free_slot script s.core) h
  goes_by_cause (Some why.Tt) h = refl
  goes_by_cause (Some why.Vram) h = refl

  goes : (c : Course) → can_swap script s (if_for_swap b (why_caught c b)) ≡ false → step_of_empty script s c b ≡ Ok (kind.Loose b)
  goes c h = goes_by_cause (why_caught c b) h

abbrev is_empty : Stage → Bool
is_empty stage.Empty = true
is_empty x = false

-- it is let go
pub empty_lets_go : (r : Kept) (t : ℕ) (b : BufId) → task_of r.script (state_behind r) t ≡ task.Empty b → swap_out_due r.script (state_behind r) t ≡ false → lets_go (entry_of r (actor.Thread t)) ≡ true
empty_lets_go r t b is h =
    let s = state_behind r in
    let work = command_at r.script s t stage.Empty (ap stage_of is) (λ i. false≢true (ap is_empty i)) in
    let due = ap (λ x. can_swap r.script s (swapped_at (command_at_work r.script s t) (course s t) x)) (sym is) ∙ h in
    let step = next_at r.script s t work.0 (task.Empty b) work.1 is ∙ goes r.script s b (course s t) due in
    ap lets_go (entry_is r t (kind.Loose b) refl step)
