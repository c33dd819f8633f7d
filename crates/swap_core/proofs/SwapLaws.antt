-- The SwapOut that is due.
use Rattle.std.proofs.Common.{◌≡◌, ℕ, ◌<◌, ◌≤◌, Bool, true, false, List, Option, Some, None, Ok, IsTrue, length, refl, sym, ◌∙◌, ap, arith}
use Rattle.std.specs.Prelude.{◌&&◌, is_some, option_and_then, option_map, unwrap_or}
use Rattle.ttm_base.specs.declared.Actor.TheVariants as actor
use Rattle.ttm_base.specs.declared.BufId.{BufId}
use Rattle.ttm_base.specs.declared.JobId.{JobId}
use Rattle.ttm_base.specs.declared.Need.TheVariants as need
use Rattle.ttm_base.specs.declared.Deny.TheVariants as deny
use Rattle.journal_model.specs.declared.script.Script.{Script}
use Rattle.journal_model.specs.declared.script.Command.{Command}
use Rattle.journal_model.specs.declared.script.Command.TheVariants as command
use Rattle.journal_model.specs.declared.state.State.{State}
use Rattle.journal_model.specs.declared.state.Buffer.{Buffer}
use Rattle.journal_model.specs.declared.state.Stage.TheVariants as stage
use Rattle.journal_model.specs.declared.state.Task.{Task}
use Rattle.journal_model.specs.declared.state.Task.TheVariants as task
use Rattle.journal_model.specs.declared.entry.Entry.{Entry}
use Rattle.journal_model.specs.declared.entry.Kind.{Kind}
use Rattle.journal_model.specs.declared.entry.Kind.TheVariants as kind
use Rattle.journal_model.specs.declared.entry.Why.{Why}
use Rattle.journal_model.specs.declared.entry.Why.TheVariants as why
use Rattle.journal_model.specs.rules.State.{buffer, course, live_in, new_buffer}
use Rattle.journal_model.specs.rules.Commands.{command_at_work}
use Rattle.journal_model.specs.rules.Dry.{has_frame}
use Rattle.journal_model.specs.rules.Holds.{free_slot}
use Rattle.journal_model.specs.rules.Legal.{IsLegal, state_of}
use Rattle.journal_model.specs.rules.Next.{next, plain, step_of_act}
use Rattle.journal_model.specs.rules.PageSteps.{first_frame_page, once_idle, step_of_empty, step_of_swap_out, unless_waiting, why_caught}
use Rattle.journal_model.specs.scripts.ScriptRules.{is_script}
use Rattle.journal_model.specs.rules.Search.{Step}
use Rattle.journal_model.specs.rules.Tasks.{stage_of, task_of}
use Rattle.journal_model.specs.rules.Waits.{waited_for, jobs_before_write}
use Rattle.laws.proofs.law_sound.Reservations.{live_within}
use Rattle.laws.proofs.law_state.GoodStates.{good_law, table_pages}
use Rattle.laws.proofs.law_state.Rules.{rules_of}
use Rattle.room_state.specs.turns.Turns.{Kept, state_behind}
use Rattle.room_state.specs.turns.Acting.{made_unless}
use Rattle.room_state.specs.turns.Turns.{entry_by, entry_of, step_by}
use Rattle.room_state.proofs.turns.Threads.{command_at, next_at}
use Rattle.room_state.proofs.turns.Turned.{is_quiet_step, quiet_turn}
use Rattle.swap_core.specs.Due.{can_swap, if_for_swap, if_swapout, job_before_swap, swapped, swapped_at, swap_out_due}

-- ---- pages of a buffer

-- a buffer has few pages, and none where it is dead
pub few_pages : (script : Script) (journal : List Entry) → IsTrue (is_script script) → IsLegal script journal → (b : BufId) → length (buffer (state_of script journal) b).table ≤ 4096
few_pages script journal fits legal b = by (live_in (state_of script journal).core.buffers b) refl
  where
    by : (o : Option Buffer) → live_in (state_of script journal).core.buffers b ≡ o → length (unwrap_or o (new_buffer 0)).table ≤ 4096
    by None e = omega arith
    by (Some x) e = (table_pages script (rules_of script fits) (state_of script journal) (good_law script fits journal legal) b x e).1

-- one with a frame is live
framed_live : (o : Option Buffer) → has_frame (unwrap_or o (new_buffer 0)) ≡ true → is_some o ≡ true
framed_live None h = cc
framed_live (Some x) h = refl

-- so it is declared
framed_declared : (script : Script) (journal : List Entry) → IsTrue (is_script script) → IsLegal script journal → (b : BufId) → has_frame (buffer (state_of script journal) b) ≡ true → b.0 < length script.buffers
framed_declared script journal fits legal b h =
    let s = state_of script journal in
    let below = live_within s.core.buffers b.0 (framed_live (live_in s.core.buffers b) h) in
    let many = (good_law script fits journal legal).many in
    omega (arith, below, many)

left_true : (a b : Bool) → (a && b) ≡ true → a ≡ true
left_true true b h = refl
left_true false b h = cc

-- ---- its step

module _ (script : Script) (s : State) (t : ℕ) (b : BufId) (of : swapped script s t ≡ Some b) (due : swap_out_due script s t ≡ true) where
  framed : has_frame (buffer s b) ≡ true
  framed = left_true (has_frame (buffer s b)) (is_some (free_slot script s.core)) (ap (can_swap script s) (sym of) ∙ due)

  module _ (slot : ℕ) (free : Some slot ≡ free_slot script s.core) where
    abbrev goes : Step
    goes = once_idle s.core b (kind.SwapOut b (first_frame_page (buffer s b)) slot)

    out : (no_frame no_slot : Step) → step_of_swap_out script s b no_frame no_slot ≡ goes
    out no_frame no_slot =
        ap (λ q. elim q [
          | false ↦ no_frame
          | true ↦ elim (free_slot script s.core) [ None ↦ no_slot | Some k ↦ once_idle s.core b (kind.SwapOut b (first_frame_page (buffer s b)) k) ]
        ]) framed
        ∙ ap (λ o. elim o [ None ↦ no_slot | Some k ↦ once_idle s.core b (kind.SwapOut b (first_frame_page (buffer s b)) k) ]) (sym free)

    -- of a victim
    emptied : (v : BufId) (w : Option Why) → why_caught (course s t) v ≡ w → if_for_swap v w ≡ Some b → step_of_empty script s (course s t) v ≡ goes
    emptied v (Some why.Swap) e h =
        let same : v ≡ b = cc in
        ap (λ w. elim w [
          | Some w ↦ elim w [
            | why.Swap ↦ step_of_swap_out script s v (Ok (kind.Loose v)) (Ok (kind.Loose v))
            | why.Tt ↦ Ok (kind.Loose v)
            | why.Vram ↦ Ok (kind.Loose v)
          ]
          | None ↦ Ok (kind.Loose v)
        ]) e
        ∙ ap (λ d. step_of_swap_out script s d (Ok (kind.Loose d)) (Ok (kind.Loose d))) same ∙ out (Ok (kind.Loose b)) (Ok (kind.Loose b))
    emptied v (Some why.Tt) e h = cc
    emptied v (Some why.Vram) e h = cc
    emptied v None e h = cc

    -- of a command
    acted : (o : Option Command) → command_at_work script s t ≡ o → task_of script s t ≡ task.Act → if_swapout o ≡ Some b → next script s (actor.Thread t) ≡ goes
    acted (Some (command.SwapOut d)) at is h =
        let same : d ≡ b = cc in
        next_at script s t (command.SwapOut d) task.Act at is ∙ ap (λ d. step_of_act script s (command.SwapOut d)) same ∙ out plain (Ok (kind.Refused deny.NoSwap))
    acted (Some cmd) at is h = cc
    acted None at is h = cc

    step_at : (x : Task) → task_of script s t ≡ x → swapped_at (command_at_work script s t) (course s t) x ≡ Some b → next script s (actor.Thread t) ≡ goes
    step_at (task.Empty v) is h =
        let cmd = command_at script s t stage.Empty (ap stage_of is) (λ e. cc) in
        next_at script s t cmd.0 (task.Empty v) cmd.1 is ∙ emptied v (why_caught (course s t) v) refl h
    step_at task.Act is h = acted (command_at_work script s t) refl is h
    step_at x is h = cc

    swap_step : next script s (actor.Thread t) ≡ goes
    swap_step = step_at (task_of script s t) refl of

-- ---- its entry

quiet_swap : (w : Option JobId) (k : Kind) → is_quiet_step (Ok k) ≡ true → is_quiet_step (unless_waiting w k) ≡ true
quiet_swap None k h = h
quiet_swap (Some job) k h = refl

told_by : (w : Option JobId) (k : Kind) → step_by (unless_waiting w k) ≡ made_unless (option_map need.Fence w)
told_by None k = refl
told_by (Some job) k = refl

module _ (r : Kept) (t : ℕ) (b : BufId) (of : swapped r.script (state_behind r) t ≡ Some b) (due : swap_out_due r.script (state_behind r) t ≡ true) where
  pub swap_declared : IsTrue (is_script r.script) → IsLegal r.script r.journal → b.0 < length r.script.buffers
  swap_declared fits legal = framed_declared r.script r.journal fits legal b (framed r.script (state_behind r) t b of due)

  module _ (slot : ℕ) (free : Some slot ≡ free_slot r.script (state_behind r).core) (step : Step) (is : step ≡ once_idle (state_behind r).core b (kind.SwapOut b (first_frame_page (buffer (state_behind r) b)) slot)) where
    pub swap_turn : entry_of r (actor.Thread t) ≡ entry_by (actor.Thread t) step
    swap_turn =
        let s = state_behind r in
        quiet_turn r (actor.Thread t) (once_idle s.core b (kind.SwapOut b (first_frame_page (buffer s b)) slot))
        (quiet_swap (waited_for s.core (jobs_before_write (buffer s b))) (kind.SwapOut b (first_frame_page (buffer s b)) slot) refl)
        (swap_step r.script s t b of due slot free)
        ∙ ap (entry_by (actor.Thread t)) (sym is)

    -- what it needs first
    pub swap_waits : step_by step ≡ made_unless (option_map need.Fence (job_before_swap r.script (state_behind r) t))
    swap_waits =
        let s = state_behind r in
        ap step_by is ∙ told_by (waited_for s.core (jobs_before_write (buffer s b))) (kind.SwapOut b (first_frame_page (buffer s b)) slot)
        ∙ ap (λ o. made_unless (option_map need.Fence (option_and_then (λ b. waited_for s.core (jobs_before_write (buffer s b))) o))) (sym of)
