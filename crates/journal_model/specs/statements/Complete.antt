-- When a journal is complete, told by the journal, and the same told by a state.
use Rattle.std.specs.Prelude.{ℕ, Bool, true, false, List, ◌==◌, ◌&&◌, count_by, length}
use Rattle.std.specs.List.{list_all}
use Rattle.journal_model.specs.Types.{Actor, Entry, Kind, Script, State}
use Rattle.ttm_base.specs.declared.Actor.TheVariants as actor
use Rattle.journal_model.specs.declared.entry.Kind.TheVariants as kind
use Rattle.ttm_base.specs.ListWords.{count_from}
use Rattle.journal_model.specs.rules.State.{course}
use Rattle.journal_model.specs.rules.Commands.{commands_of}
use Rattle.journal_model.specs.rules.Legal.{state_of}

-- the threads, from 1
abbrev pub thread_numbers : Script → List ℕ
thread_numbers script = count_from 1 (length script.threads) 1

-- ---- of a state

-- a thread has answered all its commands
abbrev pub has_answered : Script → State → ℕ → Bool
has_answered script s thread = (course s thread).answered == length (commands_of script thread)

-- every command is answered, every job is done and there is no ghost
abbrev pub is_over : Script → State → Bool
is_over script s =
    list_all (has_answered script s) (thread_numbers script) && list_all (λ j. j.finished) s.core.jobs && (length s.core.ghosts == 0)

-- ---- of a journal

-- a result or refusal
abbrev pub is_answer : Kind → Bool
is_answer (kind.Result shown) = true
is_answer (kind.Refused deny) = true
is_answer _ = false

-- an entry of the thread
abbrev pub is_by_thread : ℕ → Actor → Bool
is_by_thread thread (actor.Thread t) = t == thread
is_by_thread thread (actor.Engine e) = false
is_by_thread thread actor.Reaper = false

-- how many results and refusals a thread has
abbrev pub answers_of : ℕ → List Entry → ℕ
answers_of thread journal = count_by (λ e. is_by_thread thread e.who && is_answer e.kind) journal

-- each command has its answer, every job is done and there is no ghost
abbrev pub is_complete : Script → List Entry → Bool
is_complete script journal =
    list_all (λ thread. answers_of thread journal == length (commands_of script thread)) (thread_numbers script)
    && list_all (λ j. j.finished) (state_of script journal).core.jobs
    && (length (state_of script journal).core.ghosts == 0)
