-- The buffer of a Free that is due.
use Rattle.std.proofs.Common.{◌≡◌, ℕ, ◌<◌, true, List, Some, IsTrue, length, refl, sym}
use Rattle.ttm_base.specs.declared.BufId.{BufId}
use Rattle.journal_model.specs.declared.script.Script.{Script}
use Rattle.journal_model.specs.declared.script.Command.TheVariants as command
use Rattle.journal_model.specs.declared.state.State.{State}
use Rattle.journal_model.specs.declared.state.Task.{Task}
use Rattle.journal_model.specs.declared.state.Task.TheVariants as task
use Rattle.journal_model.specs.declared.entry.Entry.{Entry}
use Rattle.journal_model.specs.rules.Commands.{command_at_work}
use Rattle.journal_model.specs.rules.Legal.{IsLegal, state_of}
use Rattle.journal_model.specs.scripts.ScriptRules.{is_script}
use Rattle.journal_model.specs.rules.Tasks.{task_of}
use Rattle.laws.proofs.law_sound.Bufs.{same_self}
use Rattle.room_state.specs.turns.Acting.{command_in, frees, free_due}
use Rattle.room_state.proofs.turns.Works.{acted_has, has_declared}

-- the command itself is at work
due_acts : (script : Script) (s : State) (t : ℕ) → free_due script s t ≡ true → task_of script s t ≡ task.Act
due_acts script s t h = by (task_of script s t) h
  where
    by : (x : Task) → frees (command_in (command_at_work script s t) x) ≡ true → x ≡ task.Act
    by task.Act g = refl
    by x g = cc

-- so the buffer is declared
pub freed_declared : (script : Script) (journal : List Entry) (t : ℕ) (b : BufId) → IsTrue (is_script script) → IsLegal script journal → free_due script (state_of script journal) t ≡ true
    → Some (command.Free b) ≡ command_at_work script (state_of script journal) t → b.0 < length script.buffers
freed_declared script journal t b fits legal due at =
    has_declared script journal fits legal t b
    (acted_has script (state_of script journal) t (command.Free b) (sym at) b (due_acts script (state_of script journal) t due) (rw (same_self b) refl))
