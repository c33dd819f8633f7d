-- Each command of each thread has one answer, in order.
use Rattle.std.specs.Prelude.{◌≡◌, ℕ, ◌<◌, ◌≤◌, true, List, Some, ◌&&◌, length, slice_get, take}
use Rattle.journal_model.specs.declared.script.Script.{Script}
use Rattle.journal_model.specs.declared.script.Command.{Command}
use Rattle.journal_model.specs.declared.entry.Entry.{Entry}
use Rattle.journal_model.specs.rules.Commands.{commands_of, command_at_work}
use Rattle.journal_model.specs.statements.Complete.{is_answer, is_by_thread, answers_of, is_complete}
use Rattle.journal_model.specs.rules.Legal.{state_of}

-- the entry at place i of the journal is a result or refusal of the thread, after n others
pub record AnswersAt (journal : List Entry) (t n i : ℕ) : Type 0 where
  pub entry : Entry
  pub here : slice_get journal i ≡ Some entry
  pub answers : (is_by_thread t entry.who && is_answer entry.kind) ≡ true
  pub number : answers_of t (take i journal) ≡ n

-- the answer at place i has the number n of the command at which the thread is in the state after the entries before it
pub record IsCommandOf (script : Script) (journal : List Entry) (t n i : ℕ) : Type 0 where
  pub command : Command
  pub numbered : slice_get (commands_of script t) n ≡ Some command
  pub at_work : command_at_work script (state_of script (take i journal)) t ≡ Some command

-- answers have the numbers from 0 on, each once, and each is that of the command of its number; a thread has no more answers
-- than commands, and in a complete journal as many
pub record AreInOrder (script : Script) (journal : List Entry) : Type 0 where
  pub each : (t n : ℕ) → n < answers_of t journal → (i : ℕ) × AnswersAt journal t n i
  pub once : (t n i j : ℕ) → AnswersAt journal t n i → AnswersAt journal t n j → i ≡ j
  pub commands : (t n i : ℕ) → AnswersAt journal t n i → IsCommandOf script journal t n i
  pub no_more : (t : ℕ) → answers_of t journal ≤ length (commands_of script t)
  pub all : is_complete script journal ≡ true → (t : ℕ) → answers_of t journal ≡ length (commands_of script t)
