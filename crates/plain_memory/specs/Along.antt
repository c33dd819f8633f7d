-- What an entry does to the plain memory and to the numbers of answered commands, where its command is known.
use Rattle.std.specs.Prelude.{◌≡◌, ℕ, ◌+◌, ◌≤◌, Bool, true, false, List, Option, length, slice_get, slice_index, slice_set, if◌then◌else◌}
use Rattle.journal_model.specs.declared.script.Script.{Script}
use Rattle.journal_model.specs.declared.script.Command.{Command}
use Rattle.journal_model.specs.declared.entry.Kind.{Kind}
use Rattle.journal_model.specs.declared.entry.Kind.TheVariants as kind
use Rattle.journal_model.specs.rules.ApplyJobs.{ops_of}
use Rattle.journal_model.specs.rules.Commands.{commands_of}
use Rattle.journal_model.specs.rules.PlainMemory.{Memory, Plain, with_zeros, after_ops, memory_after_result}
use Rattle.plain_memory.specs.Kept.{memory_in, sizes_in, sizes_of}

-- the memory after an entry of the kind, of a thread at `command`
abbrev pub memory_after : Option Command → Kind → Memory → Memory
memory_after command (kind.New b) memory = with_zeros b memory
memory_after command (kind.Free b g) memory = with_zeros b memory
memory_after command (kind.Arm engine n) memory = after_ops memory (ops_of command)
memory_after command (kind.Result r) memory = memory_after_result command memory
memory_after command _ memory = memory

-- an entry of the kind answers a command
abbrev pub is_answer : Kind → Bool
is_answer (kind.Result r) = true
is_answer (kind.Refused d) = true
is_answer _ = false

-- the command that a thread is at, by the numbers of answered commands of each thread from 0 on
abbrev pub command_by : Script → List ℕ → ℕ → Option Command
command_by script counts thread = slice_get (commands_of script thread) (slice_index counts thread)

-- the numbers of answered commands after an entry of the thread
abbrev pub counts_after : ℕ → Kind → List ℕ → List ℕ
counts_after thread k counts = if is_answer k then slice_set counts thread (slice_index counts thread + 1) else counts

-- kept bytes and numbers of answered commands are those of a place of a journal, for each buffer and thread of the script
pub record IsPlain (script : Script) (contents : List (List ℕ)) (counts : List ℕ) (p : Plain) : Type 0 where
  pub sizes : sizes_in contents ≡ sizes_of script
  pub memory : memory_in contents ≡ p.memory
  pub threads : length counts ≡ length script.threads + 1
  pub answered : (t : ℕ) → t ≤ length script.threads → slice_index counts t ≡ p.answered t
