-- What must hold of a state for an entry to be applied. Each entry that is legal next meets it.
use Rattle.std.specs.Prelude.{ℕ, ◌+◌, ◌^◌, ◌<◌, IsTrue, length, IsSome}
use Rattle.std.specs.List.{list_all}
use Rattle.ttm_base.specs.declared.BufId.{BufId}
use Rattle.ttm_base.specs.declared.JobId.{JobId}
use Rattle.ttm_base.specs.declared.Actor.{Actor}
use Rattle.journal_model.specs.declared.script.Script.{Script}
use Rattle.journal_model.specs.declared.state.State.{State}
use Rattle.journal_model.specs.declared.entry.Entry.{Entry}
use Rattle.journal_model.specs.declared.entry.Kind.{Kind}
use Rattle.journal_model.specs.declared.entry.Kind.TheVariants as kind
use Rattle.journal_model.specs.rules.State.{course_of, course, buffer}
use Rattle.rules_state.specs.parts.Pins.{HasPinsLeft}
use Rattle.journal_model.specs.rules.Commands.{command_at_work}
use Rattle.journal_model.specs.rules.Apply.{thread_of, engine_of}
pub use Rattle.journal_model.specs.code.Jobs.{has_packets_left}

-- there is a thread of this number
abbrev pub IsThread : State → ℕ → Type 0
IsThread s t = IsSome (course_of s t)

-- a thread may answer one more command
pub record CanAnswer (s : State) (t : ℕ) : Type 0 where
  pub there : IsThread s t
  pub room : (course s t).answered + 1 < 2 ^ 32

-- a thread may answer the command that it is at
pub record CanShowResult (script : Script) (s : State) (t : ℕ) : Type 0 where
  pub answer : CanAnswer s t
  pub pins : HasPinsLeft s.reservations (command_at_work script s t)

-- a search may go on after its k-th place
pub record CanGoDry (s : State) (t k : ℕ) : Type 0 where
  pub there : IsThread s t
  pub room : k + 1 < 2 ^ 32

-- one more packet of the job can be counted
abbrev pub CanRun : State → JobId → Type 0
CanRun s i = IsTrue (list_all (has_packets_left i) s.core.jobs)

-- the pages of a buffer can be counted
abbrev pub HasShortTable : State → BufId → Type 0
HasShortTable s b = length (buffer s b).table < 2 ^ 32

-- what must hold of the state for an entry of each kind
abbrev pub IsReadyFor : Script → State → Actor → Kind → Type 0
IsReadyFor script s who (kind.Ticket stamp) = IsThread s (thread_of who)
IsReadyFor script s who (kind.Reserve b) = IsThread s (thread_of who)
IsReadyFor script s who (kind.Backoff b stamp) = IsThread s (thread_of who)
IsReadyFor script s who (kind.New b) = IsThread s (thread_of who)
IsReadyFor script s who (kind.Free b g) = IsThread s (thread_of who)
IsReadyFor script s who (kind.Take b mem spans) = IsThread s (thread_of who)
IsReadyFor script s who (kind.Catch b w) = IsThread s (thread_of who)
IsReadyFor script s who (kind.Loose b) = IsThread s (thread_of who)
IsReadyFor script s who (kind.Skip b) = IsThread s (thread_of who)
IsReadyFor script s who (kind.Dry b k w) = CanGoDry s (thread_of who) k
IsReadyFor script s who (kind.NoPages b) = IsThread s (thread_of who)
IsReadyFor script s who (kind.Arm engine n) = IsThread s (thread_of who)
IsReadyFor script s who (kind.Packet n k piece) = CanRun s (record { ctx = engine_of who; num = n })
IsReadyFor script s who (kind.Bulk group) = IsThread s (thread_of who)
IsReadyFor script s who (kind.Result r) = CanShowResult script s (thread_of who)
IsReadyFor script s who (kind.Refused d) = CanAnswer s (thread_of who)
IsReadyFor script s who (kind.Untake b mem) = Unit {0}
IsReadyFor script s who (kind.Populate b page frame) = Unit {0}
IsReadyFor script s who (kind.SwapIn b page slot frame) = Unit {0}
IsReadyFor script s who (kind.Depopulate b) = Unit {0}
IsReadyFor script s who (kind.Bind b) = Unit {0}
IsReadyFor script s who (kind.Unbind b) = Unit {0}
IsReadyFor script s who (kind.Move b mem n l) = HasShortTable s b
IsReadyFor script s who (kind.SwapOut b page slot) = Unit {0}
IsReadyFor script s who (kind.Done n) = Unit {0}
IsReadyFor script s who (kind.Reap g) = Unit {0}

-- what must hold of the state for the entry to be applied
abbrev pub IsReady : Script → State → Entry → Type 0
IsReady script s e = IsReadyFor script s e.who e.kind
