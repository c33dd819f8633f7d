-- What a command names and asks for.
use Rattle.std.specs.Prelude.{ℕ, ◌==◌, ◌-◌, Bool, true, false, List, [], ◌∷◌, Option, None, flat_map, option_and_then, unwrap_or, slice_get, if◌then◌else◌}
use Rattle.journal_model.specs.Types.{BufId, Command, Decl, FlaggedPlace, Mem, Op, Place, Script, State}
use Rattle.ttm_base.specs.declared.Op.TheVariants as op
use Rattle.ttm_base.specs.declared.Mem.TheVariants.{System}
use Rattle.journal_model.specs.declared.script.Command.TheVariants as command
use Rattle.journal_model.specs.rules.State.{course_of, same_buffer}
pub use Rattle.journal_model.specs.rules.Mentions.{buffers_of_op, first_mentions}

-- stands for a declaration that isn't there; no script names a buffer without one
abbrev pub undeclared : Decl
undeclared = record { name = []; pages = 0; prio = 0; group = None; align = 1; placement = record { list = [] } }

-- the declaration of a buffer, by its number
abbrev pub decl : Script → BufId → Decl
decl script b = unwrap_or (slice_get script.buffers b.0) undeclared

-- the commands of a thread, numbered from 1
abbrev pub commands_of : Script → ℕ → List Command
commands_of script thread = if thread == 0 then [] else unwrap_or (slice_get script.threads (thread - 1)) []

-- the command that a thread is at: the first that isn't answered, or none where all are
abbrev pub command_at_work : Script → State → ℕ → Option Command
command_at_work script s thread = option_and_then (λ c. slice_get (commands_of script thread) c.answered) (course_of s thread)

-- ---- what it names

-- an operation writes a buffer
abbrev pub writes : BufId → Op → Bool
writes b (op.Fill dst off len byte) = same_buffer b dst
writes b (op.Copy dst doff src soff len) = same_buffer b dst
writes b (op.Xor dst doff src soff len) = same_buffer b dst
writes b (op.Probe src off len) = false

-- the buffers that a command names
abbrev pub named : Command → List BufId
named (command.New b) = b ∷ []
named (command.Free b) = b ∷ []
named (command.Pin b) = b ∷ []
named (command.Unpin b) = b ∷ []
named (command.Find b) = b ∷ []
named (command.SwapOut b) = b ∷ []
named (command.Write b off bytes) = b ∷ []
named (command.Read b off len) = b ∷ []
named (command.Move b mem) = b ∷ []
named (command.Touch group) = []
named (command.Submit engine ops) = first_mentions [] (flat_map buffers_of_op ops)

-- ---- what it asks for

-- all of a memory type, as a place
abbrev pub whole : Mem → Place
whole mem = record { mem = mem; first = 0; last = 0; topdown = false; contig = false }

-- a place without a flag
abbrev pub unflagged : Place → FlaggedPlace
unflagged place = record { place = place; desired = false; fallback = false }

-- a place that isn't tried under pressure
abbrev pub as_desired : Place → FlaggedPlace
as_desired place = record { place = place; desired = true; fallback = false }

-- a place that is tried under pressure alone
abbrev pub as_fallback : Place → FlaggedPlace
as_fallback place = record { place = place; desired = false; fallback = true }

-- the list of places where a command wants its buffer
abbrev pub asked_places : Script → Command → BufId → List FlaggedPlace
asked_places script (command.Move c mem) b = unflagged (whole mem) ∷ []
asked_places script (command.SwapOut c) b = unflagged (whole System) ∷ []
asked_places script _ b = (decl script b).placement.list
