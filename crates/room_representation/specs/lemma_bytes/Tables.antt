-- Kinds of entries that leave each page table as it is.
use Rattle.std.specs.Prelude.{◌≡◌, ℕ, Bool, true, false, List, Some}
use Rattle.ttm_base.specs.declared.Actor.{Actor}
use Rattle.ttm_base.specs.declared.BufId.{BufId}
use Rattle.ttm_base.specs.Pages.{slot}
use Rattle.journal_model.specs.declared.entry.Kind.{Kind}
use Rattle.journal_model.specs.declared.entry.Kind.TheVariants as kind
use Rattle.journal_model.specs.declared.script.Command.TheVariants as command
use Rattle.journal_model.specs.declared.script.Script.{Script}
use Rattle.journal_model.specs.declared.state.Buffer.{Buffer}
use Rattle.journal_model.specs.declared.state.Core.{Core}
use Rattle.journal_model.specs.declared.state.State.{State}
use Rattle.journal_model.specs.rules.State.{buffer}
use Rattle.journal_model.specs.rules.Apply.{thread_of}
use Rattle.journal_model.specs.rules.Commands.{command_at_work}
use Rattle.journal_model.specs.rules.Holds.{held_frames, held_slots}
use Rattle.journal_model.specs.rules.Places.{page_at}

-- an entry of the kind neither makes nor frees a buffer, nor changes a table, nor moves frames to a ghost or from one
abbrev pub keeps_tables : Kind → Bool
keeps_tables (kind.New b) = false
keeps_tables (kind.Free b g) = false
keeps_tables (kind.Populate b page f) = false
keeps_tables (kind.SwapIn b page k f) = false
keeps_tables (kind.Depopulate b) = false
keeps_tables (kind.Move b mem n l) = false
keeps_tables (kind.SwapOut b page k) = false
keeps_tables (kind.Reap g) = false
keeps_tables _ = true

-- the same frames and slots are held
pub record HoldsTheSame (old new : Core) : Type 0 where
  pub frames : held_frames new ≡ held_frames old
  pub slots : held_slots new ≡ held_slots old

-- no page of the buffer stands in a slot
abbrev pub IsOffSlots : Buffer → Type 0
IsOffSlots x = (i k : ℕ) → page_at x i ≡ slot k → ⊥

-- the result of a write writes to no slot
abbrev pub SparesSlots : Script → State → Actor → Kind → Type 0
SparesSlots script s who (kind.Result r) = (b : BufId) (off : ℕ) (bytes : List ℕ) → command_at_work script s (thread_of who) ≡ Some (command.Write b off bytes) → IsOffSlots (buffer s b)
SparesSlots script s who _ = Unit {0}
