-- The frames and the swap slots that are free, as a mark for each.
use Rattle.std.specs.Prelude.{◌≡◌, ℕ, ◌<◌, ◌&&◌, Bool, false, not, List, Option, Some, None, length, nat_lt, slice_index_or, slice_set}
use Rattle.journal_model.specs.declared.script.Script.{Script}
use Rattle.journal_model.specs.declared.state.Core.{Core}
use Rattle.journal_model.specs.rules.Holds.{has_number, held_frames, held_slots}
use Rattle.rules_holds.specs.declared.free_sets.FreeSets.{FreeSets}

-- of the numbers below n those whose mark isn't set, and no others
pub record AreTurned (marks : List Bool) (n : ℕ) (free : List Bool) : Type 0 where
  pub len : length free ≡ length marks
  pub turned : (k : ℕ) → k < length marks → slice_index_or free k false ≡ (nat_lt k n && not (slice_index_or marks k false))

-- a mark for each number below the size, set where it isn't held
pub record AreUnheld (size : ℕ) (held : List ℕ) (free : List Bool) : Type 0 where
  pub len : length free ≡ size
  pub unheld : (n : ℕ) → n < size → slice_index_or free n false ≡ not (has_number held n)

-- the frames and the slots that are free in a state
pub record AreFree (script : Script) (core : Core) (free : FreeSets) : Type 0 where
  pub frames : AreUnheld script.sizes.frames (held_frames core) free.frames
  pub slots : AreUnheld script.sizes.swap (held_slots core) free.slots

-- the mark of a number, if there is one, is set or cleared
abbrev pub put : Bool → List Bool → Option ℕ → List Bool
put on free None = free
put on free (Some n) = slice_set free n on
