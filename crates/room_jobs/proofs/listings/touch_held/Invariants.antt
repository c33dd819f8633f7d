use Rattle.std.proofs.Common.{take}
use Rattle.std.specs.Prelude.{filter}
use Rattle.journal_model.specs.rules.State.{has_buffer}
use Rattle.room_jobs.specs.Listings.{AreTouched}
use Rattle.room_jobs.proofs.listings.touch_held.Given as goal

abbrev pub invariant-loop-b : goal.invariant-loop-b
invariant-loop-b l = AreTouched (filter (has_buffer l.held) (take l.b-index l.bs)) l.initial.lru l.lru
