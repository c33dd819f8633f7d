use Rattle.std.proofs.Common.{◌≡◌, take}
use Rattle.std.specs.Prelude.{filter_map}
use Rattle.journal_model.specs.rules.Places.{frame_of}
use Rattle.rules_state.proofs.places.frames_of.Given as goal

abbrev pub invariant-loop-loc : goal.invariant-loop-loc
invariant-loop-loc l = l.frames ≡ filter_map frame_of (take l.loc-index l.loc-items)
