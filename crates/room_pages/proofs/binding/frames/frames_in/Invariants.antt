use Rattle.std.proofs.Common.{◌≡◌, take}
use Rattle.std.specs.Prelude.{filter_map}
use Rattle.journal_model.specs.rules.Places.{frame_of}
use Rattle.room_pages.proofs.binding.frames.frames_in.Given as goal

abbrev pub invariant-loop-place : goal.invariant-loop-place
invariant-loop-place l = l.frames ≡ filter_map frame_of (take l.place-index l.places)
