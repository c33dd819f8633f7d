use Rattle.std.proofs.Common.{◌≡◌, take}
use Rattle.std.specs.List.{filter_map}
use Rattle.journal_model.specs.rules.Places.{frame_of}
use Rattle.room_representation.specs.lemma_bytes.GivenBack.{given_back}
use Rattle.room_pages.proofs.frames.give_frames.Given as goal

abbrev pub invariant-loop-place : goal.invariant-loop-place
invariant-loop-place l = l.pool ≡ given_back l.initial.pool (filter_map frame_of (take l.place-index l.places))
