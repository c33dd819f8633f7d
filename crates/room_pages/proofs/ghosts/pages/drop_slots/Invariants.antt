use Rattle.std.proofs.Common.{◌≡◌, take}
use Rattle.std.specs.Prelude.{filter_map}
use Rattle.journal_model.specs.rules.Places.{slot_of}
use Rattle.room_representation.specs.lemma_bytes.GivenBack.{given_back}
use Rattle.room_pages.proofs.ghosts.pages.drop_slots.Given as goal

abbrev pub invariant-loop-place : goal.invariant-loop-place
invariant-loop-place l = l.swap ≡ record { held = given_back l.initial.swap.held (filter_map slot_of (take l.place-index l.places)); bytes = l.initial.swap.bytes }
