use Rattle.std.proofs.Common.{◌≡◌, take}
use Rattle.room_representation.specs.lemma_bytes.GivenBack.{given_back}
use Rattle.room_pages.proofs.ghosts.pages.give_all.Given as goal

abbrev pub invariant-loop-frame : goal.invariant-loop-frame
invariant-loop-frame l = l.pool ≡ given_back l.initial.pool (take l.frame-index l.frames)
