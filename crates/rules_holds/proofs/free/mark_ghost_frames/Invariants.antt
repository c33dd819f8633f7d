use Rattle.std.proofs.Common.{take}
use Rattle.std.specs.Prelude.{flat_map}
use Rattle.rules_holds.specs.Marked.{AreMarked}
use Rattle.rules_holds.proofs.free.mark_ghost_frames.Given as goal

abbrev pub invariant-loop-g : goal.invariant-loop-g
invariant-loop-g l = AreMarked l.initial.marks.items (flat_map (λ g. g.frames) (take l.g-index l.ghosts)) l.marks.items
