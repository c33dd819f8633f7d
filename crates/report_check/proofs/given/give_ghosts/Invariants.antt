use Rattle.std.proofs.Common.{take}
use Rattle.std.specs.Prelude.{◌==◌, filter, flat_map}
use Rattle.rules_holds.specs.Marked.{AreMarked}
use Rattle.report_check.proofs.given.give_ghosts.Given as goal

abbrev pub invariant-loop-g : goal.invariant-loop-g
invariant-loop-g l = AreMarked l.initial.free (flat_map (λ h. h.frames) (filter (λ h. h.num == l.num) (take l.g-index l.ghosts))) l.free
