use Rattle.std.proofs.Common.{◌≡◌, ◌++◌, take}
use Rattle.std.specs.Prelude.{flat_map}
use Rattle.journal_model.specs.rules.Holds.{ghost_spans}
use Rattle.rules_holds.proofs.holds.push_ghosts.Given as goal

abbrev pub invariant-loop-g : goal.invariant-loop-g
invariant-loop-g l = l.spans ≡ l.initial.spans ++ flat_map (ghost_spans l.mem) (take l.g-index l.ghosts)
