use Rattle.std.proofs.Common.{◌≡◌, drop}
use Rattle.buddy_manager.specs.Held.{held_from, all_held}
use Rattle.buddy_manager.proofs.ends.are_held.Given as goal

abbrev pub invariant-loop-i : goal.invariant-loop-i
invariant-loop-i l = all_held (drop l.i l.blocks) (held_from 0 l.ends) ≡ all_held l.blocks (held_from 0 l.ends)
