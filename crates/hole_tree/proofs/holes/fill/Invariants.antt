use Rattle.std.specs.Prelude.{◌≡◌, ◌≤◌}
use Rattle.std.specs.Vec.{vec_len, vec_capacity}
use Rattle.hole_tree.proofs.holes.fill.Given as goal

abbrev pub invariant-loop-i : goal.invariant-loop-i
invariant-loop-i l = (vec_len l.spare ≡ l._i) × (vec_capacity l.initial.spare ≤ vec_capacity l.spare)
