-- What holds of the parts of the holes.
use Rattle.std.specs.Prelude.{◌≡◌, ◌+◌, ◌≤◌, length}
use Rattle.std.specs.Vec.{vec_capacity}
use Rattle.hole_tree.specs.Rising.{IsRising}
use Rattle.hole_tree.specs.Sorting.{sorted_by_length}
use Rattle.hole_tree.specs.declared.holes.Holes.TheInside.{Inside}

-- one tree is in rising order, the other has the same holes by length, they are counted, and there is room for the
-- nodes of all of them
pub record IsKept (h : Inside) : Type 0 where
  pub rising : IsRising h.by_start.spans
  pub lengths : h.by_length.spans ≡ sorted_by_length h.by_start.spans
  pub count : h.count ≡ length h.by_start.spans
  pub room : h.count + length h.spare.items ≤ vec_capacity h.spare
