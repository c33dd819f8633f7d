-- What a tree is seen as.
use Rattle.std.specs.Prelude.{ℕ, ◌+◌, ◌*◌, ◌^◌, ◌≤◌, List, [], length}
use Rattle.ttm_base.specs.declared.Span.{Span}

-- the holes in order, and the height
pub record Shape : Type 0 where
  pub spans : List Span
  pub height : ℕ

-- no hole, and no level
abbrev pub no_shape : Shape
no_shape = record { spans = []; height = 0 }

-- the tree is no higher than balance allows
pub record IsLow (s : Shape) : Type 0 where
  pub fewer : s.height ≤ length s.spans
  pub square : 2 ^ s.height ≤ (length s.spans + 1) * (length s.spans + 1)
