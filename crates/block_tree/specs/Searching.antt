-- Which blocks of an order can be taken, and which is taken first.
use Rattle.std.specs.Prelude.{◌≡◌, ℕ, ◌+◌, ◌*◌, ◌/◌, ◌^◌, ◌≤◌, Bool, true, false}
use Rattle.ttm_base.specs.declared.Span.{Span}
use Rattle.ttm_base.specs.Reach.{is_inside}
use Rattle.block_tree.specs.declared.request.Request.{Request}

-- the block of order k by its number among those of its order
abbrev pub numbered : ℕ → ℕ → Span
numbered k i = record { start = i * 2 ^ k; end = i * 2 ^ k + 2 ^ k }

-- block i of order k begins in block q of order o
abbrev pub IsIn : ℕ → ℕ → ℕ → ℕ → Type 0
IsIn o q k i = i * 2 ^ k / 2 ^ o ≡ q

-- block i is taken before block m
abbrev pub IsAhead : Bool → ℕ → ℕ → Type 0
IsAhead true i m = m ≤ i
IsAhead false i m = i ≤ m

-- the first of the blocks in block q that are inside the range
pub record IsFit (r : Request) (o q i : ℕ) : Type 0 where
  pub within : IsIn o q r.order i
  pub inside : is_inside r.range (numbered r.order i) ≡ true
  pub first : (m : ℕ) → IsIn o q r.order m → is_inside r.range (numbered r.order m) ≡ true → IsAhead r.topdown i m
