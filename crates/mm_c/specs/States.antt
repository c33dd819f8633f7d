-- What C sees of a manager.
use Rattle.std.specs.Prelude.{ℕ, ◌^◌, ◌==◌, Bool, List}
use Rattle.ttm_base.specs.declared.Span.{Span}
use Rattle.ttm_base.specs.Holes.{holes, is_free_beside}
use Rattle.ttm_base.specs.Reach.{length_of}
use Rattle.range_manager.specs.Held.{Managed}
use Rattle.manager_walk.specs.Cutting.{free_list}

-- a manager's number of pages, the spans or blocks that are held, and the values that were set
pub record State : Type 0 where
  pub size : ℕ
  pub held : List Span
  pub values : List (ℕ × ℕ)

-- the manager without the values
abbrev pub managed : State → Managed
managed s = record { size = s.size; held = s.held }

-- the spans of free pages, each as long as it can be
abbrev pub holes_of : State → List Span
holes_of s = holes (is_free_beside s.held) s.size

-- the free blocks, each as large as it can be
abbrev pub free_blocks_of : State → List Span
free_blocks_of s = free_list (is_free_beside s.held) s.size

-- the block has 2 to the power of `order` pages
abbrev pub has_order : ℕ → Span → Bool
has_order order block = length_of block == 2 ^ order
