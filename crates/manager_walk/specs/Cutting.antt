-- Holes as blocks. A buddy manager joins free blocks wherever it can, so these are its free lists.
use Rattle.std.specs.Prelude.{ℕ, zero, suc, ◌+◌, ◌-◌, ◌*◌, ◌%◌, ◌==◌, ◌&&◌, Bool, List, [], ◌∷◌, nat_lt, nat_le, flat_map, if◌then◌else◌}
use Rattle.ttm_base.specs.declared.Span.{Span}
use Rattle.ttm_base.specs.Holes.{holes}

-- a size, doubled while the block of twice the size is at a multiple of it and ends by another page; the first argument bounds how often
abbrev pub grown : ℕ → ℕ → ℕ → ℕ → ℕ
grown zero start end size = size
grown (suc n) start end size = if start % (2 * size) == 0 && nat_le (start + 2 * size) end then grown n start end (2 * size) else size

-- the blocks from the start on, each the largest that fits; the first argument bounds their number
abbrev pub blocks_from : ℕ → ℕ → ℕ → List Span
blocks_from zero start end = []
blocks_from (suc n) start end =
    if nat_lt start end then record { start = start; end = start + grown 32 start end 1 } ∷ blocks_from n (start + grown 32 start end 1) end else []

abbrev pub blocks_of : Span → List Span
blocks_of hole = blocks_from (hole.end - hole.start) hole.start hole.end

-- the free blocks, in order of address
abbrev pub free_list : (ℕ → Bool) → ℕ → List Span
free_list is_free size = flat_map blocks_of (holes is_free size)
