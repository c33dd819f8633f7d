-- Blocks that would be split from the largest free blocks, specified by the free pages alone.
use Rattle.std.specs.Prelude.{◌≡◌, ℕ, ◌+◌, ◌*◌, ◌^◌, ◌≤◌, Bool, true, false, Option, Some, None}
use Rattle.ttm_base.specs.declared.Span.{Span}
use Rattle.ttm_base.specs.Reach.{is_inside}
use Rattle.ttm_base.specs.BuddyChoice.{block_around, is_free_block}
use Rattle.block_tree.specs.Searching.{numbered, IsAhead}

-- the largest free block around a page has order j
pub record IsWhole (f : ℕ → Bool) (size j page : ℕ) : Type 0 where
  pub free : is_free_block f size (block_around j page) ≡ true
  pub largest : is_free_block f size (block_around (j + 1) page) ≡ false

-- block i of order k is inside the range, and would be split from a free block of order j, or is one
pub record IsPiece (f : ℕ → Bool) (size : ℕ) (range : Span) (k j i : ℕ) : Type 0 where
  pub order : k ≤ j
  pub inside : is_inside range (numbered k i) ≡ true
  pub whole : IsWhole f size j (i * 2 ^ k)

-- j is the least order from which a block of order k can be split
pub record IsLeastWhole (f : ℕ → Bool) (size : ℕ) (range : Span) (k j : ℕ) : Type 0 where
  pub bound : (i w : ℕ) → IsPiece f size range k w i → j ≤ w
  pub number : ℕ
  pub is : IsPiece f size range k j number

abbrev pub LeastWholeOf : (ℕ → Bool) → ℕ → Span → ℕ → Option ℕ → Type 0
LeastWholeOf f size range k None = (i w : ℕ) → IsPiece f size range k w i → ⊥
LeastWholeOf f size range k (Some j) = IsLeastWhole f size range k j

-- b is the first of the blocks of order k that would be split from order j
pub record IsFirstPiece (f : ℕ → Bool) (size : ℕ) (range : Span) (topdown : Bool) (k j : ℕ) (b : Span) : Type 0 where
  pub number : ℕ
  pub block : b ≡ numbered k number
  pub is : IsPiece f size range k j number
  pub first : (i : ℕ) → IsPiece f size range k j i → IsAhead topdown number i

abbrev pub FirstPieceOf : (ℕ → Bool) → ℕ → Span → Bool → ℕ → ℕ → Option Span → Type 0
FirstPieceOf f size range topdown k j None = (i : ℕ) → IsPiece f size range k j i → ⊥
FirstPieceOf f size range topdown k j (Some b) = IsFirstPiece f size range topdown k j b
