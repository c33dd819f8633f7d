-- Blocks that are found while the blocks that were found before stay unmarked.
use Rattle.std.specs.Prelude.{◌≡◌, ℕ, ◌+◌, ◌-◌, ◌*◌, ◌/◌, ◌^◌, ◌<◌, ◌≤◌, ◌⊎◌, ◌++◌, Bool, true, false, List, Option, Some, None, option_map, length, take, slice_index_or}
use Rattle.ttm_base.specs.declared.Span.{Span}
use Rattle.ttm_base.specs.Reach.{is_inside}
use Rattle.ttm_base.specs.BuddyChoice.{block_around, is_free_block, scattered}
use Rattle.block_tree.specs.FreeSet.{is_free}
use Rattle.block_tree.specs.Searching.{numbered, IsAhead}
use Rattle.block_tree.specs.Pieces.{IsWhole, IsPiece, IsFirstPiece}
use Rattle.buddy_manager.specs.declared.unmarked.Half.{Half}
use Rattle.buddy_manager.specs.declared.unmarked.Origin.{Origin}
use Rattle.buddy_manager.specs.declared.unmarked.Origin.TheVariants.{Free, Spare}
use Rattle.buddy_manager.specs.declared.unmarked.Found.{Found}
use Rattle.buddy_manager.specs.declared.find.Looked.{Looked}
use Rattle.buddy_manager.specs.declared.find.Looked.TheVariants.{Block, Nowhere, Unknown}
use Rattle.buddy_manager.specs.declared.find.Search.{Search}
use Rattle.buddy_manager.specs.Taking.{beside, AreTaken, Tells}

-- g is f without some of its largest free blocks: each free block of f with a page in g is in g
pub record IsPart (g f : ℕ → Bool) (size : ℕ) : Type 0 where
  pub sub : (page : ℕ) → page < size → g page ≡ true → f page ≡ true
  pub whole : (page j : ℕ) → g page ≡ true → is_free_block f size (block_around j page) ≡ true → is_free_block g size (block_around j page) ≡ true

-- the blocks of order k that are split first among the pages that are left are those of f that are inside the source and split from this order
pub record IsSource (g f : ℕ → Bool) (size : ℕ) (range : Span) (k : ℕ) (source : Span) (whole : ℕ) : Type 0 where
  pub bound : (i w : ℕ) → IsPiece g size range k w i → whole ≤ w
  pub ahead : (i : ℕ) → IsPiece g size range k whole i → IsPiece f size source k whole i
  pub back : (i : ℕ) → IsPiece f size source k whole i → IsPiece g size range k whole i

-- the free blocks of order k that are left are those in the source
pub record IsAt (g f : ℕ → Bool) (size : ℕ) (range : Span) (source : Span) (k : ℕ) : Type 0 where
  pub ahead : (k' i : ℕ) → IsPiece f size range k' k i → g (i * 2 ^ k') ≡ true → IsPiece f size source k' k i
  pub own : (k' i : ℕ) → IsPiece f size source k' k i → g (i * 2 ^ k') ≡ true
  pub start : range.start ≤ source.start
  pub end : source.end ≤ range.end

-- the rest of the range for an order
abbrev pub rest_of : List Span → ℕ → Span
rest_of rests order = slice_index_or rests order (record { start = 0; end = 0 })

-- g are the pages of f that are left: of the free blocks of each order those in its rest
pub record IsLeft (g f : ℕ → Bool) (size : ℕ) (range : Span) (rests : List Span) : Type 0 where
  pub part : IsPart g f size
  pub count : length rests ≡ 32
  pub at : (k : ℕ) → k < 32 → IsAt g f size range (rest_of rests k) k

-- no free block of order k is inside the range
abbrev pub HasNoBlock : (ℕ → Bool) → ℕ → Span → ℕ → Type 0
HasNoBlock g size range k = (i : ℕ) → is_inside range (numbered k i) ≡ true → is_free_block g size (numbered k i) ≡ false

-- no block of the order lies across that end of the range from which blocks are taken
abbrev pub IsEven : Bool → Span → ℕ → ℕ → Type 0
IsEven false range size k = (page : ℕ) → range.start ≤ page → range.start ≤ page / 2 ^ k * 2 ^ k
IsEven true range size k = (page : ℕ) → page < range.end → page / 2 ^ k * 2 ^ k + 2 ^ k ≤ size → page / 2 ^ k * 2 ^ k + 2 ^ k ≤ range.end

-- what is left of a range behind a block, in the direction in which blocks are taken
abbrev pub behind : Bool → Span → Span → Span
behind false range block = record { start = block.end; end = range.end }
behind true range block = record { start = range.start; end = block.start }

-- ---- a block that was split, of which a half is left

-- c is the buddy of i: the other half of the block of which i is a half
pub record IsBeside (i c : ℕ) : Type 0 where
  pub half : c / 2 ≡ i / 2
  pub other : c ≡ i → ⊥

-- the order is below that of the half that is left, or above it
abbrev pub IsBelow : ℕ → Option Half → Type 0
IsBelow order None = Unit {0}
IsBelow order (Some half) = order < half.order

abbrev pub IsBeyond : ℕ → Option Half → Type 0
IsBeyond order None = ⊥
IsBeyond order (Some half) = half.order < order

-- the pages of the half are below the bound on page numbers
abbrev pub HasNumbers : Option Half → Type 0
HasNumbers None = Unit {0}
HasNumbers (Some half) = (half.order ≤ 31) × (half.number * 2 ^ half.order + 2 ^ half.order ≤ 2 ^ 31)

-- all of the half is left, it is the largest free block around its pages, and h has none of them; other such blocks of its
-- order are of h
pub record IsHalf (g h : ℕ → Bool) (size : ℕ) (range : Span) (half : Half) : Type 0 where
  pub whole : IsWhole g size half.order (half.number * 2 ^ half.order)
  pub inside : is_inside range (numbered half.order half.number) ≡ true
  pub apart : (page : ℕ) → h page ≡ true → page / 2 ^ half.order ≡ half.number → ⊥
  pub other : (k i : ℕ) → IsPiece g size range k half.order i → IsPiece h size range k half.order i ⊎ (i * 2 ^ k / 2 ^ half.order ≡ half.number)

abbrev pub HalfOf : (ℕ → Bool) → (ℕ → Bool) → ℕ → Span → Option Half → Type 0
HalfOf g h size range None = Unit {0}
HalfOf g h size range (Some half) = IsHalf g h size range half

-- g are the pages of f that are left: the rests tell them except for blocks that were split, of which the half tells the
-- last one's
pub record IsKnown (g f : ℕ → Bool) (size : ℕ) (range : Span) (rests : List Span) (half : Option Half) : Type 0 where
  pub under : ℕ → Bool
  pub left : IsLeft under f size range rests
  pub up : (k w i : ℕ) → IsPiece under size range k w i → IsPiece g size range k w i
  pub down : (k w i : ℕ) → IsPiece g size range k w i → IsBelow w half → IsPiece under size range k w i
  pub spare : HalfOf g under size range half

-- ---- a block that was found

-- the first of those of order k that would be split from a free block of order w
pub record IsFoundFree (f : ℕ → Bool) (size : ℕ) (range : Span) (topdown : Bool) (k : ℕ) (rests : List Span) (half : Option Half) (w : ℕ) (block : Span) : Type 0 where
  pub source : (h : ℕ → Bool) → IsLeft h f size range rests → IsSource h f size range k (rest_of rests w) w
  pub first : IsFirstPiece f size (rest_of rests w) topdown k w block
  pub small : w < 32
  pub below : IsBelow w half

-- the first block of order k in a half
pub record IsFirstIn (half : Half) (topdown : Bool) (k : ℕ) (block : Span) : Type 0 where
  pub number : ℕ
  pub is : block ≡ numbered k number
  pub within : number * 2 ^ k / 2 ^ half.order ≡ half.number
  pub first : (m : ℕ) → m * 2 ^ k / 2 ^ half.order ≡ half.number → IsAhead topdown number m

-- the first block in the half, where no lesser block is left
pub record IsFoundHalf (f : ℕ → Bool) (size : ℕ) (range : Span) (topdown : Bool) (k : ℕ) (rests : List Span) (half : Option Half) (of : Half) (block : Span) : Type 0 where
  pub is : half ≡ Some of
  pub order : k < of.order
  pub beyond : (h : ℕ → Bool) → IsLeft h f size range rests → (i w : ℕ) → IsPiece h size range k w i → of.order < w
  pub first : IsFirstIn of topdown k block

abbrev pub IsFoundBy : (ℕ → Bool) → ℕ → Span → Bool → ℕ → List Span → Option Half → Origin → Span → Type 0
IsFoundBy f size range topdown k rests half (Free w) block = IsFoundFree f size range topdown k rests half w block
IsFoundBy f size range topdown k rests half (Spare of) block = IsFoundHalf f size range topdown k rests half of block

abbrev pub IsFound : (ℕ → Bool) → ℕ → Span → Bool → ℕ → List Span → Option Half → Found → Type 0
IsFound f size range topdown k rests half found = IsFoundBy f size range topdown k rests half found.origin found.block

-- the numbers of a found block and of its origin are within bounds, and the block has the pages of its order
abbrev pub HasOrder : Origin → Type 0
HasOrder (Free w) = w < 32
HasOrder (Spare of) = Unit {0}

pub record HasRoom (k : ℕ) (found : Found) : Type 0 where
  pub order : k ≤ 30
  pub start : found.block.start < 2 ^ 31
  pub len : found.block.end ≡ found.block.start + 2 ^ k
  pub whole : HasOrder found.origin

-- what a look for the next block tells, where only the free blocks are looked at, and where the half is looked at too
abbrev pub IsLookedFree : (ℕ → Bool) → ℕ → Span → Bool → ℕ → List Span → Option Half → Looked → Type 0
IsLookedFree f size range topdown k rests half (Block found) = IsFound f size range topdown k rests half found × HasRoom k found
IsLookedFree f size range topdown k rests half Nowhere = (h : ℕ → Bool) → IsLeft h f size range rests → (i w : ℕ) → IsPiece h size range k w i → IsBeyond w half
IsLookedFree f size range topdown k rests half Unknown = Unit {0}

abbrev pub IsLooked : (ℕ → Bool) → ℕ → Span → Bool → ℕ → List Span → Option Half → Looked → Type 0
IsLooked f size range topdown k rests half (Block found) = IsFound f size range topdown k rests half found × HasRoom k found
IsLooked f size range topdown k rests half Nowhere = (g : ℕ → Bool) → IsKnown g f size range rests half → (i w : ℕ) → IsPiece g size range k w i → ⊥
IsLooked f size range topdown k rests half Unknown = Unit {0}

-- ---- how far a search is

-- the first `count` of the blocks are marked as held
pub record IsMarkedIn (before now : List Bool) (count : ℕ) (out : List Span) : Type 0 where
  pub size : length now ≡ length before
  pub each : AreTaken (is_free before) (length before) out
  pub most : count ≤ length out
  pub marks : (page : ℕ) → is_free now page ≡ beside (is_free before) (take count out) page

-- the blocks that were found, for a number of pages, are the first of the choice
pub record IsFinding (before : List Bool) (range : Span) (topdown : Bool) (pages : ℕ) (now : List Bool) (out : List Span) (s : Search) : Type 0 where
  pub marks : IsMarkedIn before now s.marked out
  pub fuel : length out + s.left ≤ pages
  pub numbers : HasNumbers s.half
  pub known : 0 < s.left → (test : ℕ → Bool) → Tells test before → IsKnown (beside test out) (is_free now) (length before) range s.rests s.half
  pub higher : (test : ℕ → Bool) → Tells test before → (k : ℕ) → s.order < k → 2 ^ k ≤ s.left → HasNoBlock (beside test out) (length before) range k
  pub same : (test : ℕ → Bool) → Tells test before
      → option_map (λ more. out ++ more) (scattered (pages - length out) (beside test out) (length before) range topdown s.left) ≡ scattered pages test (length before) range topdown pages

-- a bound on the steps that are left
abbrev pub work_of : Search → ℕ
work_of s = 33 * s.left + s.order
