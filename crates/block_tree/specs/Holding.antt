-- The blocks that a request wants, and the free blocks that have them.
use Rattle.std.specs.Prelude.{◌≡◌, ℕ, ◌+◌, ◌-◌, ◌*◌, ◌/◌, ◌^◌, ◌≤◌, Bool, true, false, Option, Some, None}
use Rattle.ttm_base.specs.Reach.{is_inside}
use Rattle.ttm_base.specs.BuddyChoice.{block_around, is_free_block}
use Rattle.block_tree.specs.declared.block.Block.{Block}
use Rattle.block_tree.specs.declared.request.Request.{Request}
use Rattle.block_tree.specs.declared.request.Pieces.{Pieces}
use Rattle.block_tree.specs.declared.request.Found.{Found}
use Rattle.block_tree.specs.Searching.{numbered, IsAhead}
use Rattle.block_tree.specs.Pieces.{IsWhole, LeastWholeOf, IsLeastWhole, IsFirstPiece, FirstPieceOf}

-- block i is inside the range of the request, and ends within the size
pub record CanTake (r : Request) (size i : ℕ) : Type 0 where
  pub inside : is_inside r.range (numbered r.order i) ≡ true
  pub end : i * 2 ^ r.order + 2 ^ r.order ≤ size

-- the blocks that the request can take
pub record ArePieces (r : Request) (size : ℕ) (p : Pieces) : Type 0 where
  pub order : p.order ≡ r.order
  pub some : p.first ≤ p.last
  pub last : p.last * 2 ^ p.order + 2 ^ p.order ≤ size
  pub inside : (i : ℕ) → p.first ≤ i → i ≤ p.last → is_inside r.range (numbered r.order i) ≡ true
  pub all : (i : ℕ) → CanTake r size i → (p.first ≤ i) × (i ≤ p.last)

abbrev pub PiecesOf : Request → ℕ → Option Pieces → Type 0
PiecesOf r size None = (i : ℕ) → CanTake r size i → ⊥
PiecesOf r size (Some p) = ArePieces r size p

-- block n of order k is free, and part of no greater free block
abbrev pub IsFree : (ℕ → Bool) → ℕ → ℕ → ℕ → Type 0
IsFree f size k n = IsWhole f size k (n * 2 ^ k)

-- block n of order k has one of the wanted blocks, is free, and is part of no greater free block
pub record IsHolder (f : ℕ → Bool) (size : ℕ) (p : Pieces) (k n : ℕ) : Type 0 where
  pub order : p.order ≤ k
  pub low : p.first / 2 ^ (k - p.order) ≤ n
  pub high : n ≤ p.last / 2 ^ (k - p.order)
  pub free : IsFree f size k n

-- block b is the first free block from block n of order k on: those of one order by their numbers, then those of the next
-- order
pub record IsFirstFree (f : ℕ → Bool) (size k n : ℕ) (b : Block) : Type 0 where
  pub order : k ≤ b.order
  pub number : k ≡ b.order → n ≤ b.number
  pub free : IsFree f size b.order b.number
  pub first : (j i : ℕ) → k ≤ j → (k ≡ j → n ≤ i) → IsFree f size j i → (b.order ≤ j) × (b.order ≡ j → b.number ≤ i)

abbrev pub FirstFreeOf : (ℕ → Bool) → ℕ → ℕ → ℕ → Option Block → Type 0
FirstFreeOf f size k n None = (j i : ℕ) → k ≤ j → (k ≡ j → n ≤ i) → IsFree f size j i → ⊥
FirstFreeOf f size k n (Some b) = IsFirstFree f size k n b

-- block b is the last free block of order k up to block n
pub record IsLastFree (f : ℕ → Bool) (size k n : ℕ) (b : Block) : Type 0 where
  pub order : b.order ≡ k
  pub number : b.number ≤ n
  pub free : IsFree f size b.order b.number
  pub last : (i : ℕ) → i ≤ n → IsFree f size k i → i ≤ b.number

abbrev pub LastFreeOf : (ℕ → Bool) → ℕ → ℕ → ℕ → Option Block → Type 0
LastFreeOf f size k n None = (i : ℕ) → i ≤ n → IsFree f size k i → ⊥
LastFreeOf f size k n (Some b) = IsLastFree f size k n b

-- block b is the lowest of the least order that has a wanted block
pub record IsLowest (f : ℕ → Bool) (size : ℕ) (p : Pieces) (b : Block) : Type 0 where
  pub is : IsHolder f size p b.order b.number
  pub least : (j i : ℕ) → IsHolder f size p j i → (b.order ≤ j) × (b.order ≡ j → b.number ≤ i)

abbrev pub LowestOf : (ℕ → Bool) → ℕ → Pieces → Option Block → Type 0
LowestOf f size p None = (j i : ℕ) → IsHolder f size p j i → ⊥
LowestOf f size p (Some b) = IsLowest f size p b

-- block b is the first of order k that has a wanted block
pub record IsFirstHolder (f : ℕ → Bool) (size : ℕ) (p : Pieces) (topdown : Bool) (k : ℕ) (b : Block) : Type 0 where
  pub order : b.order ≡ k
  pub is : IsHolder f size p k b.number
  pub first : (i : ℕ) → IsHolder f size p k i → IsAhead topdown b.number i

abbrev pub FirstHolderOf : (ℕ → Bool) → ℕ → Pieces → Bool → ℕ → Option Block → Type 0
FirstHolderOf f size p topdown k None = (i : ℕ) → IsHolder f size p k i → ⊥
FirstHolderOf f size p topdown k (Some b) = IsFirstHolder f size p topdown k b

-- block b is the free block that has block n of order k
pub record IsAround (f : ℕ → Bool) (size k n : ℕ) (b : Block) : Type 0 where
  pub order : k ≤ b.order
  pub number : b.number ≡ n * 2 ^ k / 2 ^ b.order
  pub free : IsFree f size b.order b.number

abbrev pub AroundOf : (ℕ → Bool) → ℕ → ℕ → ℕ → Option Block → Type 0
AroundOf f size k n None = is_free_block f size (block_around k (n * 2 ^ k)) ≡ false
AroundOf f size k n (Some b) = IsAround f size k n b

-- the piece is the first that would be split from a free block of order k, and this is the free block
pub record IsFound (f : ℕ → Bool) (size : ℕ) (r : Request) (k : ℕ) (found : Found) : Type 0 where
  pub order : found.free.order ≡ k
  pub piece : found.piece.order ≡ r.order
  pub first : IsFirstPiece f size r.range r.topdown r.order k (numbered r.order found.piece.number)
  pub around : IsAround f size found.piece.order found.piece.number found.free

abbrev pub FoundOf : (ℕ → Bool) → ℕ → Request → ℕ → Option Found → Type 0
FoundOf f size r k None = FirstPieceOf f size r.range r.topdown r.order k None
FoundOf f size r k (Some found) = IsFound f size r k found

-- the piece is the first that would be split from a free block of the least order from which one can be split
pub record IsChosen (f : ℕ → Bool) (size : ℕ) (r : Request) (found : Found) : Type 0 where
  pub least : IsLeastWhole f size r.range r.order found.free.order
  pub is : IsFound f size r found.free.order found

abbrev pub ChosenOf : (ℕ → Bool) → ℕ → Request → Option Found → Type 0
ChosenOf f size r None = LeastWholeOf f size r.range r.order None
ChosenOf f size r (Some found) = IsChosen f size r found
