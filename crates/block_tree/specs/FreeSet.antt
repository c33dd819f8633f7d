-- The free pages, seen as a mark for each page, and as the set of the largest free blocks.
use Rattle.std.specs.Prelude.{◌≡◌, ℕ, zero, suc, ◌+◌, ◌-◌, ◌*◌, ◌/◌, ◌%◌, ◌^◌, ◌<◌, ◌≤◌, ◌&&◌, ◌||◌, Bool, true, false, List, length, map, nat_le, nat_lt, slice_index_or}
use Rattle.ttm_base.specs.ListWords.{count_from}

-- whether the page is free; pages past the marks are not
abbrev pub is_free : List Bool → ℕ → Bool
is_free marks page = slice_index_or marks page false

-- the number of the buddy of block n: the other half of the block that has it
abbrev pub beside : ℕ → ℕ
beside n = n + 1 - 2 * (n % 2)

-- the position of block n of order k among the blocks of all orders up to o, which has one block: those of order 0 first
abbrev pub place : ℕ → ℕ → ℕ → ℕ
place o k n = 2 ^ suc o - 2 ^ suc o / 2 ^ k + n

-- whether block n of order k is in the set
abbrev pub has_block : ℕ → List Bool → ℕ → ℕ → Bool
has_block o set k n = nat_le k o && (nat_lt n (2 ^ (o - k)) && slice_index_or set (place o k n) false)

-- whether a block of the set, of an order up to k, has the page
abbrev pub is_covered : ℕ → List Bool → ℕ → ℕ → Bool
is_covered o set zero page = has_block o set 0 (page / 2 ^ 0)
is_covered o set (suc k) page = has_block o set (suc k) (page / 2 ^ suc k) || is_covered o set k page

-- a mark for each page below the size: whether it is in a block of the set
abbrev pub marks_of : ℕ → ℕ → List Bool → List Bool
marks_of o size set = map (is_covered o set o) (count_from 1 size 0)

-- blocks below a size: no page is in two of them, and no two are buddies
pub record AreApart (size : ℕ) (has : ℕ → ℕ → Bool) : Type 0 where
  pub within : (k n : ℕ) → has k n ≡ true → n * 2 ^ k + 2 ^ k ≤ size
  pub alone : (p k j : ℕ) → has k (p / 2 ^ k) ≡ true → has j (p / 2 ^ j) ≡ true → k ≡ j
  pub parted : (k n : ℕ) → has k (2 * n) ≡ true → has k (2 * n + 1) ≡ true → ⊥

-- the set has the largest free blocks
pub record IsKept (count o size : ℕ) (set : List Bool) : Type 0 where
  pub counted : count ≡ 2 ^ suc o
  pub len : length set ≡ 2 ^ suc o
  pub order : o ≤ 31
  pub small : size < 2 ^ 31
  pub fits : size ≤ 2 ^ o
  pub blocks : AreApart size (has_block o set)
  pub last : slice_index_or set (2 ^ suc o - 1) false ≡ false
