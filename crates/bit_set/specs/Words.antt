-- Words of bits that keep a set of numbers, where a place is the index of a bit among them all.
use Rattle.std.specs.Prelude.{◌≡◌, ℕ, zero, suc, ◌+◌, ◌*◌, ◌/◌, ◌%◌, ◌^◌, ◌<◌, ◌≤◌, ◌==◌, Bool, true, false, not, List, length, map, slice_index, if◌then◌else◌}
use Rattle.std.specs.List.{range_with_len}
use Rattle.std.specs.Int.{bit_at}

-- the bit at a place
unfoldable pub has_bit : List ℕ → ℕ → Bool
has_bit words place = bit_at (slice_index words (place / 64)) (place % 64) == 1

-- the first word of a level, which has this number of levels above it
abbrev pub level_start : ℕ → ℕ
level_start zero = 0
level_start (suc above) = 64 * level_start above + 1

-- Levels of words, each but the last with a bit for each word of the next. The places of numbers begin at `first`. A bit above
-- them tells whether the word that is one past its place has a bit.
pub record IsBitTree (first : ℕ) (words : List ℕ) : Type 0 where
  pub depth : ℕ
  pub first_is : first ≡ 64 * level_start depth
  pub fits : length words ≤ first + 1
  pub tells : (place : ℕ) → place < first → has_bit words place ≡ not (slice_index words (place + 1) == 0)

-- the words have a bit for each of len numbers, and no bit from there on
pub record IsKept (first len : ℕ) (words : List ℕ) : Type 0 where
  pub tree : IsBitTree first words
  pub room : first + len ≤ 64 * length words
  pub small : first < 2 ^ 40
  pub beyond : (place : ℕ) → first + len ≤ place → has_bit words place ≡ false

-- the set that the words keep
abbrev pub marks_of : ℕ → ℕ → List ℕ → List Bool
marks_of first len words = map (λ number. has_bit words (first + number)) (range_with_len 0 len)

-- the first word of the numbers, where they take this number of words
pub record IsBase (words base : ℕ) : Type 0 where
  pub depth : ℕ
  pub base_is : base ≡ level_start depth
  pub room : words ≤ 63 * base + 1
  pub small : base ≤ 2 * words

-- the bit of a number was set or cleared, and the bits above tell of it
pub record IsPut (first place : ℕ) (on : Bool) (before after : List ℕ) : Type 0 where
  pub tree : IsBitTree first after
  pub numbers : (i : ℕ) → first ≤ i → has_bit after i ≡ (if i == place then on else has_bit before i)

-- the bits of a word that are within some, and no others
pub record IsPart (within : ℕ → Type 0) (word part : ℕ) : Type 0 where
  pub inside : (k : ℕ) → bit_at part k ≡ 1 → within k
  pub is : (k : ℕ) → bit_at part k ≡ 1 → bit_at word k ≡ 1
  pub all : (k : ℕ) → within k → bit_at word k ≡ 1 → bit_at part k ≡ 1

-- m is the first place from a place on that has a bit, or the last up to a place
pub record IsFirstBit (words : List ℕ) (start m : ℕ) : Type 0 where
  pub from : start ≤ m
  pub is : has_bit words m ≡ true
  pub before : (i : ℕ) → start ≤ i → i < m → has_bit words i ≡ false

pub record IsLastBit (words : List ℕ) (first start m : ℕ) : Type 0 where
  pub from : first ≤ m
  pub to : m ≤ start
  pub is : has_bit words m ≡ true
  pub behind : (i : ℕ) → m < i → i ≤ start → has_bit words i ≡ false

-- the highest bit of a word
pub record IsHighestBit (word t : ℕ) : Type 0 where
  pub within : t < 64
  pub is : bit_at word t ≡ 1
  pub above : (i : ℕ) → t < i → bit_at word i ≡ 0
