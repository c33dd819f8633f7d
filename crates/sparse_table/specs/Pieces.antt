-- Numbers in pieces of 1,024.
use Rattle.std.specs.Prelude.{◌≡◌, ℕ, zero, suc, ◌+◌, ◌*◌, ◌/◌, ◌%◌, ◌<◌, List, [], ◌∷◌, length, slice_index}
use Rattle.std.specs.List.{slice_index_or}

-- a piece that has numbers has all 1,024
abbrev pub IsPiece : List ℕ → Type 0
IsPiece numbers = 0 < length numbers → length numbers ≡ 1024

-- the number at a place
abbrev pub number_in : List (List ℕ) → ℕ → ℕ
number_in pieces at = slice_index (slice_index_or pieces (at / 1024) []) (at % 1024)

-- the numbers of the places from `start` on; the last argument is how many there are
abbrev pub numbers_from : List (List ℕ) → ℕ → ℕ → List ℕ
numbers_from pieces start zero = []
numbers_from pieces start (suc n) = number_in pieces start ∷ numbers_from pieces (start + 1) n

-- there are pieces for all places
abbrev pub HasPieces : List (List ℕ) → ℕ → Type 0
HasPieces pieces len = len < length pieces * 1024
