-- Parts of a list of bytes.
use Rattle.std.specs.Prelude.{◌≡◌, ℕ, ◌+◌, ◌-◌, List, ◌++◌, [], ◌∷◌, length, take, drop, replicate, bit_xor}

-- the len bytes from a position on
abbrev pub part : List ℕ → ℕ → ℕ → List ℕ
part bytes at len = take len (drop at bytes)

-- the bytes with others written over those from a position on
abbrev pub overwritten : List ℕ → ℕ → List ℕ → List ℕ
overwritten bytes at others = take at bytes ++ others ++ drop (at + length others) bytes

-- a number of equal bytes; it computes only where it is unfolded, since a page of bytes is a long list
unfoldable pub filled : ℕ → ℕ → List ℕ
filled len byte = replicate len byte

-- the exclusive or, byte by byte, up to the end of the shorter list
abbrev pub xored : List ℕ → List ℕ → List ℕ
xored [] ys = []
xored (x ∷ xs) [] = []
xored (x ∷ xs) (y ∷ ys) = bit_xor x y ∷ xored xs ys

-- the stored bytes with zeros after them, up to a number of bytes in all
abbrev pub padded : List ℕ → ℕ → List ℕ
padded bytes size = bytes ++ filled (size - length bytes) 0

-- the last page of the bytes is zeros
abbrev pub EndsInZeros : List ℕ → Type 0
EndsInZeros bytes = drop (length bytes - 4096) bytes ≡ filled 4096 0
