-- Bytes that are written over: how long the list was is known only after the write, but for zeros that the write covers.
use Rattle.std.proofs.Common.{◌≡◌, ℕ, ◌+◌, ◌-◌, ◌<◌, ◌≤◌, List, ◌++◌, length, get_or, arith, ◌⊎◌, inl, inr}
use Rattle.std.specs.Prelude.{min, replicate}
use Rattle.std.proofs.lemmas.Bool.{cases_lt}
use Rattle.std.proofs.lemmas.Grind.{common_steps}
use Rattle.byte_store.specs.Parts.{overwritten}

-- zeros after a list change nothing that is read of it
pub padded_same : (xs : List ℕ) (m i : ℕ) → get_or (xs ++ replicate m 0) i 0 ≡ get_or xs i 0
padded_same xs m i = grind (arith, common_steps)

-- nor what is there once they are written over up to the end
pub padded_over : (xs ys : List ℕ) (at m : ℕ) → at ≤ length xs → length xs + m ≤ at + length ys → overwritten (xs ++ replicate m 0) at ys ≡ overwritten xs at ys
padded_over xs ys at m h k = grind (arith, common_steps)

-- how long a list is with m zeros after it
pub length-padded : (xs : List ℕ) (m : ℕ) → length (xs ++ replicate m 0) ≡ length xs + m
length-padded xs m = grind (arith, common_steps)

-- how long a list is after any write
length-over : (xs ys : List ℕ) (at : ℕ) → length (overwritten xs at ys) ≡ min at (length xs) + length ys + (length xs - (at + length ys))
length-over xs ys at = grind (arith, common_steps)

-- after a write within `all` bytes there are `all` bytes: they were there before, or the write reaches the last of them
pub long_before : (xs ys : List ℕ) (at all : ℕ) → at + length ys ≤ all → length (overwritten xs at ys) ≡ all → (length xs ≡ all) ⊎ ((at ≤ length xs) × (length xs ≤ all) × (at + length ys ≡ all))
long_before xs ys at all inside h = by (cases_lt (length xs) (at + length ys))
  where
    by : (length xs < at + length ys) ⊎ (at + length ys ≤ length xs) → (length xs ≡ all) ⊎ ((at ≤ length xs) × (length xs ≤ all) × (at + length ys ≡ all))
    by (inr ge) = inl (let l = length-over xs ys at in omega (arith, l, ge, h))
    by (inl lt) =
        let l = length-over xs ys at in
        inr (omega (arith, l, lt, h, inside), omega (arith, l, lt, h, inside), omega (arith, l, lt, h, inside))
