-- A byte in hexadecimal.
use Rattle.std.proofs.Common.{◌≡◌, ℕ, zero, suc, ◌/◌, ◌%◌, ◌<◌, ◌==◌, Bool, true, ◌&&◌, inl, inr, List, [], ◌∷◌, ◌++◌, slice_index, refl, ap, ◌∙◌, arith}
use Rattle.std.proofs.lemmas.Bool.{and_parts, cases_lt, eqb-true}
use Rattle.std.specs.Char.{digit_char}
use Rattle.hex.specs.Hex.{IsBytes, encode_lower, encode_with, lower_digits}
use Rattle.journal_model.specs.scripts.Words.{hex, hex_byte}

-- the first n digits of the table are those of the numbers
abbrev are_digits : ℕ → Bool
are_digits zero = true
are_digits (suc n) = (slice_index lower_digits n == digit_char n) && are_digits n

-- each of them
digit_at : (n k : ℕ) → are_digits n ≡ true → k < n → slice_index lower_digits k ≡ digit_char k
digit_at zero k h lt = absurd (omega arith)
digit_at (suc n) k h lt =
    let parts = and_parts (slice_index lower_digits n == digit_char n) (are_digits n) h in
    elim (cases_lt k n) [
      | inl below ↦ digit_at n k parts.1 below
      | inr top ↦
          let e : k ≡ n = omega arith in
          rw e (eqb-true _ _ parts.0)
    ]

-- two digits
pub encode_lower_byte : (b : ℕ) → b < 256 → encode_lower (b ∷ []) ≡ hex_byte b
unfolding encode_with
encode_lower_byte b h =
    ap (λ d. d ∷ slice_index lower_digits (b % 16) ∷ []) (digit_at 16 (b / 16) refl (omega arith))
    ∙ ap (λ d. digit_char (b / 16) ∷ d ∷ []) (digit_at 16 (b % 16) refl (omega arith))

-- the digits of bytes
pub encode_lower_bytes : (bytes : List ℕ) → IsBytes bytes → encode_lower bytes ≡ hex bytes
unfolding encode_with
encode_lower_bytes [] h = refl
encode_lower_bytes (b ∷ rest) h =
    ap (λ ds. ds ++ encode_lower rest) (encode_lower_byte b (h zero))
    ∙ ap (λ ds. hex_byte b ++ ds) (encode_lower_bytes rest (λ i. h (suc i)))
