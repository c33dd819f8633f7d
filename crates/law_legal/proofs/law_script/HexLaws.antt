-- Bytes are spelled as they were read.
use Rattle.std.proofs.Common.{◌≡◌, ℕ, ◌+◌, ◌*◌, ◌<◌, Bool, true, false, cond, List, [], ◌∷◌, ◌++◌, Option, Some, None, refl, sym, ap, ◌∙◌, arith}
use Rattle.std.specs.Prelude.{◌&&◌, ◌/◌, ◌%◌, option_map}
use Rattle.std.specs.Char.{digit_char}
use Rattle.std.proofs.lemmas.Bool.Decides.{nat_tests}
use Rattle.std.proofs.lemmas.List.Concat.{flat_map-cons}
use Rattle.journal_model.specs.scripts.Words.{Text, hex, hex_byte}
use Rattle.journal_model.specs.scripts.Reading.{is_hex, hex_value, bytes_in_hex}

low_digit : (c : ℕ) → is_hex c ≡ true → (digit_char (hex_value c) ≡ c) × (hex_value c < 16)
low_digit c h = (grind (arith, nat_tests, h), grind (arith, nat_tests, h))

-- two digits are those of their byte
pub two_digits : (c d : ℕ) → is_hex c ≡ true → is_hex d ≡ true → hex_byte (hex_value c * 16 + hex_value d) ≡ c ∷ d ∷ []
two_digits c d p q =
    let a = low_digit c p in
    let b = low_digit d q in
    let high : (hex_value c * 16 + hex_value d) / 16 ≡ hex_value c = omega (arith, a.1, b.1) in
    let low : (hex_value c * 16 + hex_value d) % 16 ≡ hex_value d = omega (arith, a.1, b.1) in
    ap (λ n. digit_char n ∷ digit_char ((hex_value c * 16 + hex_value d) % 16) ∷ []) high ∙ ap (λ n. digit_char (hex_value c) ∷ digit_char n ∷ []) low
    ∙ ap (λ x. x ∷ digit_char (hex_value d) ∷ []) a.0 ∙ ap (λ x. c ∷ x ∷ []) b.0

pairs : (c d : ℕ) (a b : Bool) (o : Option (List ℕ)) (w : Text) (bytes : List ℕ) → is_hex c ≡ a → is_hex d ≡ b → ((bs : List ℕ) → o ≡ Some bs → w ≡ hex bs)
    → cond (a && b) (option_map (λ bs. (hex_value c * 16 + hex_value d) ∷ bs) o) None ≡ Some bytes → c ∷ d ∷ w ≡ hex bytes
pairs c d true true (Some bs) w bytes p q rest h =
    let made : (hex_value c * 16 + hex_value d) ∷ bs ≡ bytes = cc in
    ap (λ t. c ∷ d ∷ t) (rest bs refl) ∙ ap (λ t. t ++ hex bs) (sym (two_digits c d p q)) ∙ sym (flat_map-cons hex_byte (hex_value c * 16 + hex_value d) bs) ∙ ap hex made
pairs c d true true None w bytes p q rest h = absurd cc
pairs c d false b o w bytes p q rest h = absurd cc
pairs c d true false o w bytes p q rest h = absurd cc

-- bytes are spelled as they were read
pub bytes_take : (w : Text) (bytes : List ℕ) → bytes_in_hex w ≡ Some bytes → w ≡ hex bytes
bytes_take [] bytes h = let e : [] ≡ bytes = cc in ap hex e
bytes_take (c ∷ []) bytes h = absurd cc
bytes_take (c ∷ d ∷ w) bytes h = pairs c d (is_hex c) (is_hex d) (bytes_in_hex w) w bytes refl refl (bytes_take w) h
