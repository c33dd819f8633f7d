-- What is spelled is read: names, bytes, and a line of each of some kinds.
use Rattle.std.proofs.Common.{◌≡◌, ℕ, zero, suc, ◌+◌, ◌*◌, ◌<◌, ◌≤◌, Bool, true, false, cond, List, [], ◌∷◌, Option, Some, None, refl, sym, ap, ◌∙◌, arith, bytes_eq}
use Rattle.std.specs.Prelude.{◌&&◌, ◌/◌, ◌%◌, not, decimal, option_map, slice_get}
use Rattle.std.specs.List.{list_all, list_any, position_or_len}
use Rattle.std.specs.Char.{digit_char}
use Rattle.std.proofs.lemmas.Slice.Eq.{bytes_eq-Decides}
use Rattle.std.proofs.lemmas.Bool.Decides.{nat_tests}
use Rattle.std.proofs.lemmas.List.Concat.{flat_map-cons}
use Rattle.journal_model.specs.scripts.Words.{Text, hex, hex_byte}
use Rattle.journal_model.specs.scripts.CommandRules.{is_byte}
use Rattle.journal_model.specs.scripts.Reading.{offset_of, bytes_in_hex, is_hex, hex_value}
use Rattle.law_legal.proofs.law_script.NumberLaws.{number_again}
use Rattle.law_legal.proofs.law_items.Tests.{not_true, either, both, differ}

-- ---- bytes

-- a digit of a byte is read
pub digit_again : (n : ℕ) → n < 16 → (is_hex (digit_char n) ≡ true) × (hex_value (digit_char n) ≡ n)
digit_again n h = (grind (arith, nat_tests, h), grind (arith, nat_tests, h))

pair_again : (c d b : ℕ) (x y : Bool) (o : Option (List ℕ)) (bs : List ℕ) → x ≡ true → y ≡ true → hex_value c * 16 + hex_value d ≡ b → o ≡ Some bs
    → cond (x && y) (option_map (λ bs. (hex_value c * 16 + hex_value d) ∷ bs) o) None ≡ Some (b ∷ bs)
pair_again c d b true true o bs p q e h = ap (option_map (λ (bs : List ℕ). (hex_value c * 16 + hex_value d) ∷ bs)) h ∙ ap (λ (n : ℕ). Some (n ∷ bs)) e
pair_again c d b false y o bs p q e h = absurd cc
pair_again c d b true false o bs p q e h = absurd cc

byte_small : (b : ℕ) → is_byte b ≡ true → b < 256
byte_small b h = grind (arith, nat_tests, h)

-- bytes that are written are read
pub bytes_again : (bs : List ℕ) → list_all is_byte bs ≡ true → bytes_in_hex (hex bs) ≡ Some bs
bytes_again [] h = refl
bytes_again (b ∷ bs) h =
    let f = both (is_byte b) (list_all is_byte bs) h in
    let small = byte_small b f.0 in
    let high = digit_again (b / 16) (omega (arith, small)) in
    let low = digit_again (b % 16) (omega (arith, small)) in
    let value : hex_value (digit_char (b / 16)) * 16 + hex_value (digit_char (b % 16)) ≡ b = omega (arith, high.1, low.1) in
    ap bytes_in_hex (flat_map-cons hex_byte b bs)
    ∙ pair_again (digit_char (b / 16)) (digit_char (b % 16)) b (is_hex (digit_char (b / 16))) (is_hex (digit_char (b % 16))) (bytes_in_hex (hex bs)) bs high.0 low.0 value (bytes_again bs f.1)

-- ---- lines

-- an offset is read
pub offset_again : (n : ℕ) → n ≤ 16777216 → offset_of (decimal n) ≡ Some n
offset_again n h = number_again 0 16777216 n (omega arith) (omega arith) h

-- ---- names

-- no name stands twice
abbrev pub distinct : List Text → Bool
distinct [] = true
distinct (w ∷ ws) = not (list_any (bytes_eq w) ws) && distinct ws

abbrev some_text : Text → Option Text
some_text w = Some w

other : (x w : Text) (ws : List Text) (i : ℕ) → list_any (bytes_eq x) ws ≡ false → slice_get ws i ≡ some_text w → bytes_eq x w ≡ false
other x w [] i h e = absurd cc
other x w (v ∷ ws) zero h e = let same : v ≡ w = cc in ap (bytes_eq x) (sym same) ∙ (either (bytes_eq x v) (list_any (bytes_eq x) ws) h).0
other x w (v ∷ ws) (suc i) h e = other x w ws i (either (bytes_eq x v) (list_any (bytes_eq x) ws) h).1 e

no_test : (b : Bool) (x w : Text) → bytes_eq w x ≡ b → bytes_eq x w ≡ false → b ≡ false
no_test false x w e h = refl
no_test true x w e h =
    let same : w ≡ x = (bytes_eq-Decides w x).0 e in
    let yes : bytes_eq x w ≡ true = (bytes_eq-Decides x w).1 (sym same) in
    absurd (differ (sym yes ∙ h))

-- two texts differ either way round
pub turned : (x w : Text) → bytes_eq x w ≡ false → bytes_eq w x ≡ false
turned x w h = no_test (bytes_eq w x) x w refl h

-- the first place of a name among distinct ones is its own
pub place_of_name : (ws : List Text) (i : ℕ) (w : Text) → distinct ws ≡ true → slice_get ws i ≡ some_text w → position_or_len (bytes_eq w) ws ≡ i
place_of_name [] i w d e = absurd cc
place_of_name (v ∷ ws) zero w d e =
    let same : v ≡ w = cc in
    let yes : bytes_eq w v ≡ true = (bytes_eq-Decides w v).1 (sym same) in
    ap (λ b. cond (not b) (1 + position_or_len (bytes_eq w) ws) 0) yes
place_of_name (v ∷ ws) (suc i) w d e =
    let f = both (not (list_any (bytes_eq v) ws)) (distinct ws) d in
    let no : bytes_eq w v ≡ false = turned v w (other v w ws i (not_true (list_any (bytes_eq v) ws) f.0) e) in
    let rest = place_of_name ws i w f.1 e in
    ap (λ b. cond (not b) (1 + position_or_len (bytes_eq w) ws) 0) no ∙ omega (arith, rest)
