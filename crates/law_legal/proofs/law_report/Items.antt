-- Bytes, spans and causes come back, and what bytes their words have.
use Rattle.std.proofs.Common.{◌≡◌, ℕ, ◌+◌, ◌*◌, ◌/◌, ◌%◌, ◌<◌, ◌≤◌, Bool, true, eqb, List, [], ◌∷◌, ◌++◌, length, refl, ap, ◌∙◌, arith}
use Rattle.std.specs.Prelude.{not, ◌&&◌, nat_lt, nat_le, decimal}
use Rattle.std.specs.List.{list_all}
use Rattle.std.specs.Char.{digit_char, digit_value}
use Rattle.std.proofs.lemmas.Bool.Decides.{nat_tests}
use Rattle.std.proofs.lemmas.Str.{digit_value-digit_char}
use Rattle.std.proofs.lemmas.List.Folds.{list_all-append}
use Rattle.journal_model.specs.declared.script.Script.{Script}
use Rattle.journal_model.specs.scripts.Words.{Text, hex, name_of}
use Rattle.journal_model.specs.scripts.ScriptRules.{is_letter, is_letter_or_digit, is_name, is_script}
use Rattle.journal_model.specs.scripts.CommandRules.{is_byte, is_declared}
use Rattle.journal_model.specs.scripts.Readable.{are_bytes, is_u64}
use Rattle.law_legal.proofs.law_report.Cuts.{both, joint, lacks}
use Rattle.law_legal.proofs.law_report.Numbers.{digits_of, is_digit}
use Rattle.law_legal.proofs.law_report.Names.{declared_name}

-- ---- bytes above a bound

-- all bytes are above it
abbrev pub above : ℕ → Text → Bool
above c w = list_all (nat_lt c) w

pub weaker : (p q : ℕ → Bool) (w : Text) → ((b : ℕ) → p b ≡ true → q b ≡ true) → list_all p w ≡ true → list_all q w ≡ true
weaker p q [] f h = refl
weaker p q (b ∷ w) f h =
    let g = both (p b) (list_all p w) h in joint (q b) (list_all q w) (f b g.0) (weaker p q w f g.1)

-- a byte that is above it isn't it
not_it : (c b : ℕ) → nat_lt c b ≡ true → not (eqb b c) ≡ true
not_it c b h = grind (arith, nat_tests)

pub lacks_it : (c : ℕ) (w : Text) → above c w ≡ true → lacks c w ≡ true
lacks_it c w h = weaker (nat_lt c) (λ b. not (eqb b c)) w (not_it c) h

lower : (c d b : ℕ) → d ≤ c → nat_lt c b ≡ true → nat_lt d b ≡ true
lower c d b l h = grind (arith, nat_tests)

pub above_lower : (c d : ℕ) (w : Text) → d ≤ c → above c w ≡ true → above d w ≡ true
above_lower c d w l h = weaker (nat_lt c) (nat_lt d) w (λ b p. lower c d b l p) h

pub above_append : (c : ℕ) (v w : Text) → above c v ≡ true → above c w ≡ true → above c (v ++ w) ≡ true
above_append c v w p q = list_all-append (nat_lt c) v w ∙ joint (above c v) (above c w) p q

-- numbers, names and hexadecimal digits
digit_above : (b : ℕ) → is_digit b ≡ true → nat_lt 44 b ≡ true
digit_above b h = grind (arith, nat_tests)

pub number_above : (n : ℕ) → is_u64 n ≡ true → above 44 (decimal n) ≡ true
number_above n h = weaker is_digit (nat_lt 44) (decimal n) digit_above (digits_of n (grind (arith, nat_tests)))

letter_above : (b : ℕ) → is_letter b ≡ true → nat_lt 44 b ≡ true
letter_above b h = grind (arith, nat_tests)

name_byte_above : (b : ℕ) → is_letter_or_digit b ≡ true → nat_lt 44 b ≡ true
name_byte_above b h = grind (arith, nat_tests)

above_of_name : (w : Text) → is_name w ≡ true → above 44 w ≡ true
above_of_name [] h = absurd cc
above_of_name (c ∷ cs) h =
    let f = both (is_letter c) (list_all is_letter_or_digit cs) (both (is_letter c && list_all is_letter_or_digit cs) (nat_le (length cs) 7) h).0 in
    joint (nat_lt 44 c) (above 44 cs) (letter_above c f.0) (weaker is_letter_or_digit (nat_lt 44) cs name_byte_above f.1)

pub name_above : (script : Script) (b : _) → is_script script ≡ true → is_declared script b ≡ true → above 44 (name_of script b) ≡ true
name_above script b h k = above_of_name (name_of script b) (declared_name script b h k)

-- ---- bytes

abbrev pub un_hex : Text → List ℕ
un_hex [] = []
un_hex (c ∷ []) = []
un_hex (c ∷ d ∷ w) = (digit_value c * 16 + digit_value d) ∷ un_hex w

byte_again : (b : ℕ) → is_byte b ≡ true → digit_value (digit_char (b / 16)) * 16 + digit_value (digit_char (b % 16)) ≡ b
byte_again b h =
    let small : b < 256 = grind (arith, nat_tests) in
    let high = digit_value-digit_char (b / 16) (omega arith) in
    let low = digit_value-digit_char (b % 16) (omega arith) in
    omega (arith, high, low)

pub hex_again : (bytes : List ℕ) → are_bytes bytes ≡ true → un_hex (hex bytes) ≡ bytes
hex_again [] h = refl
hex_again (b ∷ bytes) h =
    let f = both (is_byte b) (are_bytes bytes) h in
    ap (λ n. n ∷ un_hex (hex bytes)) (byte_again b f.0) ∙ ap (λ bs. b ∷ bs) (hex_again bytes f.1)

digit_char_above : (d : ℕ) → nat_lt 44 (digit_char d) ≡ true
digit_char_above d = grind (arith, nat_tests)

pub hex_above : (bytes : List ℕ) → above 44 (hex bytes) ≡ true
hex_above [] = refl
hex_above (b ∷ bytes) =
    joint (nat_lt 44 (digit_char (b / 16))) (above 44 (digit_char (b % 16) ∷ hex bytes)) (digit_char_above (b / 16))
    (joint (nat_lt 44 (digit_char (b % 16))) (above 44 (hex bytes)) (digit_char_above (b % 16)) (hex_above bytes))
