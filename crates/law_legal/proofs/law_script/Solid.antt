-- Words that were written have bytes that show, no space, and something in them.
use Rattle.std.proofs.Common.{◌≡◌, ℕ, ◌<◌, ◌^◌, Bool, true, false, List, [], ◌∷◌, length, refl, sym, ap, ◌∙◌, arith}
use Rattle.std.specs.Prelude.{◌&&◌, ◌||◌, ◌/◌, ◌%◌, not, codes, decimal, nat_le}
use Rattle.std.specs.List.{list_any, list_all, join_with_byte}
use Rattle.std.specs.Char.{digit_char}
use Rattle.std.proofs.lemmas.Bool.Decides.{nat_tests}
use Rattle.std.proofs.lemmas.List.Folds.{list_all-append}
use Rattle.std.proofs.lemmas.List.Concat.{flat_map-cons}
use Rattle.std.proofs.lemmas.Fmt.{digits_decimal, decimal_nonempty}
use Rattle.journal_model.specs.scripts.Words.{Text, hex, hex_byte}
use Rattle.journal_model.specs.scripts.Cut.{is_semicolon}
use Rattle.journal_model.specs.scripts.CommandRules.{is_between, is_byte}
use Rattle.journal_model.specs.scripts.ScriptRules.{is_letter, is_letter_or_digit, is_name}
use Rattle.journal_model.specs.scripts.Reading.{is_digit}
use Rattle.journal_model.specs.scripts.LineWords.{is_empty}
use Rattle.journal_model.specs.scripts.FirstFault.{is_shown}
use Rattle.law_legal.proofs.law_script.CutLaws.{lacks}
use Rattle.law_legal.proofs.law_script.NumberLaws.{own}
use Rattle.law_legal.proofs.law_script.WordLaws.{bytes_are}
use Rattle.law_legal.proofs.law_script.PlaceAgain.{lacks_by}
use Rattle.law_legal.proofs.law_items.Tests.{not_true, both, joint, three_facts, le_is, apart}

-- a byte that shows and is no space
abbrev pub is_solid : ℕ → Bool
is_solid b = is_between 33 126 b

-- a word: not empty, of such bytes
abbrev pub is_word : Text → Bool
is_word w = not (is_empty w) && list_all is_solid w

-- a word of letters and digits
abbrev pub is_small : Text → Bool
is_small w = not (is_empty w) && list_all is_letter_or_digit w

implied : {X : Type 0} (p q : X → Bool) (xs : List X) → ((x : X) → p x ≡ true → q x ≡ true) → list_all p xs ≡ true → list_all q xs ≡ true
implied p q [] h k = refl
implied p q (x ∷ xs) h k = let f = both (p x) (list_all p xs) k in joint (q x) (list_all q xs) (h x f.0) (implied p q xs h f.1)

letter_solid : (c : ℕ) → is_letter_or_digit c ≡ true → is_solid c ≡ true
letter_solid c h = grind (arith, nat_tests, h)

-- letters and digits make a word
pub small_word : (w : Text) → is_small w ≡ true → is_word w ≡ true
small_word w h =
    let f = both (not (is_empty w)) (list_all is_letter_or_digit w) h in
    joint (not (is_empty w)) (list_all is_solid w) f.0 (implied is_letter_or_digit is_solid w letter_solid f.1)

no_sign : (b : Bool) (w : Text) → list_all is_letter_or_digit w ≡ true → is_semicolon w ≡ b → b ≡ false
no_sign false w h e = refl
no_sign true w h e = absurd (apart (ap (list_all is_letter_or_digit) (sym (bytes_are w (codes ";") e)) ∙ h))

-- a word of letters and digits is no semicolon
pub small_no_sign : (w : Text) → is_small w ≡ true → is_semicolon w ≡ false
small_no_sign w h = no_sign (is_semicolon w) w (both (not (is_empty w)) (list_all is_letter_or_digit w) h).1 refl

-- a word with something in it
pub not_empty : (w : Text) → 0 < length w → not (is_empty w) ≡ true
not_empty w h = grind (arith, nat_tests, h)

digit_small : (c : ℕ) → is_digit c ≡ true → is_letter_or_digit c ≡ true
digit_small c h = grind (arith, nat_tests, h)

-- a number is of digits
pub number_small_word : (n : ℕ) → n < 2 ^ 64 → is_small (decimal n) ≡ true
number_small_word n h =
    joint (not (is_empty (decimal n))) (list_all is_letter_or_digit (decimal n)) (not_empty (decimal n) (decimal_nonempty n h)) (implied is_digit is_letter_or_digit (decimal n) digit_small (digits_decimal own n h))

letter_small : (c : ℕ) → is_letter c ≡ true → is_letter_or_digit c ≡ true
letter_small c h = ap (λ b. b || is_between 48 57 c) h

-- a name is of letters and digits
pub name_small : (w : Text) → is_name w ≡ true → is_small w ≡ true
name_small [] h = absurd cc
name_small (c ∷ cs) h =
    let f = three_facts (is_letter c) (list_all is_letter_or_digit cs) (nat_le (length cs) 7) h in
    joint (not (is_empty (c ∷ cs))) (list_all is_letter_or_digit (c ∷ cs)) (not_empty (c ∷ cs) (omega arith)) (joint (is_letter_or_digit c) (list_all is_letter_or_digit cs) (letter_small c f.0) f.1)

hex_small : (n : ℕ) → n < 16 → is_letter_or_digit (digit_char n) ≡ true
hex_small n h = grind (arith, nat_tests, h)

byte_digits : (b : ℕ) → is_byte b ≡ true → list_all is_letter_or_digit (hex_byte b) ≡ true
byte_digits b h =
    let small = le_is b 255 h in
    joint (is_letter_or_digit (digit_char (b / 16))) (list_all is_letter_or_digit (digit_char (b % 16) ∷ [])) (hex_small (b / 16) (omega (arith, small)))
    (joint (is_letter_or_digit (digit_char (b % 16))) true (hex_small (b % 16) (omega (arith, small))) refl)

-- a byte is of letters and digits
pub byte_small_word : (b : ℕ) → is_byte b ≡ true → is_small (hex_byte b) ≡ true
byte_small_word b h = joint (not (is_empty (hex_byte b))) (list_all is_letter_or_digit (hex_byte b)) (not_empty (hex_byte b) (omega arith)) (byte_digits b h)

hex_digits : (bs : List ℕ) → list_all is_byte bs ≡ true → list_all is_letter_or_digit (hex bs) ≡ true
hex_digits [] h = refl
hex_digits (b ∷ bs) h =
    let f = both (is_byte b) (list_all is_byte bs) h in
    ap (list_all is_letter_or_digit) (flat_map-cons hex_byte b bs) ∙ list_all-append is_letter_or_digit (hex_byte b) (hex bs)
    ∙ joint (list_all is_letter_or_digit (hex_byte b)) (list_all is_letter_or_digit (hex bs)) (byte_digits b f.0) (hex_digits bs f.1)

hex_some : (bs : List ℕ) → 0 < length bs → 0 < length (hex bs)
hex_some [] h = absurd (omega (arith, h))
hex_some (b ∷ bs) h = let e = ap length (flat_map-cons hex_byte b bs) in omega (arith, e)

-- bytes are of letters and digits
pub hex_word : (bs : List ℕ) → 0 < length bs → list_all is_byte bs ≡ true → is_small (hex bs) ≡ true
hex_word bs some h = joint (not (is_empty (hex bs))) (list_all is_letter_or_digit (hex bs)) (not_empty (hex bs) (hex_some bs some)) (hex_digits bs h)

-- ---- what solid words lack

solid_lacks : (c : ℕ) (w : Text) → is_solid c ≡ false → list_all is_solid w ≡ true → lacks c w ≡ true
solid_lacks c w nay h = ap not (lacks_by is_solid c w nay h)

-- words have no such byte
pub words_lack : (c : ℕ) (ws : List Text) → is_solid c ≡ false → list_all is_word ws ≡ true → list_all (lacks c) ws ≡ true
words_lack c ws nay h = implied is_word (lacks c) ws (λ w k. solid_lacks c w nay (both (not (is_empty w)) (list_all is_solid w) k).1) h

-- no word is empty
pub none_empty : (ws : List Text) → list_all is_word ws ≡ true → list_any is_empty ws ≡ false
none_empty [] h = refl
none_empty (w ∷ ws) h =
    let f = both (is_word w) (list_all is_word ws) h in
    let g = both (not (is_empty w)) (list_all is_solid w) f.0 in
    ap (λ b. b || list_any is_empty ws) (not_true (is_empty w) g.0) ∙ none_empty ws f.1

solid_shown : (c : ℕ) → is_solid c ≡ true → is_shown c ≡ true
solid_shown c h = grind (arith, nat_tests, h)

word_shown : (w : Text) → is_word w ≡ true → list_all is_shown w ≡ true
word_shown w h = implied is_solid is_shown w solid_shown (both (not (is_empty w)) (list_all is_solid w) h).1

-- words with spaces between show
pub spaced_shown : (ws : List Text) → list_all is_word ws ≡ true → list_all is_shown (join_with_byte 32 ws) ≡ true
spaced_shown [] h = refl
spaced_shown (w ∷ []) h = word_shown w (both (is_word w) true h).0
spaced_shown (w ∷ v ∷ ws) h =
    let f = both (is_word w) (list_all is_word (v ∷ ws)) h in
    list_all-append is_shown w (32 ∷ join_with_byte 32 (v ∷ ws)) ∙ joint (list_all is_shown w) (list_all is_shown (32 ∷ join_with_byte 32 (v ∷ ws))) (word_shown w f.0) (spaced_shown (v ∷ ws) f.1)
