-- A number that is read is written so, and a number that is written is read.
use Rattle.std.proofs.Common.{◌≡◌, ℕ, ◌<◌, ◌≤◌, ◌^◌, Bool, true, false, cond, [], ◌∷◌, length, get_or, Some, None, refl, sym, ap, subst, ◌∙◌, arith, rules, inl, inr}
use Rattle.std.specs.Prelude.{◌&&◌, decimal}
use Rattle.std.specs.List.{list_all}
use Rattle.std.proofs.lemmas.Bool.{cases_lt}
use Rattle.std.specs.Fmt.{digits}
use Rattle.std.proofs.lemmas.Bool.Decides.{nat_tests}
use Rattle.std.proofs.lemmas.Str.Parse.{IsNumeralModel, numerals_by_fold}
use Rattle.std.proofs.lemmas.Fmt.{decimal-digits_value, digits_decimal, digits_value-decimal, decimal_nonempty, first_decimal}
use Rattle.journal_model.specs.scripts.Words.{Text}
use Rattle.journal_model.specs.scripts.Reading.{is_digit, is_plain, has_no_leading_zero, read_on, number_in}
use Rattle.journal_model.specs.scripts.CommandRules.{is_between}
use Rattle.law_legal.proofs.law_items.Tests.{both}

-- reading digits is a model of decimals
pub own : IsNumeralModel (λ ds. list_all is_digit ds ≡ true) (read_on 0)
own = numerals_by_fold _ (search rules) read_on (search rules)

chosen : (b : Bool) (m n : ℕ) → cond b (Some m) None ≡ Some n → (b ≡ true) × (m ≡ n)
chosen true m n h = (refl, cc)
chosen false m n h = absurd cc

-- no leading zero but for zero itself
pub lead : (w : Text) → has_no_leading_zero w ≡ true → (0 < length w) × (get_or w 0 0 ≡ 48 → length w ≡ 1)
lead [] h = absurd cc
lead (c ∷ cs) h = (omega arith, λ e. grind (arith, nat_tests, h, e))

-- a number within limits
pub between : (low high n : ℕ) → is_between low high n ≡ true → (low ≤ n) × (n ≤ high)
between low high n h = (grind (arith, nat_tests, h), grind (arith, nat_tests, h))

-- a number that is read is spelled so
pub number_takes : (low high : ℕ) (w : Text) (n : ℕ) → high < 2 ^ 64 → number_in low high w ≡ Some n → (w ≡ decimal n) × (low ≤ n) × (n ≤ high)
number_takes low high w n small h =
    let k = chosen (is_plain w && is_between low high (read_on 0 w)) (read_on 0 w) n h in
    let f = both (is_plain w) (is_between low high (read_on 0 w)) k.0 in
    let g = both (has_no_leading_zero w) (list_all is_digit w) f.0 in
    let l = lead w g.0 in
    let r = between low high (read_on 0 w) f.1 in
    let spelled = decimal-digits_value own w g.1 l.0 l.1 (omega (arith, r.1, small)) in
    (sym spelled ∙ ap decimal k.1, omega (arith, r.0, k.1), omega (arith, r.1, k.1))

no_zero : (w : Text) → 0 < length w → (get_or w 0 0 ≡ 48 → length w ≡ 1) → has_no_leading_zero w ≡ true
no_zero [] s h = absurd (omega (arith, s))
no_zero (c ∷ []) s h = grind (arith, nat_tests)
no_zero (c ∷ d ∷ cs) s h = grind (arith, nat_tests, h)

-- and the other way round
pub is_in : (low high n : ℕ) → low ≤ n → n ≤ high → is_between low high n ≡ true
is_in low high n a b = grind (arith, nat_tests)

zero_is : (n : ℕ) → n ≤ 0 → 0 ≡ n
zero_is n h = omega (arith, h)

one_zero : length (decimal 0) ≡ 1
unfolding digits
one_zero = refl

zero_or_more : (n : ℕ) → n < 2 ^ 64 → get_or (decimal n) 0 0 ≡ 48 → length (decimal n) ≡ 1
zero_or_more n small h = elim (cases_lt 0 n) [
  | inl some ↦ absurd (omega (arith, first_decimal n some small, h))
  | inr none ↦ subst (λ m. length (decimal m) ≡ 1) (zero_is n none) one_zero
]

test : (f d : Bool) (v low high n : ℕ) → f ≡ true → d ≡ true → v ≡ n → is_between low high n ≡ true → cond ((f && d) && is_between low high v) (Some v) None ≡ Some n
test true true v low high n p q e h = ap (λ m. cond (is_between low high m) (Some m) None) e ∙ ap (λ b. cond b (Some n) None) h
test false d v low high n p q e h = absurd cc
test true false v low high n p q e h = absurd cc

-- a number that is written is read
pub number_again : (low high n : ℕ) → high < 2 ^ 64 → low ≤ n → n ≤ high → number_in low high (decimal n) ≡ Some n
number_again low high n small a b =
    let fits : n < 2 ^ 64 = omega (arith, small, b) in
    let value : read_on 0 (decimal n) ≡ n = digits_value-decimal own n fits in
    let digits : list_all is_digit (decimal n) ≡ true = digits_decimal own n fits in
    let first : has_no_leading_zero (decimal n) ≡ true = no_zero (decimal n) (decimal_nonempty n fits) (zero_or_more n fits) in
    test (has_no_leading_zero (decimal n)) (list_all is_digit (decimal n)) (read_on 0 (decimal n)) low high n first digits value (is_in low high n a b)
