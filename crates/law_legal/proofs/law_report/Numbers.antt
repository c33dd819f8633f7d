-- Numbers come back.
use Rattle.std.proofs.Common.{◌≡◌, ℕ, ◌+◌, ◌*◌, ◌-◌, ◌<◌, ◌^◌, Bool, true, [], ◌∷◌, rules}
use Rattle.std.specs.Prelude.{◌&&◌, nat_le, decimal}
use Rattle.std.specs.List.{list_all}
use Rattle.std.proofs.lemmas.Str.Parse.{IsNumeralModel, numerals_by_fold}
use Rattle.std.proofs.lemmas.Fmt.{digits_decimal, digits_value-decimal}
use Rattle.journal_model.specs.scripts.Words.{Text}

-- a decimal digit
abbrev pub is_digit : ℕ → Bool
is_digit c = nat_le 48 c && nat_le c 57

-- the number that digits say after those of n
abbrev pub read_on : ℕ → Text → ℕ
read_on n [] = n
read_on n (c ∷ cs) = read_on (n * 10 + (c - 48)) cs

own : IsNumeralModel (λ ds. list_all is_digit ds ≡ true) (read_on 0)
own = numerals_by_fold _ (search rules) read_on (search rules)

pub number_again : (n : ℕ) → n < 2 ^ 64 → read_on 0 (decimal n) ≡ n
number_again n h = digits_value-decimal own n h

pub digits_of : (n : ℕ) → n < 2 ^ 64 → list_all is_digit (decimal n) ≡ true
digits_of n h = digits_decimal own n h
