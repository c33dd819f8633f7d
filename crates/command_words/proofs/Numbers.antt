-- Numbers by their digits, counted up to 2^64.
use Rattle.std.proofs.Common.{◌≡◌, ℕ, ◌+◌, ◌-◌, ◌*◌, List, min, arith, ◌<◌, length, take, get_or, ap, sym, ◌∙◌, add-one}
use Rattle.std.proofs.Math.Seq.{take-suc}
use Rattle.journal_model.specs.scripts.Reading.{read_on}
use Rattle.script_words.proofs.Numbers.{read_on_more_is}

-- what is above the bound stays above it
capped : (n m c : ℕ) → n ≡ min m 18446744073709551616 → min (10 * n + (c - 48)) 18446744073709551616 ≡ min (10 * m + (c - 48)) 18446744073709551616
capped n m c h = omega (arith, h)

pub capped_step : (n i : ℕ) (word : List ℕ) → i < length word → n ≡ min (read_on 0 (take i word)) 18446744073709551616
    → min (10 * n + (get_or word i 0 - 48)) 18446744073709551616 ≡ min (read_on 0 (take (i + 1) word)) 18446744073709551616
capped_step n i word lt h =
    capped n (read_on 0 (take i word)) (get_or word i 0) h
    ∙ ap (λ m. min m 18446744073709551616) (sym (read_on_more_is 0 (take i word) (get_or word i 0)) ∙ ap (read_on 0) (sym (take-suc word i 0 lt) ∙ ap (λ k. take k word) (sym (add-one i))))
