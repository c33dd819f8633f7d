-- The first number of a count that passes a test.
use Rattle.std.proofs.Common.{◌≡◌, ℕ, zero, suc, ◌+◌, ◌-◌, ◌<◌, Bool, true, false, [], ◌∷◌, ◌++◌, Some, None, ap, arith}
use Rattle.std.specs.Prelude.{find}
use Rattle.std.proofs.lemmas.Grind.{common_steps}
use Rattle.std.proofs.lemmas.List.Folds.{find-append}
use Rattle.ttm_base.specs.ListWords.{count_from}
use Rattle.state_words.proofs.PageLaws.{count_from-push}

-- a count in two parts
pub count_from-split : (a b start : ℕ) → count_from 1 (a + b) start ≡ count_from 1 a start ++ count_from 1 b (start + a)
count_from-split zero b start = grind (arith, common_steps)
count_from-split (suc a) b start =
    let sum : suc a + b ≡ suc (a + b) = omega arith in
    let behind : start + suc a ≡ 1 + start + a = omega arith in
    rw (sum, behind) (ap (λ rest. start ∷ rest) (count_from-split a b (1 + start)))

pub find_none_more : (test : ℕ → Bool) (n : ℕ) → find test (count_from 1 n 0) ≡ None → test n ≡ false → find test (count_from 1 (n + 1) 0) ≡ None
find_none_more test n before here =
    let e = count_from-push n 0 in
    let f = find-append test (count_from 1 n 0) (n ∷ []) in
    grind (arith, common_steps)

find-count : (test : ℕ → Bool) (n more : ℕ) → find test (count_from 1 n 0) ≡ None → test n ≡ true → find test (count_from 1 (n + suc more) 0) ≡ Some n
find-count test n more before here =
    let e = count_from-split n (suc more) 0 in
    let f = find-append test (count_from 1 n 0) (count_from 1 (suc more) (0 + n)) in
    grind (arith, common_steps)

pub find_here : (test : ℕ → Bool) (n size : ℕ) → find test (count_from 1 n 0) ≡ None → test n ≡ true → n < size → find test (count_from 1 size 0) ≡ Some n
find_here test n size before here within =
    let e = find-count test n (size - n - 1) before here in
    let f : size ≡ n + suc (size - n - 1) = omega arith in
    grind (arith, common_steps)
