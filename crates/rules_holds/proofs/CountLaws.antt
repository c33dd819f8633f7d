-- How many numbers of a count pass a test.
use Rattle.std.proofs.Common.{◌≡◌, ℕ, ◌+◌, Bool, [], ◌∷◌, length, arith}
use Rattle.std.specs.Prelude.{filter, if◌then◌else◌}
use Rattle.std.proofs.lemmas.Grind.{common_steps}
use Rattle.std.proofs.lemmas.List.Elements.{filter-append}
use Rattle.std.proofs.lemmas.List.{length-append}
use Rattle.ttm_base.specs.ListWords.{count_from}
use Rattle.state_words.proofs.PageLaws.{count_from-push}

-- one number more
pub count_more : (test : ℕ → Bool) (n : ℕ) → length (filter test (count_from 1 (n + 1) 0)) ≡ (if test n then length (filter test (count_from 1 n 0)) + 1 else length (filter test (count_from 1 n 0)))
count_more test n =
    let e = count_from-push n 0 in
    let f = filter-append test (count_from 1 n 0) (n ∷ []) in
    let g = length-append (filter test (count_from 1 n 0)) (filter test (n ∷ [])) in
    grind (arith, common_steps)
