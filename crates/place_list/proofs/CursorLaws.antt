-- The pages of a span: the first and the others.
use Rattle.std.proofs.Common.{◌≡◌, ℕ, suc, ◌+◌, ◌-◌, ◌<◌, ◌≤◌, List, [], ◌∷◌, length, ap, ◌∙◌, arith}
use Rattle.std.proofs.lemmas.Grind.{common_steps}
use Rattle.ttm_base.specs.ListWords.{count_from}
use Rattle.place_list.specs.SpanPages.{pages_of_span}

-- numbers from a start on: the first, and the others
count_from-first : (n start : ℕ) → count_from 1 (suc n) start ≡ start ∷ count_from 1 n (start + 1)
count_from-first n start = let e : 1 + start ≡ start + 1 = omega arith in ap (λ s. start ∷ count_from 1 n s) e

-- the first page of a span, and the others
pub first_page : (start end : ℕ) → start < end
    → pages_of_span (record { start = start; end = end }) ≡ start ∷ pages_of_span (record { start = start + 1; end = end })
first_page start end h =
    let e : end - start ≡ suc (end - (start + 1)) = omega arith in
    ap (λ n. count_from 1 n start) e ∙ count_from-first (end - (start + 1)) start

-- a list with one element more is longer
pub one_longer : {X : Type 0} (xs ys : List X) (x : X) → xs ≡ x ∷ ys → length ys < length xs
one_longer xs ys x h = let e = ap length h in omega (arith, e)

-- an empty span has no pages
pub no_pages : (start end : ℕ) → end ≤ start → pages_of_span (record { start = start; end = end }) ≡ []
no_pages start end h = let e : end - start ≡ 0 = omega arith in grind (arith, common_steps, e)
