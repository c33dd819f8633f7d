-- The lowest free number is the one that a search among all numbers finds.
use Rattle.std.proofs.Common.{◌≡◌, ℕ, zero, suc, ◌+◌, ◌<◌, Bool, false, not, cond, List, [], ◌∷◌, length, Some, None, slice_get, position, refl, ap, sym, ◌∙◌, arith, inl, inr}
use Rattle.std.specs.Prelude.{find, unwrap_or}
use Rattle.std.specs.List.{position_or_len}
use Rattle.std.proofs.lemmas.Bool.{cases_lt, lt-ltb, le-ltb}
use Rattle.std.proofs.lemmas.List.Folds.{find_at}
use Rattle.std.proofs.lemmas.Option.{slice_get_past}
use Rattle.ttm_base.specs.ListWords.{count_from}

-- all numbers in order
length-count : (n start : ℕ) → length (count_from 1 n start) ≡ n
length-count zero start = refl
length-count (suc n) start = ap suc (length-count n (1 + start))

count_at : (n start k : ℕ) → k < n → slice_get (count_from 1 n start) k ≡ Some (start + k)
count_at zero start k h = absurd (omega arith)
count_at (suc n) start zero h = ap (λ m. Some m) (omega arith)
count_at (suc n) start (suc k) h = count_at n (1 + start) k (omega arith) ∙ ap (λ m. Some m) (omega arith)

-- a search among the numbers from one on goes as far as one along the list
same_way : (held : List Bool) (is_held : ℕ → Bool) (start : ℕ) → ((n : ℕ) → n < length held → slice_get held n ≡ Some (is_held (start + n)))
    → position_or_len (λ n. not (is_held n)) (count_from 1 (length held) start) ≡ position_or_len not held
same_way [] is_held start told = refl
same_way (x ∷ xs) is_held start told =
    let here : x ≡ is_held start = ap (λ o. unwrap_or o false) (told 0 (omega arith)) ∙ ap is_held (omega arith) in
    let rest = same_way xs is_held (1 + start) (λ n lt. told (suc n) (omega arith) ∙ ap (λ m. Some (is_held m)) (omega arith)) in
    ap (λ b. cond (not (not b)) (1 + position_or_len (λ n. not (is_held n)) (count_from 1 (length xs) (1 + start))) 0) (sym here)
    ∙ ap (λ m. cond (not (not x)) (1 + m) 0) rest

pub lowest_found : (held : List Bool) (is_held : ℕ → Bool) → ((n : ℕ) → n < length held → slice_get held n ≡ Some (is_held n))
    → position not held ≡ find (λ n. not (is_held n)) (count_from 1 (length held) 0)
lowest_found held is_held told =
    let at = position_or_len not held in
    let search : find (λ n. not (is_held n)) (count_from 1 (length held) 0) ≡ slice_get (count_from 1 (length held) 0) at =
    find_at (λ n. not (is_held n)) (count_from 1 (length held) 0)
    ∙ ap (λ k. slice_get (count_from 1 (length held) 0) k) (same_way held is_held 0 (λ n lt. told n lt ∙ ap (λ m. Some (is_held m)) (omega arith))) in
    elim (cases_lt at (length held)) [
      | inl lt ↦ ap (λ b. cond b (Some at) None) (lt-ltb at (length held) lt) ∙ sym (search ∙ count_at (length held) 0 at lt ∙ ap (λ m. Some m) (omega arith))
      | inr le ↦
          ap (λ b. cond b (Some at) None) (le-ltb at (length held) le)
          ∙ sym (search ∙ slice_get_past (count_from 1 (length held) 0) at (omega (arith, length-count (length held) 0)))
    ]
