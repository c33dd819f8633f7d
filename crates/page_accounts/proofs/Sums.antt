-- Sums over the front of a list, and over what stands in the parts and in the state.
use Rattle.std.proofs.Common.{◌≡◌, ℕ, zero, suc, ◌+◌, ◌<◌, ◌≤◌, List, [], ◌∷◌, length, take, Some, refl, sym, ◌∙◌, ap, arith}
use Rattle.std.specs.Prelude.{slice_get, sum_by, map, get_or}
use Rattle.std.proofs.lemmas.List.Sums.{sum_by-cons, sum_by_more}

-- one more at the front
pub summed_more : {X : Type 0} (f : X → ℕ) (xs : List X) (i : ℕ) (x : X) → slice_get xs i ≡ Some x → sum_by f (take (i + 1) xs) ≡ sum_by f (take i xs) + f x
summed_more f xs i x h = sum_by_more f xs i x (within xs i h) ∙ ap (λ y. sum_by f (take i xs) + f y) (found xs i h)
  where
    within : (xs : List _) (i : ℕ) → slice_get xs i ≡ Some x → i < length xs
    within [] i h = cc
    within (y ∷ ys) zero h = omega arith
    within (y ∷ ys) (suc i) h = let w = within ys i h in omega (arith, w)

    found : (xs : List _) (i : ℕ) → slice_get xs i ≡ Some x → get_or xs i x ≡ x
    found [] i h = cc
    found (y ∷ ys) zero h = cc
    found (y ∷ ys) (suc i) h = found ys i h

-- all of it
pub all_taken : {X : Type 0} (f : X → ℕ) (xs : List X) (n : ℕ) → length xs ≤ n → sum_by f (take n xs) ≡ sum_by f xs
all_taken f [] zero h = refl
all_taken f [] (suc n) h = refl
all_taken f (x ∷ xs) zero h = absurd (omega (arith, h))
all_taken f (x ∷ xs) (suc n) h =
    sum_by-cons f x (take n xs) ∙ ap (λ k. f x + k) (all_taken f xs n (omega (arith, h))) ∙ sym (sum_by-cons f x xs)

-- seen through another list
pub summed_seen : {X Y : Type 0} (f : X → ℕ) (g : Y → ℕ) (see : Y → X) → ((y : Y) → f (see y) ≡ g y) → (ys : List Y) → sum_by f (map see ys) ≡ sum_by g ys
summed_seen f g see same [] = refl
summed_seen f g see same (y ∷ ys) =
    let whole = sum_by-cons f (see y) (map see ys) in
    let others = sum_by-cons g y ys in
    let rest = summed_seen f g see same ys in
    let one = same y in
    omega (arith, whole, others, rest, one)
