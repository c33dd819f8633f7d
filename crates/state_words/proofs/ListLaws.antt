-- Laws on lists that are changed in place.
use Rattle.std.proofs.Common.{◌≡◌, ℕ, zero, suc, ◌+◌, ◌<◌, ◌≤◌, Bool, true, false, List, [], ◌∷◌, length, take, get_or, Some, refl, ap, arith, ◌∙◌}
use Rattle.std.proofs.lemmas.Grind.{common_steps}
use Rattle.std.specs.Prelude.{filter, remove, slice_get}
use Rattle.std.proofs.lemmas.Option.{get_or_from_slice_get, slice_get_within}
use Rattle.std.proofs.lemmas.List.Elements.{filter_more}

-- what stands before an element that is taken out
take-remove : {X : Type 0} (xs : List X) (i : ℕ) → i < length xs → take i (remove xs i) ≡ take i xs
take-remove [] i h = absurd (omega arith)
take-remove (x ∷ xs) zero h = refl
take-remove (x ∷ xs) (suc i) h = ap (λ ys. x ∷ ys) (take-remove xs i (omega arith))

-- an element that fails doesn't change what passes
filter-remove : {X : Type 0} (p : X → Bool) (xs : List X) (i : ℕ) (d : X) → i < length xs → p (get_or xs i d) ≡ false → filter p (remove xs i) ≡ filter p xs
filter-remove p [] i d h f = absurd (omega arith)
filter-remove p (x ∷ xs) zero d h f = grind (arith, common_steps)
filter-remove p (x ∷ xs) (suc i) d h f = let e = filter-remove p xs i d (omega arith) f in grind (arith, common_steps)

-- of the elements of xs those before i that fail are gone from ys
pub record Keeps {X : Type 0} (p : X → Bool) (xs ys : List X) (i : ℕ) : Type 0 where
  within : i ≤ length ys
  front : filter p (take i ys) ≡ take i ys
  same : filter p ys ≡ filter p xs

-- at the start
pub keeps_none : {X : Type 0} (p : X → Bool) (xs : List X) → Keeps p xs xs 0
keeps_none p xs = record { within = omega arith; front = refl; same = refl }

-- the element at i fails, and is taken out
pub keeps_less : {X : Type 0} (p : X → Bool) (xs ys : List X) (i : ℕ) (x : X) → Keeps p xs ys i → slice_get ys i ≡ Some x → p x ≡ false → Keeps p xs (remove ys i) i
keeps_less p xs ys i x k g f =
    let h = slice_get_within ys i x g in
    let e = get_or_from_slice_get ys i x x g in
    let r = filter-remove p ys i x h (ap p e ∙ f) in
    record { within = grind (arith, common_steps, k.within); front = rw (take-remove ys i h) k.front; same = r ∙ k.same }

-- the element at i passes
pub keeps_more : {X : Type 0} (p : X → Bool) (xs ys : List X) (i : ℕ) (x : X) → Keeps p xs ys i → slice_get ys i ≡ Some x → p x ≡ true → Keeps p xs ys (i + 1)
keeps_more p xs ys i x k g f =
    let h = slice_get_within ys i x g in
    let e = get_or_from_slice_get ys i x x g in
    let m = filter_more p ys i x h in
    record { within = omega arith; front = grind (arith, common_steps); same = k.same }

-- at the end those are left that pass
pub keeps_all : {X : Type 0} (p : X → Bool) (xs ys : List X) (i : ℕ) → Keeps p xs ys i → length ys ≤ i → ys ≡ filter p xs
keeps_all p xs ys i k h = grind (arith, common_steps, k.front, k.same, k.within)
