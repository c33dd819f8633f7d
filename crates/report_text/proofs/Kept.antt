-- What a filter keeps of a list, and where.
use Rattle.std.proofs.Common.{◌≡◌, ℕ, zero, suc, ◌≤◌, List, [], ◌∷◌, length, take, Option, Some, None, ap, ◌∙◌, arith}
use Rattle.std.specs.Prelude.{slice_get, filter_map}
use Rattle.std.specs.List.{cons_option}

-- how many of the first items are kept
abbrev pub kept_before : {X Y : Type 0} → (X → Option Y) → List X → ℕ → ℕ
kept_before h xs i = length (filter_map h (take i xs))

-- one before both
same_length : {Y : Type 0} (o : Option Y) (ys zs : List Y) → length ys ≡ length zs → length (cons_option o ys) ≡ length (cons_option o zs)
same_length None ys zs e = e
same_length (Some y) ys zs e = ap suc e

longer : {Y : Type 0} (o : Option Y) (ys zs : List Y) → length ys ≡ suc (length zs) → length (cons_option o ys) ≡ suc (length (cons_option o zs))
longer None ys zs e = e
longer (Some y) ys zs e = ap suc e

behind : {Y : Type 0} (o : Option Y) (ys zs : List Y) (y : Y) → slice_get ys (length zs) ≡ Some y → slice_get (cons_option o ys) (length (cons_option o zs)) ≡ Some y
behind None ys zs y e = e
behind (Some x) ys zs y e = e

at_most : {Y : Type 0} (o : Option Y) (ys : List Y) (n : ℕ) → length ys ≤ n → length (cons_option o ys) ≤ suc n
at_most None ys n h = omega arith
at_most (Some y) ys n h = omega arith

-- an item of which nothing is kept
pub kept_before-dropped : {X Y : Type 0} (h : X → Option Y) (xs : List X) (i : ℕ) (x : X) → slice_get xs i ≡ Some x → h x ≡ None
    → kept_before h xs (suc i) ≡ kept_before h xs i
kept_before-dropped h [] i x e n = cc
kept_before-dropped h (z ∷ xs) zero x e n = let z_is : z ≡ x = cc in ap (λ o. length (cons_option o [])) (ap h z_is ∙ n)
kept_before-dropped h (z ∷ xs) (suc i) x e n = same_length (h z) (filter_map h (take (suc i) xs)) (filter_map h (take i xs)) (kept_before-dropped h xs i x e n)

-- an item of which something is kept
pub kept_before-kept : {X Y : Type 0} (h : X → Option Y) (xs : List X) (i : ℕ) (x : X) (y : Y) → slice_get xs i ≡ Some x → h x ≡ Some y
    → kept_before h xs (suc i) ≡ suc (kept_before h xs i)
kept_before-kept h [] i x y e k = cc
kept_before-kept h (z ∷ xs) zero x y e k = let z_is : z ≡ x = cc in ap (λ o. length (cons_option o [])) (ap h z_is ∙ k)
kept_before-kept h (z ∷ xs) (suc i) x y e k = longer (h z) (filter_map h (take (suc i) xs)) (filter_map h (take i xs)) (kept_before-kept h xs i x y e k)

-- where it stands
pub kept_at : {X Y : Type 0} (h : X → Option Y) (xs : List X) (i : ℕ) (x : X) (y : Y) → slice_get xs i ≡ Some x → h x ≡ Some y
    → slice_get (filter_map h xs) (kept_before h xs i) ≡ Some y
kept_at h [] i x y e k = cc
kept_at h (z ∷ xs) zero x y e k = let z_is : z ≡ x = cc in ap (λ o. slice_get (cons_option o (filter_map h xs)) 0) (ap h z_is ∙ k)
kept_at h (z ∷ xs) (suc i) x y e k = behind (h z) (filter_map h xs) (filter_map h (take i xs)) y (kept_at h xs i x y e k)

-- no more than there are
pub kept_before-le : {X Y : Type 0} (h : X → Option Y) (xs : List X) (i : ℕ) → kept_before h xs i ≤ i
kept_before-le h [] zero = omega arith
kept_before-le h [] (suc i) = omega arith
kept_before-le h (z ∷ xs) zero = omega arith
kept_before-le h (z ∷ xs) (suc i) = at_most (h z) (filter_map h (take i xs)) i (kept_before-le h xs i)
