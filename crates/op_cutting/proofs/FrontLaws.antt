-- Lists that are the front of others.
use Rattle.std.proofs.Common.{◌≡◌, ℕ, zero, suc, ◌+◌, ◌<◌, ◌≤◌, List, [], ◌∷◌, ◌++◌, Result, Ok, Err, length, get_or, take, drop, refl, ap, sym, ◌∙◌, subst, arith}
use Rattle.std.specs.Result.{OnErr}
use Rattle.std.specs.List.{flat_map}
use Rattle.std.proofs.Math.Seq.{take-append_seam}

pub on_err : {T E P : Type 0} (r : Result T E) → P → OnErr r P
on_err (Ok x) p = tt
on_err (Err e) p = p

-- what stands before the rest
pub front : {A : Type 0} (new xs rest ys : List A) → new ≡ xs → xs ++ rest ≡ ys → new ≡ take (length new) ys
front new xs rest ys e h = subst (λ zs. new ≡ take (length new) zs) (ap (λ zs. zs ++ rest) e ∙ h) (sym (take-append_seam new rest))

take_more : {A : Type 0} (n : ℕ) (xs ys : List A) → n ≡ length (take n xs) → take n (xs ++ ys) ≡ take n xs
take_more zero xs ys h = refl
take_more (suc n) [] ys h = absurd (omega (arith, h))
take_more (suc n) (x ∷ xs) ys h = ap (λ l. x ∷ l) (take_more n xs ys (omega (arith, h)))

-- more may follow
pub longer : {A : Type 0} (new xs ys : List A) → new ≡ take (length new) xs → new ≡ take (length new) (xs ++ ys)
longer new xs ys h = h ∙ sym (take_more (length new) xs ys (ap length h))

append_three : {A : Type 0} (xs ys zs : List A) → (xs ++ ys) ++ zs ≡ xs ++ (ys ++ zs)
append_three [] ys zs = refl
append_three (x ∷ xs) ys zs = ap (λ l. x ∷ l) (append_three xs ys zs)

-- what comes of an item, and of those before and after it
pub around : {X A : Type 0} (f : X → List A) (xs : List X) (i : ℕ) (d : X) → i < length xs → flat_map f (take i xs) ++ (f (get_or xs i d) ++ flat_map f (drop (i + 1) xs)) ≡ flat_map f xs
around f [] i d h = absurd (omega arith)
around f (x ∷ xs) zero d h = refl
around f (x ∷ xs) (suc i) d h =
    let e : suc i + 1 ≡ suc (i + 1) = omega arith in
    append_three (f x) (flat_map f (take i xs)) (f (get_or xs i d) ++ flat_map f (drop (suc i + 1) (x ∷ xs)))
    ∙ ap (λ n. f x ++ (flat_map f (take i xs) ++ (f (get_or xs i d) ++ flat_map f (drop n (x ∷ xs))))) e
    ∙ ap (λ l. f x ++ l) (around f xs i d (omega arith))

pub up_to_item : {X A : Type 0} (f : X → List A) (xs : List X) (i : ℕ) (d : X) (new now old : List A) → i < length xs → now ≡ old ++ flat_map f (take i xs) → new ≡ take (length new) (now ++ f (get_or xs i d)) → new ≡ take (length new) (old ++ flat_map f xs)
up_to_item {A = A} f xs i d new now old l is h =
    let tail : List A = flat_map f (drop (i + 1) xs) in
    subst (λ zs. new ≡ take (length new) zs)
    (append_three now (f (get_or xs i d)) tail ∙ ap (λ zs. zs ++ (f (get_or xs i d) ++ tail)) is ∙ append_three old (flat_map f (take i xs)) (f (get_or xs i d) ++ tail) ∙ ap (λ zs. old ++ zs) (around f xs i d l))
    (longer new (now ++ f (get_or xs i d)) tail h)
