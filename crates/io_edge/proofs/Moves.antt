-- What a call moves: a front of the bytes.
use Rattle.std.proofs.Common.{◌≡◌, ℕ, zero, suc, ◌+◌, ◌≤◌, List, [], ◌∷◌, ◌++◌, length, take, drop, min, arith, ap, refl, ◌∙◌, sym}
use Rattle.std.proofs.lemmas.List.{take-append-drop, drop-drop}

-- the front of a list that begins with a front of another is that front
pub taken_front : {X : Type 0} (n : ℕ) (xs behind : List X) → n ≤ length xs → take n (take n xs ++ behind) ≡ take n xs
taken_front zero xs behind h = refl
taken_front (suc n) [] behind h = grind arith
taken_front (suc n) (x ∷ xs) behind h = ap (λ ys. x ∷ ys) (taken_front n xs behind (omega arith))

-- a front that was moved and what is left behind it are all that there was
pub front_and_rest : {X : Type 0} (at n : ℕ) (bytes to behind : List X) → n ≤ length (drop at bytes) → to ≡ take n (drop at bytes) ++ behind
    → drop at bytes ≡ take n to ++ drop (at + n) bytes
front_and_rest at n bytes to behind h e = sym (
    ap (λ ys. take n ys ++ drop (at + n) bytes) e
    ∙ ap (λ ys. ys ++ drop (at + n) bytes) (taken_front n (drop at bytes) behind h)
    ∙ ap (λ ys. take n (drop at bytes) ++ ys) (sym (drop-drop n at bytes))
    ∙ take-append-drop n (drop at bytes))

-- nothing is moved only where there is nothing
pub none_moved : {X : Type 0} (chunk room : ℕ) (xs : List X) → 1 ≤ chunk → 1 ≤ room → min chunk (min room (length xs)) ≡ 0 → xs ≡ []
none_moved chunk room [] c r h = refl
none_moved chunk room (x ∷ xs) c r h = grind arith
