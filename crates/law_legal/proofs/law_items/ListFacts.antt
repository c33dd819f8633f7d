-- Lists that grow at their end, and the last of a list of lists.
use Rattle.std.proofs.Common.{◌≡◌, ℕ, suc, ◌+◌, ◌-◌, ◌<◌, ◌≤◌, Bool, true, false, List, [], ◌∷◌, ◌++◌, length, map, Option, Some, None, refl, sym, ap, ◌∙◌, append_assoc, arith}
use Rattle.std.specs.Prelude.{sum_by, flat_map, slice_get, slice_set, nat_le}
use Rattle.std.specs.List.{list_all}
use Rattle.std.proofs.lemmas.List.{append-nil}
use Rattle.std.proofs.lemmas.List.Concat.{flat_map-cons}
use Rattle.std.proofs.lemmas.List.Sums.{sum_by-append, sum_by-cons}
use Rattle.std.proofs.lemmas.Grind.{flat_map-append}
use Rattle.journal_model.specs.scripts.FirstFault.{onto_last}
use Rattle.law_legal.proofs.law_items.Tests.{both, joint, and_true, is_le}

-- ---- one more at the end

-- nothing fails in an empty list
pub all_nil : {X : Type 0} (p : X → Bool) (xs : List X) → xs ≡ [] → list_all p xs ≡ true
all_nil p [] h = refl
all_nil p (x ∷ xs) h = absurd cc

-- one more at the end
pub all_more : {X : Type 0} (p : X → Bool) (xs : List X) (x : X) → list_all p xs ≡ true → p x ≡ true → list_all p (xs ++ x ∷ []) ≡ true
all_more p [] x h k = and_true (p x) k
all_more p (y ∷ xs) x h k =
    let f = both (p y) (list_all p xs) h in
    joint (p y) (list_all p (xs ++ x ∷ [])) f.0 (all_more p xs x f.1 k)

-- a list with one more
pub length_more : {X : Type 0} (xs : List X) (x : X) → length (xs ++ x ∷ []) ≡ length xs + 1
length_more [] x = refl
length_more (y ∷ xs) x = let e = length_more xs x in omega (arith, e)

-- a list keeps its length
pub length_map : {X Y : Type 0} (f : X → Y) (xs : List X) → length (map f xs) ≡ length xs
length_map f [] = refl
length_map f (x ∷ xs) = ap suc (length_map f xs)

-- ---- one more in the last list

-- one more in the last list
abbrev pub put_last : {X : Type 0} → X → List (List X) → List (List X)
put_last c [] = []
put_last c (xs ∷ []) = (xs ++ c ∷ []) ∷ []
put_last c (xs ∷ ys ∷ rest) = xs ∷ put_last c (ys ∷ rest)

-- how many the last list has
abbrev pub last_len : {X : Type 0} → List (List X) → ℕ
last_len [] = 0
last_len (xs ∷ []) = length xs
last_len (xs ∷ ys ∷ rest) = last_len (ys ∷ rest)

abbrev put_at : {X : Type 0} → X → ℕ → List (List X) → Option (List X) → List (List X)
put_at c n lists found = elim found [ Some xs ↦ slice_set lists n (xs ++ c ∷ []) | None ↦ lists ]

put_behind : {X : Type 0} (c : X) (n : ℕ) (x : List X) (lists : List (List X)) (found : Option (List X)) → put_at c (suc n) (x ∷ lists) found ≡ x ∷ put_at c n lists found
put_behind c n x lists (Some xs) = refl
put_behind c n x lists None = refl

-- the same as the definition says it
pub onto_is : {X : Type 0} (c : X) (lists : List (List X)) → onto_last c lists ≡ put_last c lists
onto_is c [] = refl
onto_is c (xs ∷ []) = refl
onto_is c (xs ∷ ys ∷ rest) =
    let lists = ys ∷ rest in
    let n : length (xs ∷ lists) - 1 ≡ suc (length lists - 1) = omega arith in
    ap (λ k. put_at c k (xs ∷ lists) (slice_get (xs ∷ lists) k)) n
    ∙ put_behind c (length lists - 1) xs lists (slice_get lists (length lists - 1))
    ∙ ap (λ ls. xs ∷ ls) (onto_is c (ys ∷ rest))

-- as many lists as before
pub length_put : {X : Type 0} (c : X) (lists : List (List X)) → length (put_last c lists) ≡ length lists
length_put c [] = refl
length_put c (xs ∷ []) = refl
length_put c (xs ∷ ys ∷ rest) = ap suc (length_put c (ys ∷ rest))

-- the last list has one more
pub last_put : {X : Type 0} (c : X) (lists : List (List X)) → 0 < length lists → last_len (put_last c lists) ≡ last_len lists + 1
last_put c [] h = absurd (omega (arith, h))
last_put c (xs ∷ []) h = length_more xs c
last_put c (xs ∷ ys ∷ []) h = length_more ys c
last_put c (xs ∷ ys ∷ zs ∷ rest) h = last_put c (ys ∷ zs ∷ rest) (omega arith)

-- a new list has nothing
pub last_new : {X : Type 0} (lists : List (List X)) → last_len (lists ++ [] ∷ []) ≡ 0
last_new [] = refl
last_new (xs ∷ []) = refl
last_new (xs ∷ ys ∷ rest) = last_new (ys ∷ rest)

-- all hold with one more that does
pub all_put : {X : Type 0} (p : X → Bool) (c : X) (lists : List (List X)) → list_all (list_all p) lists ≡ true → p c ≡ true → list_all (list_all p) (put_last c lists) ≡ true
all_put p c [] h k = refl
all_put p c (xs ∷ []) h k = and_true (list_all p (xs ++ c ∷ [])) (all_more p xs c (both (list_all p xs) true h).0 k)
all_put p c (xs ∷ ys ∷ rest) h k =
    let f = both (list_all p xs) (list_all (list_all p) (ys ∷ rest)) h in
    joint (list_all p xs) (list_all (list_all p) (put_last c (ys ∷ rest))) f.0 (all_put p c (ys ∷ rest) f.1 k)

-- the limit of a list
abbrev pub has_few : {X : Type 0} → List X → Bool
has_few xs = nat_le (length xs) 4096

-- no list has too many with one more
pub few_put : {X : Type 0} (c : X) (lists : List (List X)) → list_all has_few lists ≡ true → last_len lists < 4096 → list_all has_few (put_last c lists) ≡ true
few_put c [] h k = refl
few_put c (xs ∷ []) h k = let e = length_more xs c in and_true (has_few (xs ++ c ∷ [])) (is_le (length (xs ++ c ∷ [])) 4096 (omega (arith, e, k)))
few_put c (xs ∷ ys ∷ rest) h k =
    let f = both (has_few xs) (list_all has_few (ys ∷ rest)) h in
    joint (has_few xs) (list_all has_few (put_last c (ys ∷ rest))) f.0 (few_put c (ys ∷ rest) f.1 k)

-- a sum with one more
pub sum_more : {X : Type 0} (f : X → ℕ) (xs : List X) (x : X) → sum_by f (xs ++ x ∷ []) ≡ sum_by f xs + f x
sum_more f xs x = sum_by-append f xs (x ∷ []) ∙ ap (λ n. sum_by f xs + n) (sum_by-cons f x [] ∙ omega arith)

-- a sum over all lists with one more
pub sum_put : {X : Type 0} (f : X → ℕ) (c : X) (lists : List (List X)) → 0 < length lists → sum_by (sum_by f) (put_last c lists) ≡ sum_by (sum_by f) lists + f c
sum_put f c [] h = absurd (omega (arith, h))
sum_put f c (xs ∷ []) h = sum_by-cons (sum_by f) (xs ++ c ∷ []) [] ∙ ap (λ n. n + 0) (sum_more f xs c) ∙ let e = sum_by-cons (sum_by f) xs [] in omega (arith, e)
sum_put f c (xs ∷ ys ∷ rest) h =
    let a = sum_by-cons (sum_by f) xs (put_last c (ys ∷ rest)) in
    let b = sum_put f c (ys ∷ rest) (omega arith) in
    let d = sum_by-cons (sum_by f) xs (ys ∷ rest) in
    omega (arith, a, b, d)

-- what is made of each list ends with what is made of its last item
pub text_put : {X : Type 0} (head : List ℕ) (f : X → List ℕ) (c : X) (lists : List (List X)) → 0 < length lists
    → flat_map (λ xs. head ++ flat_map f xs) (put_last c lists) ≡ flat_map (λ xs. head ++ flat_map f xs) lists ++ f c
text_put {X = X} head f c [] h = absurd (omega (arith, h))
text_put {X = X} head f c (xs ∷ []) h =
    let g : List X → List ℕ = λ ys. head ++ flat_map f ys in
    flat_map-cons g (xs ++ c ∷ []) [] ∙ append-nil (g (xs ++ c ∷ [])) ∙ ap (λ t. head ++ t) (flat_map-append f xs (c ∷ []) ∙ ap (λ t. flat_map f xs ++ t) (flat_map-cons f c [] ∙ append-nil (f c)))
    ∙ sym (append_assoc head (flat_map f xs) (f c)) ∙ ap (λ t. t ++ f c) (sym (flat_map-cons g xs [] ∙ append-nil (g xs)))
text_put {X = X} head f c (xs ∷ ys ∷ rest) h =
    let g : List X → List ℕ = λ ys. head ++ flat_map f ys in
    flat_map-cons g xs (put_last c (ys ∷ rest)) ∙ ap (λ t. g xs ++ t) (text_put head f c (ys ∷ rest) (omega arith))
    ∙ sym (append_assoc (g xs) (flat_map g (ys ∷ rest)) (f c)) ∙ ap (λ t. t ++ f c) (sym (flat_map-cons g xs (ys ∷ rest)))

-- ---- the last list

-- the last list, or none
abbrev pub last_list : {X : Type 0} → List (List X) → List X
last_list [] = []
last_list (xs ∷ []) = xs
last_list (xs ∷ ys ∷ lists) = last_list (ys ∷ lists)

-- as long as the last list
pub last_len_is : {X : Type 0} (lists : List (List X)) → last_len lists ≡ length (last_list lists)
last_len_is [] = refl
last_len_is (xs ∷ []) = refl
last_len_is (xs ∷ ys ∷ lists) = last_len_is (ys ∷ lists)

-- where the last list is known
pub last_end : {X : Type 0} (done : List (List X)) (xs : List X) → last_list (done ++ xs ∷ []) ≡ xs
last_end [] xs = refl
last_end (ys ∷ []) xs = refl
last_end (ys ∷ zs ∷ done) xs = last_end (zs ∷ done) xs

-- one more after it
pub put_end : {X : Type 0} (c : X) (done : List (List X)) (xs : List X) → put_last c (done ++ xs ∷ []) ≡ done ++ (xs ++ c ∷ []) ∷ []
put_end c [] xs = refl
put_end c (ys ∷ []) xs = refl
put_end c (ys ∷ zs ∷ done) xs = ap (λ ts. ys ∷ ts) (put_end c (zs ∷ done) xs)
