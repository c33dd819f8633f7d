-- Filters, maps, and lists of which one place was set.
use Rattle.std.proofs.Common.{◌≡◌, ℕ, zero, suc, ◌<◌, Bool, true, false, List, [], ◌∷◌, ◌++◌, length, Option, Some, None, refl, sym, ◌∙◌, ap, ap₂, arith}
use Rattle.std.specs.Prelude.{drop, filter, find, map, slice_get, slice_set, slice_index_or, option_map, option_and_then, is_some, ◌&&◌, ◌||◌, if◌then◌else◌}
use Rattle.std.specs.List.{list_any, list_all}
use Rattle.std.proofs.lemmas.Bool.{and_parts}

-- ---- tests

-- both hold
pub both : (a b : Bool) → a ≡ true → b ≡ true → (a && b) ≡ true
both a b p q = ap₂ (λ x y. x && y) p q

-- one of two holds, whichever held before
pub either : (a b c d : Bool) → (a || b) ≡ true → (a ≡ true → c ≡ true) → (b ≡ true → d ≡ true) → (c || d) ≡ true
either true b c d h f g = ap (λ x. x || d) (f refl)
either false b true d h f g = refl
either false b false d h f g = g h

module _ {X : Type 0} (p : X → Bool) where
  -- all of two lists pass
  pub all_append : (xs ys : List X) → list_all p xs ≡ true → list_all p ys ≡ true → list_all p (xs ++ ys) ≡ true
  all_append [] ys h k = k
  all_append (x ∷ xs) ys h k = let r = and_parts (p x) (list_all p xs) h in both (p x) (list_all p (xs ++ ys)) r.0 (all_append xs ys r.1 k)

  -- all that are left of those that pass do
  pub all_filter : (q : X → Bool) (xs : List X) → list_all p xs ≡ true → list_all p (filter q xs) ≡ true
  all_filter q [] h = h
  all_filter q (x ∷ xs) h = by (all_filter q xs (and_parts (p x) (list_all p xs) h).1) (and_parts (p x) (list_all p xs) h).0 (q x) refl
    where
      by : list_all p (filter q xs) ≡ true → p x ≡ true → (b : Bool) → q x ≡ b → list_all p (filter q (x ∷ xs)) ≡ true
      by ih r true e = rw e (both (p x) (list_all p (filter q xs)) r ih)
      by ih r false e = rw e ih

  -- each of those that pass does
  pub all_at : (xs : List X) (i : ℕ) (x : X) → list_all p xs ≡ true → slice_get xs i ≡ Some x → p x ≡ true
  all_at [] i x h e = cc
  all_at (y ∷ xs) zero x h e = let same : y ≡ x = cc in ap p (sym same) ∙ (and_parts (p y) (list_all p xs) h).0
  all_at (y ∷ xs) (suc i) x h e = all_at xs i x (and_parts (p y) (list_all p xs) h).1 e

  -- all pass after one was set to one that passes
  pub all_set : (xs : List X) (i : ℕ) (y : X) → list_all p xs ≡ true → p y ≡ true → list_all p (slice_set xs i y) ≡ true
  all_set [] i y h e = h
  all_set (x ∷ xs) zero y h e = both (p y) (list_all p xs) e (and_parts (p x) (list_all p xs) h).1
  all_set (x ∷ xs) (suc i) y h e = let r = and_parts (p x) (list_all p xs) h in both (p x) (list_all p (slice_set xs i y)) r.0 (all_set xs i y r.1 e)

  -- ---- filters

  -- a filter of two lists is that of each
  pub filter_append : (xs ys : List X) → filter p (xs ++ ys) ≡ filter p xs ++ filter p ys
  filter_append [] ys = refl
  filter_append (x ∷ xs) ys = by (filter_append xs ys) (p x) refl
    where
      by : filter p (xs ++ ys) ≡ filter p xs ++ filter p ys → (b : Bool) → p x ≡ b → filter p ((x ∷ xs) ++ ys) ≡ filter p (x ∷ xs) ++ filter p ys
      by ih true e = rw e (ap (λ zs. x ∷ zs) ih)
      by ih false e = rw e ih

  -- a filter twice is that once
  pub filter_again : (xs : List X) → filter p (filter p xs) ≡ filter p xs
  filter_again [] = refl
  filter_again (x ∷ xs) = by (filter_again xs) (p x) refl
    where
      by : filter p (filter p xs) ≡ filter p xs → (b : Bool) → p x ≡ b → filter p (filter p (x ∷ xs)) ≡ filter p (x ∷ xs)
      by ih true e = rw (e, e) (ap (λ zs. x ∷ zs) ih)
      by ih false e = rw e ih

  -- all that are left pass
  pub all_passing : (xs : List X) → list_all p (filter p xs) ≡ true
  all_passing [] = refl
  all_passing (x ∷ xs) = by (all_passing xs) (p x) refl
    where
      by : list_all p (filter p xs) ≡ true → (b : Bool) → p x ≡ b → list_all p (filter p (x ∷ xs)) ≡ true
      by ih true e = rw e (both (p x) (list_all p (filter p xs)) e ih)
      by ih false e = rw e ih

  -- where all pass, all are left
  pub filter_all : (xs : List X) → list_all p xs ≡ true → filter p xs ≡ xs
  filter_all [] h = refl
  filter_all (x ∷ xs) h = let r = and_parts (p x) (list_all p xs) h in ap₂ (λ q ys. if q then x ∷ ys else ys) r.0 (filter_all xs r.1)

  -- all but the first pass
  pub all_drop : (xs : List X) → list_all p xs ≡ true → list_all p (drop 1 xs) ≡ true
  all_drop [] h = h
  all_drop (x ∷ xs) h = (and_parts (p x) (list_all p xs) h).1

  -- what passes a later test passed the earlier one
  pub filter_within : (r q : X → Bool) → ((x : X) → r x ≡ true → q x ≡ true → p x ≡ true) → (xs : List X) → list_all r xs ≡ true → filter q (filter p xs) ≡ filter q xs
  filter_within r q f [] h = refl
  filter_within r q f (x ∷ xs) h = by (filter_within r q f xs (and_parts (r x) (list_all r xs) h).1) (f x (and_parts (r x) (list_all r xs) h).0) (p x) refl (q x) refl
    where
      by : filter q (filter p xs) ≡ filter q xs → (q x ≡ true → p x ≡ true) → (a : Bool) → p x ≡ a → (b : Bool) → q x ≡ b → filter q (filter p (x ∷ xs)) ≡ filter q (x ∷ xs)
      by ih g true e true k = rw (e, k) (ap (λ zs. x ∷ zs) ih)
      by ih g true e false k = rw (e, k) ih
      by ih g false e true k = let no : p x ≡ true = g k in cc
      by ih g false e false k = rw (e, k) ih

  -- the first that passes
  pub find_is : (xs : List X) → find p xs ≡ slice_get (filter p xs) 0
  find_is [] = refl
  find_is (x ∷ xs) = by (find_is xs) (p x) refl
    where
      by : find p xs ≡ slice_get (filter p xs) 0 → (b : Bool) → p x ≡ b → find p (x ∷ xs) ≡ slice_get (filter p (x ∷ xs)) 0
      by ih true q = rw q refl
      by ih false q = rw q ih

  -- the first of those that are left is one of them
  pub filtered_at : (xs : List X) (x : X) → slice_get (filter p xs) 0 ≡ Some x → (i : ℕ) × (slice_get xs i ≡ Some x) × (p x ≡ true)
  filtered_at [] x h = cc
  filtered_at (y ∷ xs) x h = by (p y) refl (filtered_at xs x)
    where
      by : (b : Bool) → p y ≡ b → (slice_get (filter p xs) 0 ≡ Some x → (i : ℕ) × (slice_get xs i ≡ Some x) × (p x ≡ true)) → (i : ℕ) × (slice_get (y ∷ xs) i ≡ Some x) × (p x ≡ true)
      by true e ih =
          let here : Some y ≡ Some x = sym (ap (λ q. slice_get (if q then y ∷ filter p xs else filter p xs) 0) e) ∙ h in
          let same : y ≡ x = cc in
          (0, here, ap p (sym same) ∙ e)
      by false e ih = let r = ih (sym (ap (λ q. slice_get (if q then y ∷ filter p xs else filter p xs) 0) e) ∙ h) in (suc r.0, r.1, r.2)

  -- the only one that passes is found
  pub find_only : (xs : List X) (i : ℕ) (x : X) → slice_get xs i ≡ Some x → p x ≡ true → ((k : ℕ) (y : X) → slice_get xs k ≡ Some y → p y ≡ true → k ≡ i) → find p xs ≡ Some x
  find_only [] i x h e only = cc
  find_only (y ∷ xs) zero x h e only = let same : y ≡ x = cc in ap (λ q. if q then Some y else find p xs) (ap p same ∙ e) ∙ ap Some same
  find_only (y ∷ xs) (suc i) x h e only = by (p y) refl (find_only xs i x h e (λ k z f g. (let r = only (suc k) z f g in omega (arith, r))))
    where
      by : (b : Bool) → p y ≡ b → find p xs ≡ Some x → find p (y ∷ xs) ≡ Some x
      by true f ih = let no : 0 ≡ suc i = only 0 y refl f in absurd (omega (arith, no))
      by false f ih = ap (λ q. if q then Some y else find p xs) f ∙ ih

-- where one of those that were changed passes, one passed
pub any_along : {X : Type 0} (g : X → X) (p q : X → Bool) → ((x : X) → p (g x) ≡ true → q x ≡ true) → (xs : List X) → list_any p (map g xs) ≡ true → list_any q xs ≡ true
any_along g p q f [] h = h
any_along g p q f (x ∷ xs) h = either (p (g x)) (list_any p (map g xs)) (q x) (list_any q xs) h (f x) (any_along g p q f xs)

-- a map of two lists is that of each
pub map_append : {X Y : Type 0} (f : X → Y) (xs ys : List X) → map f (xs ++ ys) ≡ map f xs ++ map f ys
map_append f [] ys = refl
map_append f (x ∷ xs) ys = ap (λ zs. f x ∷ zs) (map_append f xs ys)

-- ---- one place that was set

-- a map after one place was set
pub map_set : {X Y : Type 0} (f : X → Y) (xs : List X) (i : ℕ) (y : X) → map f (slice_set xs i y) ≡ slice_set (map f xs) i (f y)
map_set f [] i y = refl
map_set f (x ∷ xs) zero y = refl
map_set f (x ∷ xs) (suc i) y = ap (λ zs. f x ∷ zs) (map_set f xs i y)

-- what a map has at a place
pub get_map : {X Y : Type 0} (f : X → Y) (xs : List X) (i : ℕ) → slice_get (map f xs) i ≡ option_map f (slice_get xs i)
get_map f [] i = refl
get_map f (x ∷ xs) zero = refl
get_map f (x ∷ xs) (suc i) = get_map f xs i

-- as long as before
pub length_set : {X : Type 0} (xs : List X) (i : ℕ) (y : X) → length (slice_set xs i y) ≡ length xs
length_set [] i y = refl
length_set (x ∷ xs) zero y = refl
length_set (x ∷ xs) (suc i) y = ap suc (length_set xs i y)

-- the value there
pub at_set : {X : Type 0} (xs : List X) (i : ℕ) (v d : X) → i < length xs → slice_index_or (slice_set xs i v) i d ≡ v
at_set [] i v d h = absurd (omega (arith, h))
at_set (x ∷ xs) zero v d h = refl
at_set (x ∷ xs) (suc i) v d h = at_set xs i v d (omega (arith, h))

-- the value elsewhere
pub at_other : {X : Type 0} (xs : List X) (i k : ℕ) (v d : X) → (k ≡ i → ⊥) → slice_index_or (slice_set xs i v) k d ≡ slice_index_or xs k d
at_other [] i k v d h = refl
at_other (x ∷ xs) zero zero v d h = absurd (h refl)
at_other (x ∷ xs) zero (suc k) v d h = refl
at_other (x ∷ xs) (suc i) zero v d h = refl
at_other (x ∷ xs) (suc i) (suc k) v d h = at_other xs i k v d (λ f. h (ap suc f))

-- ---- lists of what may be there

-- what may be there at a place
abbrev pub there : {X : Type 0} → List (Option X) → ℕ → Option X
there xs i = option_and_then (λ x. x) (slice_get xs i)

-- what is there stands in the list
pub is_there : {X : Type 0} (xs : List (Option X)) (i : ℕ) (x : X) → there xs i ≡ Some x → slice_get xs i ≡ Some (Some x)
is_there [] i x h = cc
is_there (o ∷ xs) zero x h = ap Some h
is_there (o ∷ xs) (suc i) x h = is_there xs i x h

-- a change of what is there that isn't seen
pub unseen : {X Y : Type 0} (see : Option X → Y) (f : X → X) → ((x : X) → see (Some (f x)) ≡ see (Some x)) → (xs : List (Option X)) (i : ℕ) →
    map see (slice_set xs i (option_map f (there xs i))) ≡ map see xs
unseen see f h [] i = refl
unseen see f h (None ∷ xs) zero = refl
unseen see f h (Some x ∷ xs) zero = ap (λ y. y ∷ map see xs) (h x)
unseen see f h (o ∷ xs) (suc i) = ap (λ ys. see o ∷ ys) (unseen see f h xs i)

-- a change leaves what is there, there
pub still_there : {X : Type 0} (f : X → X) (xs : List (Option X)) (i k : ℕ) → is_some (there (slice_set xs i (option_map f (there xs i))) k) ≡ is_some (there xs k)
still_there f [] i k = refl
still_there f (None ∷ xs) zero zero = refl
still_there f (Some x ∷ xs) zero zero = refl
still_there f (o ∷ xs) zero (suc k) = refl
still_there f (o ∷ xs) (suc i) zero = refl
still_there f (o ∷ xs) (suc i) (suc k) = still_there f xs i k
