-- What passes a test has a number: how many passed before it.
use Rattle.std.proofs.Common.{◌≡◌, ℕ, ◌+◌, ◌<◌, zero, suc, Bool, true, false, List, [], ◌∷◌, Some, refl, ◌∙◌, ap, arith, ◌⊎◌, inl, inr}
use Rattle.std.specs.Prelude.{cond, count_by, slice_get, take}
use Rattle.std.proofs.lemmas.Bool.{cases_Bool, cond-true, cond-false}
use Rattle.std.proofs.lemmas.List.Sums.{sum_by-cons}

module _ {X : Type 0} (p : X → Bool) where
  count_cons : (x : X) (xs : List X) → count_by p (x ∷ xs) ≡ cond (p x) 1 0 + count_by p xs
  count_cons x xs = sum_by-cons (λ y. cond (p y) 1 0) x xs

  -- the place of the one with a number
  pub record PassesAt (xs : List X) (n i : ℕ) : Type 0 where
    pub element : X
    pub here : slice_get xs i ≡ Some element
    pub passes : p element ≡ true
    pub number : count_by p (take i xs) ≡ n

  -- a number higher, after one that passes
  one_further : (x : X) (xs : List X) (n i : ℕ) → p x ≡ true → PassesAt xs n i → PassesAt (x ∷ xs) (suc n) (suc i)
  one_further x xs n i e r =
      let one : cond (p x) 1 0 ≡ 1 = cond-true {A = ℕ} (p x) 1 0 e in
      let sum = count_cons x (take i xs) in
      let k = r.number in
      record { element = r.element; here = r.here; passes = r.passes; number = omega (arith, one, sum, k) }

  -- as high, after one that doesn't
  as_far : (x : X) (xs : List X) (n i : ℕ) → p x ≡ false → PassesAt xs n i → PassesAt (x ∷ xs) n (suc i)
  as_far x xs n i e r =
      let none : cond (p x) 1 0 ≡ 0 = cond-false {A = ℕ} (p x) 1 0 e in
      let sum = count_cons x (take i xs) in
      let k = r.number in
      record { element = r.element; here = r.here; passes = r.passes; number = omega (arith, none, sum, k) }

  pub find_numbered : (xs : List X) (n : ℕ) → n < count_by p xs → (i : ℕ) × PassesAt xs n i
  find_numbered [] n h = absurd (omega (arith, h))
  find_numbered (x ∷ xs) n h = by n (cases_Bool (p x)) h (λ m l. find_numbered xs m l)
    where
      by : (n : ℕ) → (p x ≡ true) ⊎ (p x ≡ false) → n < count_by p (x ∷ xs) → ((m : ℕ) → m < count_by p xs → (i : ℕ) × PassesAt xs m i) → (i : ℕ) × PassesAt (x ∷ xs) n i
      by zero (inl e) l rest = (zero, record { element = x; here = refl; passes = e; number = refl })
      by (suc n) (inl e) l rest =
          let one : cond (p x) 1 0 ≡ 1 = cond-true {A = ℕ} (p x) 1 0 e in
          let sum = count_cons x xs in
          let r = rest n (omega (arith, l, one, sum)) in
          (suc r.0, one_further x xs n r.0 e r.1)
      by n (inr e) l rest =
          let none : cond (p x) 1 0 ≡ 0 = cond-false {A = ℕ} (p x) 1 0 e in
          let sum = count_cons x xs in
          let r = rest n (omega (arith, l, none, sum)) in
          (suc r.0, as_far x xs n r.0 e r.1)

  -- nothing after the first one that passes has number 0
  not_first : (x : X) (xs : List X) (n j : ℕ) → PassesAt (x ∷ xs) n zero → PassesAt (x ∷ xs) n (suc j) → ⊥
  not_first x xs n j a b =
      let it : x ≡ a.element = one_some x a.element a.here in
      let one : cond (p x) 1 0 ≡ 1 = cond-true {A = ℕ} (p x) 1 0 (ap p it ∙ a.passes) in
      let sum = count_cons x (take j xs) in
      let l : 0 ≡ n = a.number in
      let r : count_by p (x ∷ take j xs) ≡ n = b.number in
      omega (arith, one, sum, l, r)
    where
      one_some : (y z : X) → Some y ≡ Some z → y ≡ z
      one_some y z e = cc

  pub one_numbered : (xs : List X) (n i j : ℕ) → PassesAt xs n i → PassesAt xs n j → i ≡ j
  one_numbered [] n i j a b = let h = a.here in cc
  one_numbered (x ∷ xs) n zero zero a b = refl
  one_numbered (x ∷ xs) n zero (suc j) a b = absurd (not_first x xs n j a b)
  one_numbered (x ∷ xs) n (suc i) zero a b = absurd (not_first x xs n i b a)
  one_numbered (x ∷ xs) n (suc i) (suc j) a b =
      let left = count_cons x (take i xs) in
      let right = count_cons x (take j xs) in
      let l : count_by p (x ∷ take i xs) ≡ n = a.number in
      let r : count_by p (x ∷ take j xs) ≡ n = b.number in
      ap suc
      (one_numbered xs (count_by p (take i xs)) i j (record { element = a.element; here = a.here; passes = a.passes; number = refl })
      (record { element = b.element; here = b.here; passes = b.passes; number = omega (arith, left, right, l, r) }))
