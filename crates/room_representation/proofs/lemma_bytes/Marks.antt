-- Marks of held numbers, after one number more or less, or many less.
use Rattle.std.proofs.Common.{◌≡◌, ℕ, zero, suc, ◌+◌, ◌<◌, ◌≤◌, Bool, true, false, not, List, [], ◌∷◌, length, take, Some, refl, sym, ◌∙◌, ap, ap₂, arith}
use Rattle.std.specs.Prelude.{nat_eq, nat_lt, ◌&&◌, ◌||◌, map, slice_get, slice_set}
use Rattle.std.specs.List.{list_all}
use Rattle.std.proofs.lemmas.Bool.{and_parts, ne_eqb, eq-eqb, lt-ltb, ltb-true}
use Rattle.std.proofs.lemmas.Bool.Decides.{nat_tests}
use Rattle.ttm_base.specs.ListWords.{count_from}
use Rattle.journal_model.specs.statements.Account.{are_distinct}
use Rattle.journal_model.specs.rules.Holds.{has_number}
use Rattle.laws.proofs.law_owners.Counts.{one, times}
use Rattle.laws.specs.law_owners.OneOwner.{AreOwned}
use Rattle.room_representation.specs.Pages.{marks}
use Rattle.room_representation.specs.lemma_bytes.GivenBack.{given, given_back, taken}

-- ---- tests of all numbers below a size

-- the marks of a test
abbrev pub marks_by : (ℕ → Bool) → ℕ → List Bool
marks_by f size = map f (count_from 1 size 0)

marks_length : {X : Type 0} (f : ℕ → X) (n start : ℕ) → length (map f (count_from 1 n start)) ≡ n
marks_length f zero start = refl
marks_length f (suc n) start = ap suc (marks_length f n (1 + start))

-- there is one for each number
pub length-marks : (held : List ℕ) (size : ℕ) → length (marks held size) ≡ size
length-marks held size = marks_length (has_number held) size 0

mark_from : (f : ℕ → Bool) (n start k : ℕ) → k < n → slice_get (map f (count_from 1 n start)) k ≡ Some (f (start + k))
mark_from f zero start k h = absurd (omega (arith, h))
mark_from f (suc n) start zero h = ap (λ m. Some (f m)) (let e : start ≡ start + 0 = omega arith in e)
mark_from f (suc n) start (suc k) h = mark_from f n (1 + start) k (omega (arith, h)) ∙ ap (λ m. Some (f m)) (let e : 1 + start + k ≡ start + suc k = omega arith in e)

-- the mark of a number
pub mark_at : (f : ℕ → Bool) (size k : ℕ) → k < size → slice_get (marks_by f size) k ≡ Some (f k)
mark_at f size k h = mark_from f size 0 k h ∙ ap (λ m. Some (f m)) (let e : 0 + k ≡ k = omega arith in e)

alike : (f g : ℕ → Bool) → ((m : ℕ) → g m ≡ f m) → (ns : List ℕ) → map g ns ≡ map f ns
alike f g h [] = refl
alike f g h (n ∷ ns) = ap₂ (λ b bs. b ∷ bs) (h n) (alike f g h ns)

above : (f g : ℕ → Bool) (k n start : ℕ) → k < start → ((m : ℕ) → (m ≡ k → ⊥) → g m ≡ f m) → map g (count_from 1 n start) ≡ map f (count_from 1 n start)
above f g k zero start l h = refl
above f g k (suc n) start l h = ap₂ (λ b bs. b ∷ bs) (h start (λ e. absurd (omega (arith, l, e)))) (above f g k n (1 + start) (omega (arith, l)) h)

set_from : (f g : ℕ → Bool) (n start k at : ℕ) → at ≡ start + k → ((m : ℕ) → (m ≡ at → ⊥) → g m ≡ f m) → map g (count_from 1 n start) ≡ slice_set (map f (count_from 1 n start)) k (g at)
set_from f g zero start k at e h = refl
set_from f g (suc n) start zero at e h =
    let here : start ≡ at = omega (arith, e) in
    ap₂ (λ b bs. b ∷ bs) (ap g here) (above f g at n (1 + start) (omega (arith, here)) h)
set_from f g (suc n) start (suc k) at e h =
    ap₂ (λ b bs. b ∷ bs) (h start (λ same. absurd (omega (arith, e, same)))) (set_from f g n (1 + start) k at (omega (arith, e)) h)

-- two tests that differ at one number alone
pub marks_set : (f g : ℕ → Bool) (size k : ℕ) → ((m : ℕ) → (m ≡ k → ⊥) → g m ≡ f m) → marks_by g size ≡ slice_set (marks_by f size) k (g k)
marks_set f g size k h = set_from f g size 0 k k (omega arith) h

-- ---- numbers that are given back one by one

without_one : (b q r : Bool) → ((b && not q) && not r) ≡ (b && not (q || r))
without_one true true r = refl
without_one true false r = refl
without_one false q r = refl

kept_so : (b : Bool) → b ≡ (b && true)
kept_so true = refl
kept_so false = refl

gone : (b q : Bool) → q ≡ true → (b && not q) ≡ false
gone true true e = refl
gone true false e = cc
gone false q e = refl

stays : (b q : Bool) → q ≡ false → (b && not q) ≡ b
stays true true e = cc
stays true false e = refl
stays false q e = refl

-- they aren't held, and all others are as before
pub marks_given_back : (f : ℕ → Bool) (size : ℕ) (ks : List ℕ) → given_back (marks_by f size) ks ≡ marks_by (λ n. f n && not (has_number ks n)) size
marks_given_back f size [] = alike (λ n. f n && true) f (λ n. kept_so (f n)) (count_from 1 size 0)
marks_given_back f size (k ∷ ks) =
    let less : ℕ → Bool = λ n. f n && not (nat_eq n k) in
    let here : less k ≡ false = gone (f k) (nat_eq k k) (eq-eqb k k refl) in
    let first : marks_by less size ≡ given (marks_by f size) k =
    marks_set f less size k (λ m ne. stays (f m) (nat_eq m k) (ne_eqb m k ne)) ∙ ap (slice_set (marks_by f size) k) here in
    ap (λ pool. given_back pool ks) (sym first)
    ∙ marks_given_back less size ks
    ∙ alike (λ n. f n && not (has_number (k ∷ ks) n)) (λ n. less n && not (has_number ks n)) (λ n. without_one (f n) (nat_eq n k) (has_number ks n)) (count_from 1 size 0)

-- ---- by how often numbers are held

some_more : (q : Bool) (r : Bool) (t : ℕ) → r ≡ nat_lt 0 t → (q || r) ≡ nat_lt 0 (one q + t)
some_more true r t h = sym (lt-ltb 0 (1 + t) (omega arith))
some_more false r t h = h ∙ ap (nat_lt 0) (let e : t ≡ 0 + t = omega arith in e)

-- a number is held where the list has it more than no times
pub counted : (ns : List ℕ) (n : ℕ) → has_number ns n ≡ nat_lt 0 (times n ns)
counted [] n = refl
counted (m ∷ ns) n = some_more (nat_eq n m) (has_number ns n) (times n ns) (counted ns n)

-- a number that stands in the list once or more is held
pub has_some : (ns : List ℕ) (n : ℕ) → 1 ≤ times n ns → has_number ns n ≡ true
has_some ns n h = counted ns n ∙ lt-ltb 0 (times n ns) (omega (arith, h))

-- one that doesn't isn't
pub has_none : (ns : List ℕ) (n : ℕ) → times n ns ≡ 0 → has_number ns n ≡ false
has_none ns n h = counted ns n ∙ ap (nat_lt 0) h

-- a number that is held stands in the list
pub some_times : (ns : List ℕ) (n : ℕ) → has_number ns n ≡ true → 1 ≤ times n ns
some_times ns n h = let l = ltb-true 0 (times n ns) (sym (counted ns n) ∙ h) in omega (arith, l)

distinct_once : (ns : List ℕ) → are_distinct ns ≡ true → (n : ℕ) → times n ns ≤ 1
distinct_once [] h n = omega arith
distinct_once (m ∷ ns) h n =
    let parts = and_parts (not (has_number ns m)) (are_distinct ns) h in
    by (nat_eq n m) refl (distinct_once ns parts.1 n) parts.0
  where
    by : (q : Bool) → nat_eq n m ≡ q → times n ns ≤ 1 → not (has_number ns m) ≡ true → one q + times n ns ≤ 1
    by false e l none_left = omega (arith, l)
    by true e l none_left = here (has_number ns m) refl none_left
      where
        same : n ≡ m
        same = grind (arith, nat_tests)

        here : (r : Bool) → has_number ns m ≡ r → not r ≡ true → 1 + times n ns ≤ 1
        here true g none_left = cc
        here false g none_left =
            let none : nat_lt 0 (times m ns) ≡ false = sym (counted ns m) ∙ g in
            let few : times m ns ≡ 0 = zero_so (times m ns) none in
            let move = ap (λ k. times k ns) same in
            omega (arith, few, move)
          where
            zero_so : (t : ℕ) → nat_lt 0 t ≡ false → t ≡ 0
            zero_so t h = grind (arith, nat_tests)

-- numbers that are owned are held once at most
pub owned_once : (size : ℕ) (ns : List ℕ) → AreOwned size ns → (n : ℕ) → times n ns ≤ 1
owned_once size ns h n = distinct_once ns h.distinct n

below : (size : ℕ) (ns : List ℕ) (n : ℕ) → list_all (λ m. nat_lt m size) ns ≡ true → 1 ≤ times n ns → n < size
below size [] n h t = absurd (omega (arith, t))
below size (m ∷ ns) n h t =
    let parts = and_parts (nat_lt m size) (list_all (λ m. nat_lt m size) ns) h in
    by (nat_eq n m) refl t (below size ns n parts.1) (ltb-true m size parts.0)
  where
    by : (q : Bool) → nat_eq n m ≡ q → 1 ≤ one q + times n ns → (1 ≤ times n ns → n < size) → m < size → n < size
    by true e t rest l = let same : n ≡ m = grind (arith, nat_tests) in omega (arith, same, l)
    by false e t rest l = rest (omega (arith, t))

-- and are below the size
pub owned_below : (size : ℕ) (ns : List ℕ) → AreOwned size ns → (n : ℕ) → 1 ≤ times n ns → n < size
owned_below size ns h n t = below size ns n h.within t

-- ---- what is held now, and was held before

module _ (old new : List ℕ) (size : ℕ) where
  has_same : (n : ℕ) → times n new ≡ times n old → has_number new n ≡ has_number old n
  has_same n h = counted new n ∙ ap (nat_lt 0) h ∙ sym (counted old n)

  -- the same numbers are held
  pub marks_same : ((n : ℕ) → times n new ≡ times n old) → marks new size ≡ marks old size
  marks_same h = alike (has_number old) (has_number new) (λ n. has_same n (h n)) (count_from 1 size 0)

  apart : (n k t u : ℕ) → (n ≡ k → ⊥) → t ≡ u + one (nat_eq n k) → t ≡ u
  apart n k t u ne h = let z = ap one (ne_eqb n k ne) in omega (arith, h, z)

  itself : (k : ℕ) → one (nat_eq k k) ≡ 1
  itself k = ap one (eq-eqb k k refl)

  -- one number more is held
  pub marks_more : (k : ℕ) → ((n : ℕ) → times n new ≡ times n old + one (nat_eq n k)) → marks new size ≡ taken (marks old size) k
  marks_more k h =
      let one_more = h k in
      let it = itself k in
      let here : has_number new k ≡ true = has_some new k (omega (arith, one_more, it)) in
      marks_set (has_number old) (has_number new) size k (λ m ne. has_same m (apart m k (times m new) (times m old) ne (h m))) ∙ ap (slice_set (marks old size) k) here

  -- one number that was held once is held no more
  pub marks_less : (k : ℕ) → ((n : ℕ) → times n old ≡ times n new + one (nat_eq n k)) → times k old ≤ 1 → marks new size ≡ given (marks old size) k
  marks_less k h once =
      let one_less = h k in
      let it = itself k in
      let here : has_number new k ≡ false = has_none new k (omega (arith, one_less, it, once)) in
      marks_set (has_number old) (has_number new) size k (λ m ne. sym (has_same_back m (apart m k (times m old) (times m new) ne (h m)))) ∙ ap (slice_set (marks old size) k) here
    where
      has_same_back : (n : ℕ) → times n old ≡ times n new → has_number old n ≡ has_number new n
      has_same_back n e = counted old n ∙ ap (nat_lt 0) e ∙ sym (counted new n)

  -- numbers that were held once are held no more
  pub marks_without : (ks : List ℕ) → ((n : ℕ) → times n old ≡ times n new + times n ks) → ((n : ℕ) → times n old ≤ 1) → marks new size ≡ given_back (marks old size) ks
  marks_without ks h once =
      alike (λ n. has_number old n && not (has_number ks n)) (has_number new) (λ n. at n (times n ks) refl (h n) (once n)) (count_from 1 size 0)
      ∙ sym (marks_given_back (has_number old) size ks)
    where
      at : (n t : ℕ) → times n ks ≡ t → times n old ≡ times n new + t → times n old ≤ 1 → has_number new n ≡ (has_number old n && not (has_number ks n))
      at n zero e l m =
          let none : has_number ks n ≡ false = has_none ks n e in
          has_same n (omega (arith, l)) ∙ sym (stays (has_number old n) (has_number ks n) none)
      at n (suc t) e l m =
          let some : has_number ks n ≡ true = has_some ks n (omega (arith, e)) in
          has_none new n (omega (arith, l, m)) ∙ sym (gone (has_number old n) (has_number ks n) some)

-- ---- one step of a loop that gives numbers back

times_front : (ks : List ℕ) (i k : ℕ) → slice_get ks i ≡ Some k → times k (take i ks) + 1 ≤ times k ks
times_front [] i k e = cc
times_front (m ∷ ks) zero k e = let same : m ≡ k = cc in let it = ap one (eq-eqb k m (sym same)) in omega (arith, it)
times_front (m ∷ ks) (suc i) k e = let rest = times_front ks i k e in omega (arith, rest)

-- after some that were given back, one that is held besides is held still
pub held_behind : (old front : List ℕ) (size k : ℕ) → AreOwned size old → times k front + 1 ≤ times k old → slice_get (given_back (marks old size) front) k ≡ Some true
held_behind old front size k owned h =
    let once = owned_once size old owned k in
    let f : ℕ → Bool = λ n. has_number old n && not (has_number front n) in
    let inside : k < size = owned_below size old owned k (omega (arith, h)) in
    let was : has_number old k ≡ true = has_some old k (omega (arith, h)) in
    let left : has_number front k ≡ false = has_none front k (omega (arith, h, once)) in
    ap (λ pool. slice_get pool k) (marks_given_back (has_number old) size front) ∙ mark_at f size k inside
    ∙ ap (λ b. Some b) (stays (has_number old k) (has_number front k) left ∙ was)

-- a number that is to be given back is held still
pub held_still : (old ks : List ℕ) (size i k : ℕ) → AreOwned size old → ((n : ℕ) → times n ks ≤ times n old) → slice_get ks i ≡ Some k
    → slice_get (given_back (marks old size) (take i ks)) k ≡ Some true
held_still old ks size i k owned h e =
    let front = times_front ks i k e in
    let more = h k in
    held_behind old (take i ks) size k owned (omega (arith, front, more))

-- and then one number more was given back
pub given_step : (pool : List Bool) (ks : List ℕ) (i k : ℕ) → slice_get ks i ≡ Some k → given (given_back pool (take i ks)) k ≡ given_back pool (take (suc i) ks)
given_step pool [] i k e = cc
given_step pool (m ∷ ks) zero k e = let same : m ≡ k = cc in ap (λ n. given pool n) (sym same)
given_step pool (m ∷ ks) (suc i) k e = given_step (given pool m) ks i k e
