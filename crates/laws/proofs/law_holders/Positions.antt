-- A number that stands at two positions of a list stands there twice.
use Rattle.std.proofs.Common.{◌≡◌, ℕ, ◌+◌, ◌≤◌, zero, suc, Bool, true, false, List, [], ◌∷◌, Option, Some, refl, subst, ◌∙◌, ap, arith}
use Rattle.std.specs.Prelude.{slice_get, nat_eq, filter_map, option_and_then, ◌||◌}
use Rattle.std.proofs.lemmas.Bool.Decides.{nat_tests}
use Rattle.ttm_base.specs.declared.Loc.{Loc}
use Rattle.journal_model.specs.rules.Holds.{has_number}
use Rattle.laws.proofs.law_owners.Counts.{one, times, summed, weigh}
use Rattle.laws.proofs.law_owners.Keeps.{in_loc, times-cons}

pub one_self : (n m : ℕ) → m ≡ n → one (nat_eq n m) ≡ 1
one_self n m e = grind (arith, nat_tests)

pub times_at : (n : ℕ) (ns : List ℕ) (k : ℕ) → slice_get ns k ≡ Some n → 1 ≤ times n ns
times_at n [] k e = cc
times_at n (m ∷ ms) zero e = let same : m ≡ n = cc in let self = one_self n m same in omega (arith, self)
times_at n (m ∷ ms) (suc k) e = let rest = times_at n ms k e in omega (arith, rest)

pub same_at : (n : ℕ) (ns : List ℕ) (j k : ℕ) → times n ns ≤ 1 → slice_get ns j ≡ Some n → slice_get ns k ≡ Some n → j ≡ k
same_at n [] j k few e f = cc
same_at n (m ∷ ms) zero zero few e f = refl
same_at n (m ∷ ms) zero (suc k) few e f = let same : m ≡ n = cc in let self = one_self n m same in let rest = times_at n ms k f in absurd (omega (arith, few, self, rest))
same_at n (m ∷ ms) (suc j) zero few e f = let same : m ≡ n = cc in let self = one_self n m same in let rest = times_at n ms j e in absurd (omega (arith, few, self, rest))
same_at n (m ∷ ms) (suc j) (suc k) few e f = ap suc (same_at n ms j k (omega (arith, few)) e f)

-- the same of tables
pub loc_weighs : (f : Loc → Option ℕ) (n : ℕ) (l : Loc) → f l ≡ Some n → in_loc f n l ≡ 1
loc_weighs f n l e = ap (weigh (λ m. one (nat_eq n m))) e ∙ one_self n n refl

pub times_in_table : (f : Loc → Option ℕ) (n : ℕ) (table : List Loc) (k : ℕ) (l : Loc) → slice_get table k ≡ Some l → f l ≡ Some n → 1 ≤ times n (filter_map f table)
times_in_table f n [] k l e h = cc
times_in_table f n (m ∷ table) zero l e h =
    let same : l ≡ m = cc in
    let here = loc_weighs f n m (subst (λ q. f q ≡ Some n) same h) in
    let both = times-cons f n m table in
    omega (arith, here, both)
times_in_table f n (m ∷ table) (suc k) l e h = let rest = times_in_table f n table k l e h in let both = times-cons f n m table in omega (arith, rest, both)

pub same_in_table : (f : Loc → Option ℕ) (n : ℕ) (table : List Loc) (j k : ℕ) (a b : Loc) → times n (filter_map f table) ≤ 1 →
    slice_get table j ≡ Some a → f a ≡ Some n → slice_get table k ≡ Some b → f b ≡ Some n → j ≡ k
same_in_table f n [] j k a b few e h g i = cc
same_in_table f n (m ∷ table) zero zero a b few e h g i = refl
same_in_table f n (m ∷ table) zero (suc k) a b few e h g i =
    let same : a ≡ m = cc in
    let here = loc_weighs f n m (subst (λ q. f q ≡ Some n) same h) in
    let both = times-cons f n m table in
    let rest = times_in_table f n table k b g i in
    absurd (omega (arith, few, here, both, rest))
same_in_table f n (m ∷ table) (suc j) zero a b few e h g i =
    let same : b ≡ m = cc in
    let here = loc_weighs f n m (subst (λ q. f q ≡ Some n) same i) in
    let both = times-cons f n m table in
    let rest = times_in_table f n table j a e h in
    absurd (omega (arith, few, here, both, rest))
same_in_table f n (m ∷ table) (suc j) (suc k) a b few e h g i = let both = times-cons f n m table in ap suc (same_in_table f n table j k a b (omega (arith, few, both)) e h g i)

pub has_times : (n : ℕ) (ns : List ℕ) → has_number ns n ≡ true → 1 ≤ times n ns
has_times n [] h = cc
has_times n (m ∷ ms) h = by (nat_eq n m) (has_number ms n) (has_times n ms) h
  where
    by : (a b : Bool) → (b ≡ true → 1 ≤ times n ms) → (a || b) ≡ true → 1 ≤ one a + times n ms
    by true b rest h = omega arith
    by false b rest h = let r = rest h in omega (arith, r)

-- ---- parts of sums

pub in_sum : {X : Type 0} (f : X → ℕ) (xs : List (Option X)) (i : ℕ) → weigh f (option_and_then (λ x. x) (slice_get xs i)) ≤ summed (weigh f) xs
in_sum f [] i = omega arith
in_sum f (x ∷ xs) zero = omega arith
in_sum f (x ∷ xs) (suc i) = let rest = in_sum f xs i in omega (arith, rest)

pub two_in_sum : {X : Type 0} (f : X → ℕ) (xs : List (Option X)) (i j : ℕ) → (i ≡ j → ⊥) →
    weigh f (option_and_then (λ x. x) (slice_get xs i)) + weigh f (option_and_then (λ x. x) (slice_get xs j)) ≤ summed (weigh f) xs
two_in_sum f [] i j ne = omega arith
two_in_sum f (x ∷ xs) zero zero ne = absurd (ne refl)
two_in_sum f (x ∷ xs) zero (suc j) ne = let rest = in_sum f xs j in omega (arith, rest)
two_in_sum f (x ∷ xs) (suc i) zero ne = let rest = in_sum f xs i in omega (arith, rest)
two_in_sum f (x ∷ xs) (suc i) (suc j) ne = let rest = two_in_sum f xs i j (λ e. ne (ap suc e)) in omega (arith, rest)

pub in_list : {X : Type 0} (f : X → ℕ) (xs : List X) (i : ℕ) (x : X) → slice_get xs i ≡ Some x → f x ≤ summed f xs
in_list f [] i x e = cc
in_list f (y ∷ ys) zero x e = let same : y ≡ x = cc in subst (λ z. f z ≤ f y + summed f ys) same (omega arith)
in_list f (y ∷ ys) (suc i) x e = let rest = in_list f ys i x e in omega (arith, rest)

pub two_in_list : {X : Type 0} (f : X → ℕ) (xs : List X) (i j : ℕ) (x y : X) → (i ≡ j → ⊥) → slice_get xs i ≡ Some x → slice_get xs j ≡ Some y → f x + f y ≤ summed f xs
two_in_list f [] i j x y ne e g = cc
two_in_list f (z ∷ zs) zero zero x y ne e g = absurd (ne refl)
two_in_list f (z ∷ zs) zero (suc j) x y ne e g =
    let same : z ≡ x = cc in let rest = in_list f zs j y g in subst (λ q. f q + f y ≤ f z + summed f zs) same (omega (arith, rest))
two_in_list f (z ∷ zs) (suc i) zero x y ne e g =
    let same : z ≡ y = cc in let rest = in_list f zs i x e in subst (λ q. f x + f q ≤ f z + summed f zs) same (omega (arith, rest))
two_in_list f (z ∷ zs) (suc i) (suc j) x y ne e g = let rest = two_in_list f zs i j x y (λ q. ne (ap suc q)) e g in omega (arith, rest)
