-- How often a number stands in lists, and sums over lists.
use Rattle.std.proofs.Common.{◌≡◌, ℕ, ◌+◌, ◌-◌, ◌≤◌, zero, suc, Bool, true, false, List, [], ◌∷◌, ◌++◌, length, Option, Some, None, refl, ◌∙◌, ap, arith}
use Rattle.std.specs.Prelude.{slice_get, slice_set, map, flat_map, filter, filter_map, nat_eq, nat_lt, nat_le, ◌&&◌, ◌||◌, option_and_then, sum_by, if◌then◌else◌}
use Rattle.std.specs.List.{list_any, enumerate_from}
use Rattle.std.proofs.lemmas.Bool.Decides.{nat_tests}
use Rattle.std.proofs.lemmas.List.Sums.{sum_by-cons}
use Rattle.ttm_base.specs.declared.Span.{Span}
use Rattle.ttm_base.specs.ListWords.{count_from}
use Rattle.ttm_base.specs.Reach.{length_of}
use Rattle.ttm_base.specs.Holes.{has_page}
use Rattle.journal_model.specs.declared.state.Buffer.{Buffer}
use Rattle.journal_model.specs.rules.Places.{pages_of, pages_of_span}
use Rattle.journal_model.specs.rules.Holds.{live_entry}

-- one where the test passes
abbrev pub one : Bool → ℕ
one true = 1
one false = 0

-- how often a number stands in a list
abbrev pub times : ℕ → List ℕ → ℕ
times n [] = 0
times n (m ∷ ms) = one (nat_eq n m) + times n ms

-- a sum over a list
abbrev pub summed : {X : Type 0} → (X → ℕ) → List X → ℕ
summed f [] = 0
summed f (x ∷ xs) = f x + summed f xs

pub times-append : (n : ℕ) (xs ys : List ℕ) → times n (xs ++ ys) ≡ times n xs + times n ys
times-append n [] ys = omega arith
times-append n (x ∷ xs) ys = let rest = times-append n xs ys in omega (arith, rest)

pub times-flat_map : {X : Type 0} (n : ℕ) (f : X → List ℕ) (xs : List X) → times n (flat_map f xs) ≡ summed (λ x. times n (f x)) xs
times-flat_map n f [] = refl
times-flat_map n f (x ∷ xs) = let both = times-append n (f x) (flat_map f xs) in let rest = times-flat_map n f xs in omega (arith, both, rest)

pub summed-append : {X : Type 0} (f : X → ℕ) (xs ys : List X) → summed f (xs ++ ys) ≡ summed f xs + summed f ys
summed-append f [] ys = omega arith
summed-append f (x ∷ xs) ys = let rest = summed-append f xs ys in omega (arith, rest)

pub summed-flat_map : {X Y : Type 0} (f : Y → ℕ) (g : X → List Y) (xs : List X) → summed f (flat_map g xs) ≡ summed (λ x. summed f (g x)) xs
summed-flat_map f g [] = refl
summed-flat_map f g (x ∷ xs) = let both = summed-append f (g x) (flat_map g xs) in let rest = summed-flat_map f g xs in omega (arith, both, rest)

pub summed-map : {X Y : Type 0} (f : Y → ℕ) (g : X → Y) (xs : List X) → summed f (map g xs) ≡ summed (λ x. f (g x)) xs
summed-map f g [] = refl
summed-map f g (x ∷ xs) = ap (λ n. f (g x) + n) (summed-map f g xs)

pub summed-add : {X : Type 0} (f g : X → ℕ) (xs : List X) → summed (λ x. f x + g x) xs ≡ summed f xs + summed g xs
summed-add f g [] = refl
summed-add f g (x ∷ xs) = let rest = summed-add f g xs in omega (arith, rest)

pub summed-sum_by : {X : Type 0} (f : X → ℕ) (xs : List X) → sum_by f xs ≡ summed f xs
summed-sum_by f [] = refl
summed-sum_by f (x ∷ xs) = let first = sum_by-cons f x xs in let rest = summed-sum_by f xs in omega (arith, first, rest)

pub length-append : {X : Type 0} (xs ys : List X) → length (xs ++ ys) ≡ length xs + length ys
length-append [] ys = omega arith
length-append (x ∷ xs) ys = let rest = length-append xs ys in omega (arith, rest)

pub length-flat_map : {X Y : Type 0} (f : X → List Y) (xs : List X) → length (flat_map f xs) ≡ summed (λ x. length (f x)) xs
length-flat_map f [] = refl
length-flat_map f (x ∷ xs) = let both = length-append (f x) (flat_map f xs) in let rest = length-flat_map f xs in omega (arith, both, rest)

-- a filter keeps no more
pub summed-filter : {X : Type 0} (f : X → ℕ) (p : X → Bool) (xs : List X) → summed f (filter p xs) ≤ summed f xs
summed-filter f p [] = omega arith
summed-filter f p (x ∷ xs) = by (p x) (summed-filter f p xs)
  where
    by : (q : Bool) → summed f (filter p xs) ≤ summed f xs → summed f (if q then x ∷ filter p xs else filter p xs) ≤ summed f (x ∷ xs)
    by true rest = omega (arith, rest)
    by false rest = omega (arith, rest)

-- ---- buffers, some of which are dead

-- nothing of a dead buffer
abbrev pub weigh : {X : Type 0} → (X → ℕ) → Option X → ℕ
weigh f None = 0
weigh f (Some x) = f x

pub summed-live : (f : Buffer → ℕ) (k : ℕ) (xs : List (Option Buffer)) → summed (λ e. f e.1) (filter_map live_entry (enumerate_from k xs)) ≡ summed (weigh f) xs
summed-live f k [] = refl
summed-live f k (None ∷ xs) = let rest = summed-live f (k + 1) xs in omega (arith, rest)
summed-live f k (Some x ∷ xs) = ap (λ n. f x + n) (summed-live f (k + 1) xs)

-- one buffer set
pub summed-set : {X : Type 0} (f : X → ℕ) (xs : List (Option X)) (i : ℕ) (o : Option X)
    → summed (weigh f) (slice_set xs i o) + weigh f (option_and_then (λ x. x) (slice_get xs i)) ≤ summed (weigh f) xs + weigh f o
summed-set f [] i o = omega arith
summed-set f (x ∷ xs) zero o = omega arith
summed-set f (x ∷ xs) (suc i) o = let rest = summed-set f xs i o in omega (arith, rest)

-- ---- spans

-- how often a page stands in spans
abbrev pub stands : ℕ → List Span → ℕ
stands n spans = times n (pages_of spans)

times-count_from : (n len start : ℕ) → times n (count_from 1 len start) ≡ one (nat_le start n && nat_lt n (start + len))
times-count_from n zero start = grind (arith, nat_tests)
times-count_from n (suc len) start = let rest = times-count_from n len (1 + start) in by n len start (times n (count_from 1 len (1 + start))) rest
  where
    by : (n len start t : ℕ) → t ≡ one (nat_le (1 + start) n && nat_lt n ((1 + start) + len)) → one (nat_eq n start) + t ≡ one (nat_le start n && nat_lt n (start + suc len))
    by n len start t h = grind (arith, nat_tests)

pub stands-one : (n : ℕ) (s : Span) → times n (pages_of_span s) ≡ one (has_page n s)
stands-one n s = times-count_from n (length_of s) s.start ∙ by n s.start s.end
  where
    by : (n a b : ℕ) → one (nat_le a n && nat_lt n (a + (b - a))) ≡ one (nat_le a n && nat_lt n b)
    by n a b = grind (arith, nat_tests)

pub stands-cons : (n : ℕ) (s : Span) (ss : List Span) → stands n (s ∷ ss) ≡ one (has_page n s) + stands n ss
stands-cons n s ss = let both = times-append n (pages_of_span s) (pages_of ss) in let first = stands-one n s in omega (arith, both, first)

pub stands-append : (n : ℕ) (xs ys : List Span) → stands n (xs ++ ys) ≡ stands n xs + stands n ys
stands-append n [] ys = omega arith
stands-append n (x ∷ xs) ys =
    let rest = stands-append n xs ys in
    let left = times-append n (pages_of_span x) (pages_of (xs ++ ys)) in
    let right = times-append n (pages_of_span x) (pages_of xs) in
    omega (arith, rest, left, right)

pub stands-flat_map : {X : Type 0} (n : ℕ) (f : X → List Span) (xs : List X) → stands n (flat_map f xs) ≡ summed (λ x. stands n (f x)) xs
stands-flat_map n f [] = refl
stands-flat_map n f (x ∷ xs) = let both = stands-append n (f x) (flat_map f xs) in let rest = stands-flat_map n f xs in omega (arith, both, rest)

-- a page that no span has
pub stands-none : (n : ℕ) (ss : List Span) → list_any (has_page n) ss ≡ false → stands n ss ≡ 0
stands-none n [] h = refl
stands-none n (s ∷ ss) h =
    let first = stands-cons n s ss in
    let parts = either (has_page n s) (list_any (has_page n) ss) h in
    let here : one (has_page n s) ≡ 0 = ap one parts.0 in
    let rest = stands-none n ss parts.1 in
    omega (arith, first, here, rest)
  where
    either : (a b : Bool) → (a || b) ≡ false → (a ≡ false) × (b ≡ false)
    either false false h = (refl, refl)
    either false true h = cc
    either true b h = cc
