-- A range that is chosen has free pages alone.
use Rattle.std.proofs.Common.{◌≡◌, ℕ, ◌+◌, ◌<◌, ◌≤◌, zero, suc, Bool, true, false, List, [], ◌∷◌, Option, Some, None, refl, subst, arith, ⊎_elim}
use Rattle.std.specs.Prelude.{max, min, ◌==◌, ◌&&◌, nat_lt, nat_le, filter_map, option_map, slice_get, if◌then◌else◌}
use Rattle.std.specs.List.{cons_option}
use Rattle.std.proofs.lemmas.Bool.{eqb-true, cases_lt}
use Rattle.std.proofs.lemmas.Bool.Decides.{nat_tests}
use Rattle.ttm_base.specs.declared.Span.{Span}
use Rattle.ttm_base.specs.declared.Mode.{Mode}
use Rattle.ttm_base.specs.declared.Mode.TheVariants.{Best, Low, High}
use Rattle.ttm_base.specs.ListWords.{first_least, least_by, last_or, last_of}
use Rattle.ttm_base.specs.Reach.{common, length_of}
use Rattle.ttm_base.specs.Holes.{holes, with_page}
use Rattle.ttm_base.specs.RangeChoice.{Fit, fit_in, best_fit, fitting_hole, range_choice, start_to_test}

-- each element
abbrev pub Each : {X : Type 0} → (X → Type 0) → List X → Type 0
Each P [] = Unit {0}
Each P (x ∷ xs) = P x × Each P xs

-- ---- which element is picked

pub least_is : {X : Type 0} (P : X → Type 0) (key : X → ℕ) (xs : List X) (x : X) → Each P xs → least_by key xs ≡ Some x → P x
least_is P key [] x h e = cc
least_is P key (y ∷ ys) x h e = by (least_by key ys) (λ z f. least_is P key ys z h.1 f) e
  where
    than : (q : Bool) (z : _) → P z → Some (if q then z else y) ≡ Some x → P x
    than true z p f = let same : z ≡ x = cc in subst P same p
    than false z p f = let same : y ≡ x = cc in subst P same h.0

    by : (o : Option _) → ((z : _) → o ≡ Some z → P z) → Some (first_least key y o) ≡ Some x → P x
    by None rest f = let same : y ≡ x = cc in subst P same h.0
    by (Some z) rest f = than (nat_lt (key z) (key y)) z (rest z refl) f

pub first_is : {X : Type 0} (P : X → Type 0) (xs : List X) (i : ℕ) (x : X) → Each P xs → slice_get xs i ≡ Some x → P x
first_is P [] i x h e = cc
first_is P (y ∷ ys) zero x h e = let same : y ≡ x = cc in subst P same h.0
first_is P (y ∷ ys) (suc i) x h e = first_is P ys i x h.1 e

last_or_is : {X : Type 0} (P : X → Type 0) (y : X) (xs : List X) → P y → Each P xs → P (last_or y xs)
last_or_is P y [] p h = p
last_or_is P y (x ∷ xs) p h = last_or_is P x xs h.0 h.1

pub last_is : {X : Type 0} (P : X → Type 0) (xs : List X) (x : X) → Each P xs → last_of xs ≡ Some x → P x
last_is P [] x h e = cc
last_is P (y ∷ ys) x h e = let same : last_or y ys ≡ x = cc in subst P same (last_or_is P y ys h.0 h.1)

-- what a map that may skip gives
pub each_given : {X Y : Type 0} (P : X → Type 0) (Q : Y → Type 0) (f : X → Option Y) → ((x : X) (y : Y) → P x → f x ≡ Some y → Q y) → (xs : List X) → Each P xs → Each Q (filter_map f xs)
each_given P Q f k [] h = tt
each_given P Q f k (x ∷ xs) h = by (f x) (λ y e. k x y h.0 e) (each_given P Q f k xs h.1)
  where
    by : (o : Option _) → ((y : _) → o ≡ Some y → Q y) → Each Q (filter_map f xs) → Each Q (cons_option o (filter_map f xs))
    by None k rest = rest
    by (Some y) k rest = (k y refl, rest)

-- ---- holes

-- the pages of a span are free, and below the size
abbrev pub IsClear : (ℕ → Bool) → ℕ → Span → Type 0
IsClear f size s = (p : ℕ) → s.start ≤ p → p < s.end → (f p ≡ true) × (p < size)

higher : (f : ℕ → Bool) (n : ℕ) (s : Span) → IsClear f n s → IsClear f (suc n) s
higher f n s h p a b = let k = h p a b in (k.0, let l = k.1 in omega (arith, l))

all_higher : (f : ℕ → Bool) (n : ℕ) (ss : List Span) → Each (IsClear f n) ss → Each (IsClear f (suc n)) ss
all_higher f n [] h = tt
all_higher f n (s ∷ ss) h = (higher f n s h.0, all_higher f n ss h.1)

one_page : (f : ℕ → Bool) (n : ℕ) → f n ≡ true → IsClear f (suc n) (record { start = n; end = n + 1 })
one_page f n h p a b = let same : n ≡ p = omega (arith, a, b) in (subst (λ q. f q ≡ true) same h, omega (arith, b))

one_wider : (f : ℕ → Bool) (n : ℕ) (s : Span) → f n ≡ true → IsClear f n s → s.end ≡ n → IsClear f (suc n) (record { start = s.start; end = n + 1 })
one_wider f n s h k e p a b =
    ⊎_elim
    (λ l. let c = k p a (omega (arith, l, e)) in (c.0, let d = c.1 in omega (arith, d)))
    (λ l. let same : n ≡ p = omega (arith, l, b) in (subst (λ q. f q ≡ true) same h, omega (arith, b)))
    (cases_lt p n)

page_more : (f : ℕ → Bool) (n : ℕ) (ss : List Span) → f n ≡ true → Each (IsClear f n) ss → Each (IsClear f (suc n)) (with_page n ss)
page_more f n [] h k = (one_page f n h, tt)
page_more f n (s ∷ []) h k = by (s.end == n) refl
  where
    by : (q : Bool) → (s.end == n) ≡ q → Each (IsClear f (suc n)) (if q then record { start = s.start; end = n + 1 } ∷ [] else s ∷ record { start = n; end = n + 1 } ∷ [])
    by true e = (one_wider f n s h k.0 (eqb-true s.end n e), tt)
    by false e = (higher f n s k.0, (one_page f n h, tt))
page_more f n (s ∷ t ∷ ss) h k = (higher f n s k.0, page_more f n (t ∷ ss) h k.1)

pub holes_are_clear : (f : ℕ → Bool) (n : ℕ) → Each (IsClear f n) (holes f n)
holes_are_clear f zero = tt
holes_are_clear f (suc n) = by (f n) refl (holes_are_clear f n)
  where
    by : (q : Bool) → f n ≡ q → Each (IsClear f n) (holes f n) → Each (IsClear f (suc n)) (if q then with_page n (holes f n) else holes f n)
    by true e k = page_more f n (holes f n) e k
    by false e k = all_higher f n (holes f n) k

-- ---- the range that is taken

-- part of a clear span
pub part_is_clear : (f : ℕ → Bool) (size : ℕ) (s t : Span) → s.start ≤ t.start → t.end ≤ s.end → IsClear f size s → IsClear f size t
part_is_clear f size s t a b h p c d = h p (omega (arith, a, c)) (omega (arith, b, d))

fit_is_inside : (pages start : ℕ) (hole range : Span) (fit : Fit) →
    (if nat_lt 0 pages && nat_le (common hole range).start start && nat_le (start + pages) (common hole range).end
    then Some (record { hole = hole; taken = record { start = start; end = start + pages } }) else None) ≡ Some fit
    → (hole.start ≤ fit.taken.start) × (fit.taken.end ≤ hole.end)
fit_is_inside pages start hole range fit e = by (nat_lt 0 pages && nat_le (max hole.start range.start) start && nat_le (start + pages) (min hole.end range.end)) refl e
  where
    tests : (pages start a b c d : ℕ) → (nat_lt 0 pages && nat_le (max a b) start && nat_le (start + pages) (min c d)) ≡ true → (a ≤ start) × (start + pages ≤ c)
    tests pages start a b c d h = (grind (arith, nat_tests), grind (arith, nat_tests))

    by : (q : Bool) → (nat_lt 0 pages && nat_le (max hole.start range.start) start && nat_le (start + pages) (min hole.end range.end)) ≡ q →
        (if q then Some (record { hole = hole; taken = record { start = start; end = start + pages } }) else None) ≡ Some fit → (hole.start ≤ fit.taken.start) × (fit.taken.end ≤ hole.end)
    by true t f =
        let k = tests pages start hole.start range.start hole.end range.end t in
        let same : (record { hole = hole; taken = record { start = start; end = start + pages } }) ≡ fit = cc in
        subst (λ g. (hole.start ≤ g.taken.start) × (g.taken.end ≤ hole.end)) same k
    by false t f = cc

fit_is_clear : (f : ℕ → Bool) (size : ℕ) (mode : Mode) (pages align : ℕ) (range hole : Span) (fit : Fit) → IsClear f size hole → fit_in mode pages align range hole ≡ Some fit → IsClear f size fit.taken
fit_is_clear f size mode pages align range hole fit h e =
    let k = fit_is_inside pages (start_to_test mode pages align (common hole range)) hole range fit e in part_is_clear f size hole fit.taken k.0 k.1 h

best_is : (P : Fit → Type 0) (mode : Mode) (fits : List Fit) (fit : Fit) → Each P fits → best_fit mode fits ≡ Some fit → P fit
best_is P Best fits fit h e = least_is P (λ f. length_of f.hole) fits fit h e
best_is P Low fits fit h e = first_is P fits 0 fit h e
best_is P High fits fit h e = last_is P fits fit h e

pub range_is_clear : (f : ℕ → Bool) (size : ℕ) (mode : Mode) (pages align : ℕ) (range span : Span) → range_choice mode (holes f size) pages align range ≡ Some span → IsClear f size span
range_is_clear f size mode pages align range span e =
    by (fitting_hole mode (holes f size) pages align range)
    (λ fit g. best_is (λ fit. IsClear f size fit.taken) mode (filter_map (fit_in mode pages align range) (holes f size)) fit
    (each_given (IsClear f size) (λ fit. IsClear f size fit.taken) (fit_in mode pages align range) (fit_is_clear f size mode pages align range) (holes f size) (holes_are_clear f size)) g)
    e
  where
    by : (o : Option Fit) → ((fit : Fit) → o ≡ Some fit → IsClear f size fit.taken) → option_map (λ f. f.taken) o ≡ Some span → IsClear f size span
    by None k g = cc
    by (Some fit) k g = let same : fit.taken ≡ span = cc in subst (IsClear f size) same (k fit refl)
