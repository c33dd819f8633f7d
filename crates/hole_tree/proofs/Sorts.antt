-- Sorted lists: their parts on both sides of a hole k, and a hole that comes or goes.
use Rattle.std.proofs.Common.{◌≡◌, ◌+◌, Bool, true, false, cond, not, List, [], ◌∷◌, ◌++◌, Option, Some, None, length, refl, ap, ◌∙◌, arith}
use Rattle.std.specs.Option.{option_or}
use Rattle.std.specs.List.{find}
use Rattle.std.proofs.lemmas.Bool.Decides.{nat_tests}
use Rattle.std.proofs.lemmas.List.Folds.{find-append}
use Rattle.std.proofs.lemmas.List.Elements.{filter-append}
use Rattle.ttm_base.specs.declared.Span.{Span}
use Rattle.hole_tree.specs.declared.order.Order.{Order}
use Rattle.hole_tree.specs.declared.order.Order.TheVariants.{ByStart, ByLength}
use Rattle.hole_tree.specs.Sorting.{before, ties, IsBefore, IsSorted, placed, untied}

-- ---- two and three holes

pub before_trans : (o : Order) (a b c : Span) → before o a b ≡ true → before o b c ≡ true → before o a c ≡ true
before_trans ByStart a b c p q = grind (arith, nat_tests)
before_trans ByLength a b c p q = grind (arith, nat_tests)

pub not_back : (o : Order) (a b : Span) → before o a b ≡ true → before o b a ≡ false
not_back ByStart a b p = grind (arith, nat_tests)
not_back ByLength a b p = grind (arith, nat_tests)

-- a hole x that doesn't stand before the later of two follows the earlier, and the other way round
behind_first : (o : Order) (a c x : Span) → before o a c ≡ true → before o x c ≡ false → before o a x ≡ true
behind_first ByStart a c x p q = grind (arith, nat_tests)
behind_first ByLength a c x p q = grind (arith, nat_tests)

before_second : (o : Order) (a c x : Span) → before o a c ≡ true → before o a x ≡ false → before o x c ≡ true
before_second ByStart a c x p q = grind (arith, nat_tests)
before_second ByLength a c x p q = grind (arith, nat_tests)

no_tie_before : (o : Order) (x y : Span) → before o x y ≡ true → ties o x y ≡ false
no_tie_before o x y e = rw e

no_tie_behind : (o : Order) (x y : Span) → before o y x ≡ true → ties o x y ≡ false
no_tie_behind o x y e = rw (e, not_back o y x e)

-- ---- sides

pub before_middle : (o : Order) (x : Span) (l : List Span) (k : Span) (r : List Span) → IsBefore o x (l ++ k ∷ r) → before o x k ≡ true
before_middle o x [] k r h = h.0
before_middle o x (y ∷ l) k r h = before_middle o x l k r h.1

before_front : (o : Order) (x : Span) (l m : List Span) → IsBefore o x (l ++ m) → IsBefore o x l
before_front o x [] m h = tt
before_front o x (y ∷ l) m h = (h.0, before_front o x l m h.1)

pub sorted_left : (o : Order) (l m : List Span) → IsSorted o (l ++ m) → IsSorted o l
sorted_left o [] m h = tt
sorted_left o (x ∷ l) m h = (before_front o x l m h.0, sorted_left o l m h.1)

sorted_root : (o : Order) (l : List Span) (k : Span) (r : List Span) → IsSorted o (l ++ k ∷ r) → IsSorted o (k ∷ r)
sorted_root o [] k r h = h
sorted_root o (x ∷ l) k r h = sorted_root o l k r h.1

pub sorted_right : (o : Order) (l : List Span) (k : Span) (r : List Span) → IsSorted o (l ++ k ∷ r) → IsSorted o r
sorted_right o l k r h = (sorted_root o l k r h).1

-- ---- a hole that comes

placed_cases : (b : Bool) (x y : Span) (t u m v : List Span) → v ≡ u ++ m → cond b (x ∷ y ∷ (t ++ m)) (y ∷ v) ≡ cond b (x ∷ y ∷ t) (y ∷ u) ++ m
placed_cases true x y t u m v e = refl
placed_cases false x y t u m v e = ap (λ w. y ∷ w) e

pub placed_left : (o : Order) (x : Span) (l : List Span) (k : Span) (r : List Span) → before o x k ≡ true → placed o x (l ++ k ∷ r) ≡ placed o x l ++ k ∷ r
placed_left o x [] k r h = rw h
placed_left o x (y ∷ t) k r h = placed_cases (before o x y) x y t (placed o x t) (k ∷ r) _ (placed_left o x t k r h)

pub placed_right : (o : Order) (x : Span) (l : List Span) (k : Span) (r : List Span) → before o x k ≡ false → IsSorted o (l ++ k ∷ r) → placed o x (l ++ k ∷ r) ≡ l ++ k ∷ placed o x r
placed_right o x [] k r h s = rw h
placed_right o x (y ∷ t) k r h s =
    let p : before o y k ≡ true = before_middle o y t k r s.0 in
    let q : before o y x ≡ true = behind_first o y k x p h in
    rw (not_back o y x q) (ap (λ w. y ∷ w) (placed_right o x t k r h s.1))

-- ---- a hole that goes

record IsUntied (o : Order) (x : Span) (ys : List Span) : Type 0 where
  found : find (ties o x) ys ≡ None
  left : untied o x ys ≡ ys

untied_cons : (o : Order) (x y : Span) (ys : List Span) → ties o x y ≡ false → IsUntied o x ys → IsUntied o x (y ∷ ys)
untied_cons o x y ys f e = record { found = rw f e.found; left = rw f (ap (λ w. y ∷ w) e.left) }

untied_behind : (o : Order) (x : Span) (ys : List Span) → IsBefore o x ys → IsUntied o x ys
untied_behind o x [] h = record { found = refl; left = refl }
untied_behind o x (y ∷ ys) h = untied_cons o x y ys (no_tie_before o x y h.0) (untied_behind o x ys h.1)

pub before_all : (o : Order) (x k : Span) (ys : List Span) → before o x k ≡ true → IsBefore o k ys → IsBefore o x ys
before_all o x k [] p h = tt
before_all o x k (y ∷ ys) p h = (before_trans o x k y p h.0, before_all o x k ys p h.1)

-- a hole that doesn't stand before k ties with none that stands before it
untied_front : (o : Order) (x : Span) (l : List Span) (k : Span) (r : List Span) → before o x k ≡ false → IsSorted o (l ++ k ∷ r) → IsUntied o x l
untied_front o x [] k r p h = record { found = refl; left = refl }
untied_front o x (y ∷ l) k r p h =
    let a : before o y k ≡ true = before_middle o y l k r h.0 in
    untied_cons o x y l (no_tie_behind o x y (behind_first o y k x a p)) (untied_front o x l k r p h.1)

tied_before : (o : Order) (x k : Span) (ys : List Span) → before o k x ≡ false → IsBefore o k ys → IsBefore o x ys
tied_before o x k [] p h = tt
tied_before o x k (y ∷ ys) p h = (before_second o k y x h.0 p, tied_before o x k ys p h.1)

-- where the hole that ties with x is, and what is left without it
pub record Goes (o : Order) (x : Span) (ys : List Span) (hole : Option Span) (rest : List Span) : Type 0 where
  pub found : find (ties o x) ys ≡ hole
  pub left : untied o x ys ≡ rest

or_none : (o : Option Span) → option_or o None ≡ o
or_none None = refl
or_none (Some x) = refl

pub goes_left : (o : Order) (x : Span) (l : List Span) (k : Span) (r : List Span) → before o x k ≡ true → IsSorted o (l ++ k ∷ r) → Goes o x (l ++ k ∷ r) (find (ties o x) l) (untied o x l ++ k ∷ r)
goes_left o x l k r p h =
    let root = sorted_root o l k r h in
    let e = untied_cons o x k r (no_tie_before o x k p) (untied_behind o x r (before_all o x k r p root.0)) in
    record {
      found = find-append (ties o x) l (k ∷ r) ∙ rw e.found (or_none (find (ties o x) l));
      left = filter-append (λ h. not (ties o x h)) l (k ∷ r) ∙ ap (λ w. untied o x l ++ w) e.left;
    }

pub goes_right : (o : Order) (x : Span) (l : List Span) (k : Span) (r : List Span) → before o k x ≡ true → IsSorted o (l ++ k ∷ r) → Goes o x (l ++ k ∷ r) (find (ties o x) r) (l ++ k ∷ untied o x r)
goes_right o x l k r p h =
    let e = untied_front o x l k r (not_back o k x p) h in
    let f = no_tie_behind o x k p in
    record {
      found = find-append (ties o x) l (k ∷ r) ∙ rw (e.found, f);
      left = filter-append (λ h. not (ties o x h)) l (k ∷ r) ∙ rw (e.left, f);
    }

pub goes_here : (o : Order) (x : Span) (l : List Span) (k : Span) (r : List Span) → before o x k ≡ false → before o k x ≡ false → IsSorted o (l ++ k ∷ r) → Goes o x (l ++ k ∷ r) (Some k) (l ++ r)
goes_here o x l k r p q h =
    let root = sorted_root o l k r h in
    let e = untied_front o x l k r p h in
    let f : ties o x k ≡ true = rw (p, q) in
    let g = untied_behind o x r (tied_before o x k r q root.0) in
    record {
      found = find-append (ties o x) l (k ∷ r) ∙ rw (e.found, f);
      left = filter-append (λ h. not (ties o x h)) l (k ∷ r) ∙ rw (e.left, f) (ap (λ w. l ++ w) g.left);
    }

-- ---- how many

pub length-placed : (o : Order) (x : Span) (ys : List Span) → length (placed o x ys) ≡ length ys + 1
length-placed o x [] = omega arith
length-placed o x (y ∷ ys) = elim (before o x y) as (λ b. length (cond b (x ∷ y ∷ ys) (y ∷ placed o x ys)) ≡ length (y ∷ ys) + 1) [
  | true ↦ omega arith
  | false ↦ omega (arith, length-placed o x ys)
]
