-- The hole that has a page, on both sides of a hole k.
use Rattle.std.proofs.Common.{◌≡◌, ℕ, ◌≤◌, ◌<◌, true, false, List, [], ◌∷◌, ◌++◌, Option, Some, None, refl, ◌∙◌, arith}
use Rattle.std.specs.Option.{option_or}
use Rattle.std.specs.List.{find}
use Rattle.std.proofs.lemmas.Bool.Decides.{nat_tests}
use Rattle.std.proofs.lemmas.List.Folds.{find-append}
use Rattle.ttm_base.specs.declared.Span.{Span}
use Rattle.ttm_base.specs.Holes.{has_page}
use Rattle.hole_tree.specs.Rising.{IsRising, IsPast}
use Rattle.hole_tree.proofs.Rises.{past_middle, rising_root}

before_page : (page : ℕ) (x : Span) → x.end ≤ page → has_page page x ≡ false
before_page page x p = grind (arith, nat_tests)

past_page : (page : ℕ) (x : Span) → page < x.start → has_page page x ≡ false
past_page page x p = grind (arith, nat_tests)

none_past : (page limit : ℕ) (ys : List Span) → page ≤ limit → IsPast limit ys → find (has_page page) ys ≡ None
none_past page limit [] p h = refl
none_past page limit (y ∷ ys) p h = let q : limit < y.start = h.0 in rw (past_page page y (omega arith)) (none_past page limit ys p h.1)

none_front : (page : ℕ) (l : List Span) (k : Span) (r : List Span) → k.start ≤ page → IsRising (l ++ k ∷ r) → find (has_page page) l ≡ None
none_front page [] k r p h = refl
none_front page (y ∷ l) k r p h = let q : y.end < k.start = past_middle y.end l k r h.1 in rw (before_page page y (omega arith)) (none_front page l k r p h.2)

or_none : (o : Option Span) → option_or o None ≡ o
or_none None = refl
or_none (Some x) = refl

pub around_left : (page : ℕ) (l : List Span) (k : Span) (r : List Span) → page < k.start → IsRising (l ++ k ∷ r) → find (has_page page) (l ++ k ∷ r) ≡ find (has_page page) l
around_left page l k r p h =
    let root = rising_root l k r h in
    let w : k.start ≤ k.end = root.0 in
    let rest : find (has_page page) (k ∷ r) ≡ None = rw (past_page page k p) (none_past page k.end r (omega arith) root.1) in
    find-append (has_page page) l (k ∷ r) ∙ rw rest (or_none (find (has_page page) l))

pub around_here : (page : ℕ) (l : List Span) (k : Span) (r : List Span) → k.start ≤ page → page < k.end → IsRising (l ++ k ∷ r) → find (has_page page) (l ++ k ∷ r) ≡ Some k
around_here page l k r p q h =
    let has : has_page page k ≡ true = grind (arith, nat_tests) in
    find-append (has_page page) l (k ∷ r) ∙ rw (none_front page l k r p h, has) refl

pub around_right : (page : ℕ) (l : List Span) (k : Span) (r : List Span) → k.start ≤ page → k.end ≤ page → IsRising (l ++ k ∷ r) → find (has_page page) (l ++ k ∷ r) ≡ find (has_page page) r
around_right page l k r p q h = find-append (has_page page) l (k ∷ r) ∙ rw (none_front page l k r p h, before_page page k q) refl
