-- Spans lie in a reach as their stretch does.
use Rattle.std.proofs.Common.{◌≡◌, ℕ, Bool, true, false, List, [], ◌∷◌, Option, refl, ◌∙◌, ap, ap₂, arith}
use Rattle.std.specs.Prelude.{min, max, nat_le, ◌&&◌, ◌||◌, not}
use Rattle.std.specs.List.{list_all, list_any}
use Rattle.std.proofs.lemmas.Bool.Decides.{nat_tests}
use Rattle.ttm_base.specs.declared.Mem.{Mem}
use Rattle.ttm_base.specs.declared.Span.{Span}
use Rattle.ttm_base.specs.declared.FlaggedPlace.{FlaggedPlace}
use Rattle.ttm_base.specs.Reach.{reach, same_mem, is_inside, is_contiguous}
use Rattle.ttm_base.specs.Placement.{compatible}
use Rattle.place_list.specs.Stretch.{around, around_all, stretch_of, lies_in, takes}

below_both : (w a b : ℕ) → nat_le w (min a b) ≡ (nat_le w a && nat_le w b)
below_both w a b = grind (arith, nat_tests)

above_both : (w a b : ℕ) → nat_le (max a b) w ≡ (nat_le a w && nat_le b w)
above_both w a b = grind (arith, nat_tests)

crossed : (p q r t : Bool) → ((p && q) && (r && t)) ≡ ((p && r) && (q && t))
crossed false q r t = refl
crossed true false false t = refl
crossed true false true t = refl
crossed true true r t = refl

-- two spans lie there where the stretch of both does
around_inside : (within a b : Span) → is_inside within (around a b) ≡ (is_inside within a && is_inside within b)
around_inside within a b =
    ap₂ (λ x y. x && y) (below_both within.start a.start b.start) (above_both within.end a.end b.end)
    ∙ crossed (nat_le within.start a.start) (nat_le within.start b.start) (nat_le a.end within.end) (nat_le b.end within.end)

and_true : (p : Bool) → p ≡ (p && true)
and_true true = refl
and_true false = refl

and_assoc : (p q r : Bool) → ((p && q) && r) ≡ (p && (q && r))
and_assoc true q r = refl
and_assoc false q r = refl

all_inside : (within a : Span) (ss : List Span) → is_inside within (around_all a ss) ≡ (is_inside within a && list_all (is_inside within) ss)
all_inside within a [] = and_true (is_inside within a)
all_inside within a (s ∷ ss) =
    all_inside within (around a s) ss
    ∙ ap (λ q. q && list_all (is_inside within) ss) (around_inside within a s)
    ∙ and_assoc (is_inside within a) (is_inside within s) (list_all (is_inside within) ss)

-- spans lie there where their stretch does
stretch_inside : (within : Span) (spans : List Span) → lies_in within (stretch_of spans) ≡ list_all (is_inside within) spans
stretch_inside within [] = refl
stretch_inside within (s ∷ ss) = all_inside within s ss

-- some place accepts them as their stretch and whether they are contiguous tell
pub accepted : (mem : Mem) (spans : List Span) (size : ℕ) (places : List FlaggedPlace) → list_any (λ p. takes mem (stretch_of spans) (is_contiguous spans) size p.place) places ≡ compatible mem spans (record { list = places }) size
accepted mem spans size [] = refl
accepted mem spans size (p ∷ ps) =
    ap₂ (λ x y. x || y)
    (ap (λ q. same_mem p.place.mem mem && q && (not p.place.contig || is_contiguous spans)) (stretch_inside (reach p.place size) spans))
    (accepted mem spans size ps)

asked : (g c f : Bool) → (g ≡ true → f ≡ true) → (not g || (f && c)) ≡ (not g || c)
asked false c f h = refl
asked true c f h = ap (λ x. x && c) (h refl)

or_later : (p q : Bool) → q ≡ true → (p || q) ≡ true
or_later true q h = refl
or_later false q h = h

-- whether they are contiguous matters where a place asks for it
if_asked : (mem : Mem) (stretch : Option Span) (c f : Bool) (size : ℕ) (places : List FlaggedPlace) → (list_any (λ p. p.place.contig) places ≡ true → f ≡ true)
    → list_any (λ p. takes mem stretch (f && c) size p.place) places ≡ list_any (λ p. takes mem stretch c size p.place) places
if_asked mem stretch c f size [] h = refl
if_asked mem stretch c f size (p ∷ ps) h =
    ap₂ (λ x y. x || y)
    (ap (λ q. same_mem p.place.mem mem && lies_in (reach p.place size) stretch && q)
    (asked p.place.contig c f (λ e. h (ap (λ x. x || list_any (λ p. p.place.contig) ps) e))))
    (if_asked mem stretch c f size ps (λ e. h (or_later p.place.contig (list_any (λ p. p.place.contig) ps) e)))

-- some place accepts them
pub some_accepts : (mem : Mem) (spans : List Span) (size : ℕ) (places : List FlaggedPlace)
    → list_any (λ p. takes mem (stretch_of spans) (list_any (λ p. p.place.contig) places && is_contiguous spans) size p.place) places
    ≡ compatible mem spans (record { list = places }) size
some_accepts mem spans size places =
    if_asked mem (stretch_of spans) (is_contiguous spans) (list_any (λ p. p.place.contig) places) size places (λ e. e)
    ∙ accepted mem spans size places
