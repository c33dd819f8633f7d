-- The hole that a request takes fits it, and gives the pages.
use Rattle.std.proofs.Common.{◌≡◌, ℕ, ◌+◌, ◌<◌, ◌≤◌, ◌&&◌, ◌⊎◌, inl, inr, Bool, true, false, List, [], ◌∷◌, Option, Some, None, refl, ap, sym, ◌∙◌, subst, arith, nat_lt, nat_le, if◌then◌else◌}
use Rattle.std.specs.Prelude.{option_map, filter_map}
use Rattle.std.specs.List.{cons_option}
use Rattle.std.proofs.lemmas.Bool.{and_parts, ltb-true, leb-true}
use Rattle.ttm_base.specs.declared.Span.{Span}
use Rattle.ttm_base.specs.declared.Mode.{Mode}
use Rattle.ttm_base.specs.declared.Mode.TheVariants.{Best, Low, High}
use Rattle.ttm_base.specs.ListWords.{first_least, least_by, last_or}
use Rattle.ttm_base.specs.Reach.{common, length_of}
use Rattle.ttm_base.specs.RangeChoice.{Fit, fit_in, start_to_test, best_fit, fitting_hole, range_choice}
use Rattle.hole_tree.specs.Choosing.{chosen_hole}
use Rattle.range_manager.proofs.SpanLaws.{IsAmong}

abbrev pub fits : Mode → ℕ → ℕ → Span → Span → Bool
fits m pages align range hole = nat_lt 0 pages && nat_le (common hole range).start (start_to_test m pages align (common hole range)) && nat_le (start_to_test m pages align (common hole range) + pages) (common hole range).end

abbrev pub taken_of : Mode → ℕ → ℕ → Span → Span → Span
taken_of m pages align range hole = record { start = start_to_test m pages align (common hole range); end = start_to_test m pages align (common hole range) + pages }

abbrev fit_of : Mode → ℕ → ℕ → Span → Span → Fit
fit_of m pages align range hole = record { hole = hole; taken = taken_of m pages align range hole }

abbrev IsAmongFits : Fit → List Fit → Type 0
IsAmongFits f [] = ⊥
IsAmongFits f (g ∷ gs) = (f ≡ g) ⊎ IsAmongFits f gs

-- ---- the best of them is among them

last_among : (g : Fit) (gs : List Fit) → IsAmongFits (last_or g gs) (g ∷ gs)
last_among g [] = inl refl
last_among g (h ∷ gs) = inr (last_among h gs)

least_among : (gs : List Fit) (f : Fit) → least_by (λ f. length_of f.hole) gs ≡ Some f → IsAmongFits f gs
least_among [] f e = absurd cc
least_among (g ∷ gs) f e = pick (least_by (λ f. length_of f.hole) gs) refl (λ h. least_among gs h) e where
  pick : (o : Option Fit) → least_by (λ f. length_of f.hole) gs ≡ o → ((h : Fit) → least_by (λ f. length_of f.hole) gs ≡ Some h → IsAmongFits h gs)
      → Some (first_least (λ f. length_of f.hole) g o) ≡ Some f → IsAmongFits f (g ∷ gs)
  pick None o r e = inl (let z : g ≡ f = cc in sym z)
  pick (Some h) o r e = two (nat_lt (length_of h.hole) (length_of g.hole)) (r h o) e where
    two : (t : Bool) → IsAmongFits h gs → Some (if t then h else g) ≡ Some f → IsAmongFits f (g ∷ gs)
    two true r e = let z : h ≡ f = cc in inr (subst (λ x. IsAmongFits x gs) z r)
    two false r e = inl (let z : g ≡ f = cc in sym z)

best_among : (m : Mode) (gs : List Fit) (f : Fit) → best_fit m gs ≡ Some f → IsAmongFits f gs
best_among Best gs f e = least_among gs f e
best_among Low [] f e = absurd cc
best_among Low (g ∷ gs) f e = inl (let z : g ≡ f = cc in sym z)
best_among High [] f e = absurd cc
best_among High (g ∷ gs) f e = let z : last_or g gs ≡ f = cc in subst (λ x. IsAmongFits x (g ∷ gs)) z (last_among g gs)

-- what is known of the hole that is taken
pub record IsFit (m : Mode) (pages align : ℕ) (range : Span) (hs : List Span) (f : Fit) : Type 0 where
  pub among : IsAmong f.hole hs
  pub fits : fits m pages align range f.hole ≡ true
  pub taken : f.taken ≡ taken_of m pages align range f.hole

fit_later : (m : Mode) (pages align : ℕ) (range x : Span) (hs : List Span) (f : Fit) → IsFit m pages align range hs f → IsFit m pages align range (x ∷ hs) f
fit_later m pages align range x hs f r = record { among = inr r.among; fits = r.fits; taken = r.taken }

from_hole : (m : Mode) (pages align : ℕ) (range : Span) (hs : List Span) (f : Fit) → IsAmongFits f (filter_map (fit_in m pages align range) hs) → IsFit m pages align range hs f
from_hole m pages align range [] f h = absurd h
from_hole m pages align range (x ∷ hs) f h = two (fits m pages align range x) refl (λ r. fit_later m pages align range x hs f (from_hole m pages align range hs f r)) h where
  two : (t : Bool) → fits m pages align range x ≡ t → (IsAmongFits f (filter_map (fit_in m pages align range) hs) → IsFit m pages align range (x ∷ hs) f)
      → IsAmongFits f (cons_option (if t then Some (fit_of m pages align range x) else None) (filter_map (fit_in m pages align range) hs)) → IsFit m pages align range (x ∷ hs) f
  two true e r h = elim h [
    | inl z ↦
        let hole = ap (λ (g : Fit). g.hole) z in
        record { among = inl hole; fits = ap (fits m pages align range) hole ∙ e; taken = ap (λ (g : Fit). g.taken) z ∙ sym (ap (taken_of m pages align range) hole) }
    | inr z ↦ r z
  ]
  two false e r h = r h

-- the hole that is taken, and its pages
pub record IsTaken (m : Mode) (hs : List Span) (pages align : ℕ) (range hole : Span) : Type 0 where
  pub among : IsAmong hole hs
  pub fits : fits m pages align range hole ≡ true
  pub choice : range_choice m hs pages align range ≡ Some (taken_of m pages align range hole)

pub taken_hole : (m : Mode) (hs : List Span) (pages align : ℕ) (range hole : Span) → chosen_hole m hs pages align range.start range.end ≡ Some hole → IsTaken m hs pages align range hole
taken_hole m hs pages align range hole e = by (fitting_hole m hs pages align range) refl e where
  by : (o : Option Fit) → fitting_hole m hs pages align range ≡ o → option_map (λ f. f.hole) o ≡ Some hole → IsTaken m hs pages align range hole
  by None o e = absurd cc
  by (Some f) o e =
      let z : f.hole ≡ hole = cc in
      let r = from_hole m pages align range hs f (best_among m (filter_map (fit_in m pages align range) hs) f o) in
      record {
        among = subst (λ h. IsAmong h hs) z r.among;
        fits = ap (fits m pages align range) (sym z) ∙ r.fits;
        choice = ap (option_map (λ f. f.taken)) o ∙ ap Some (r.taken ∙ ap (taken_of m pages align range) z);
      }

-- the pages lie in the hole and in the range
pub record IsIn (m : Mode) (pages align : ℕ) (range hole : Span) : Type 0 where
  pub some : 0 < pages
  pub from : hole.start ≤ start_to_test m pages align (common hole range)
  pub by : start_to_test m pages align (common hole range) + pages ≤ hole.end

pub taken_in : (m : Mode) (pages align : ℕ) (range hole : Span) → fits m pages align range hole ≡ true → IsIn m pages align range hole
taken_in m pages align range hole h =
    let start : ℕ = start_to_test m pages align (common hole range) in
    let p = and_parts (nat_lt 0 pages && nat_le (common hole range).start start) (nat_le (start + pages) (common hole range).end) h in
    let q = and_parts (nat_lt 0 pages) (nat_le (common hole range).start start) p.0 in
    let some = ltb-true 0 pages q.0 in
    let from = leb-true (common hole range).start start q.1 in
    let by = leb-true (start + pages) (common hole range).end p.1 in
    record { some = some; from = omega arith; by = omega arith }
