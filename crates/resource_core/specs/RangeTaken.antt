-- What the range choice takes is free.
use Rattle.std.proofs.Common.{◌≡◌, ℕ, zero, suc, ◌+◌, ◌^◌, ◌<◌, ◌≤◌, ◌&&◌, inl, inr, Bool, true, false, List, [], ◌∷◌, Option, Some, None, filter_map, option_map, slice_get, length, refl, ap, sym, ◌∙◌, subst, arith, nat_eq, nat_lt, nat_le, if◌then◌else◌}
use Rattle.std.specs.List.{cons_option}
use Rattle.std.proofs.lemmas.Bool.{and_parts, cases_lt, leb-true, ltb-true, lt-ltb, le-ltb, eqb-true}
use Rattle.ttm_base.specs.declared.Span.{Span}
use Rattle.ttm_base.specs.declared.Mode.{Mode}
use Rattle.ttm_base.specs.declared.Mode.TheVariants.{Best, Low, High}
use Rattle.ttm_base.specs.declared.Place.{Place}
use Rattle.ttm_base.specs.Holes.{has_page, with_page, holes}
use Rattle.ttm_base.specs.ListWords.{least_by, first_least, last_of, last_or}
use Rattle.ttm_base.specs.Reach.{common, reach, length_of}
use Rattle.ttm_base.specs.RangeChoice.{Fit, start_to_test, fit_in, best_fit, fitting_hole, range_choice}
use Rattle.buddy_manager.specs.Taking.{CanTake, AreTaken}
use Rattle.buddy_manager.proofs.HeldLaws.{has_parts, has_from}
use Rattle.resource_core.specs.Choices.{one_span, mode_for, range_spans}

-- ---- holes

-- all pages of the span are free, and it ends within the size
record IsHole (f : ℕ → Bool) (n : ℕ) (s : Span) : Type 0 where
  within : s.end ≤ n
  free : (page : ℕ) → has_page page s ≡ true → f page ≡ true

abbrev AreHoles : (ℕ → Bool) → ℕ → List Span → Type 0
AreHoles f n [] = Unit {0}
AreHoles f n (s ∷ ss) = IsHole f n s × AreHoles f n ss

hole_more : (f : ℕ → Bool) (n : ℕ) (s : Span) → IsHole f n s → IsHole f (suc n) s
hole_more f n s h = let w = h.within in record { within = omega (arith, w); free = h.free }

holes_more : (f : ℕ → Bool) (n : ℕ) (ss : List Span) → AreHoles f n ss → AreHoles f (suc n) ss
holes_more f n [] h = tt
holes_more f n (s ∷ ss) h = (hole_more f n s h.0, holes_more f n ss h.1)

one_page : (f : ℕ → Bool) (n : ℕ) → f n ≡ true → IsHole f (suc n) (record { start = n; end = n + 1 })
one_page f n t =
    record {
      within = omega arith;
      free = λ page h. let p = has_parts page (record { start = n; end = n + 1 }) h in let e : page ≡ n = (let l = p.0 in let u = p.1 in omega (arith, l, u)) in ap f e ∙ t;
    }

wider : (f : ℕ → Bool) (n : ℕ) (s : Span) → f n ≡ true → IsHole f n s → s.end ≡ n → IsHole f (suc n) (record { start = s.start; end = n + 1 })
wider f n s t h e =
    record {
      within = omega arith;
      free = λ page g.
          let p = has_parts page (record { start = s.start; end = n + 1 }) g in
          let l = p.0 in
          let u = p.1 in
          elim (cases_lt page n) [
            | inl b ↦ h.free page (has_from page s l (omega (arith, b, e)))
            | inr b ↦ ap f (let z : page ≡ n = omega (arith, b, u) in z) ∙ t
          ];
    }

with_page_holes : (f : ℕ → Bool) (n : ℕ) (ss : List Span) → f n ≡ true → AreHoles f n ss → AreHoles f (suc n) (with_page n ss)
with_page_holes f n [] t h = (one_page f n t, tt)
with_page_holes f n (s ∷ []) t h = two (nat_eq s.end n) refl where
  two : (x : Bool) → nat_eq s.end n ≡ x → AreHoles f (suc n) (if x then record { start = s.start; end = n + 1 } ∷ [] else s ∷ record { start = n; end = n + 1 } ∷ [])
  two true e = (wider f n s t h.0 (eqb-true s.end n e), tt)
  two false e = (hole_more f n s h.0, (one_page f n t, tt))
with_page_holes f n (s ∷ u ∷ rest) t h = (hole_more f n s h.0, with_page_holes f n (u ∷ rest) t h.1)

are_holes : (f : ℕ → Bool) (n : ℕ) → AreHoles f n (holes f n)
are_holes f zero = tt
are_holes f (suc n) = two (f n) refl (are_holes f n) where
  two : (x : Bool) → f n ≡ x → AreHoles f n (holes f n) → AreHoles f (suc n) (if x then with_page n (holes f n) else holes f n)
  two true e h = with_page_holes f n (holes f n) e h
  two false e h = holes_more f n (holes f n) h

-- ---- a hole that fits

abbrev made : Mode → ℕ → ℕ → Span → Span → Bool → Option Fit
made mode pages align range hole t =
    let start = start_to_test mode pages align (common hole range) in
    if t then Some (record { hole = hole; taken = record { start = start; end = start + pages } }) else None

fit_takes : (f : ℕ → Bool) (n : ℕ) (mode : Mode) (pages align : ℕ) (range hole : Span) (fit : Fit) → IsHole f n hole → fit_in mode pages align range hole ≡ Some fit → CanTake f n fit.taken
fit_takes f n mode pages align range hole fit h e =
    by (nat_lt 0 pages && nat_le (common hole range).start (start_to_test mode pages align (common hole range)) && nat_le (start_to_test mode pages align (common hole range) + pages) (common hole range).end) refl
  where
    by : (t : Bool) → (nat_lt 0 pages && nat_le (common hole range).start (start_to_test mode pages align (common hole range)) && nat_le (start_to_test mode pages align (common hole range) + pages) (common hole range).end) ≡ t → CanTake f n fit.taken
    by false z = absurd (let x : made mode pages align range hole false ≡ Some fit = sym (ap (made mode pages align range hole) z) ∙ e in cc)
    by true z =
        let at : ℕ = start_to_test mode pages align (common hole range) in
        let x : made mode pages align range hole true ≡ Some fit = sym (ap (made mode pages align range hole) z) ∙ e in
        let d : Fit = record { hole = hole; taken = record { start = at; end = at + pages } } in
        let s : d ≡ fit = cc in
        let p = and_parts (nat_lt 0 pages && nat_le (common hole range).start at) (nat_le (at + pages) (common hole range).end) z in
        let q = and_parts (nat_lt 0 pages) (nat_le (common hole range).start at) p.0 in
        let some = ltb-true 0 pages q.0 in
        let low = leb-true (common hole range).start at q.1 in
        let high = leb-true (at + pages) (common hole range).end p.1 in
        let within = h.within in
        let from : hole.start ≤ at = omega (arith, low) in
        let to : at + pages ≤ hole.end = omega (arith, high) in
        let own : Span = record { start = at; end = at + pages } in
        let c : CanTake f n own = record {
          some = omega (arith, some);
          within = omega (arith, to, within);
          free = λ page t. let r = has_parts page own t in let l = r.0 in let u = r.1 in h.free page (has_from page hole (omega (arith, from, l)) (omega (arith, to, u)));
        } in
        subst (λ (g : Fit). CanTake f n g.taken) s c

-- ---- the hole that is taken

module _ (P : Fit → Type 0) where
  abbrev Each : List Fit → Type 0
  Each [] = Unit {0}
  Each (x ∷ xs) = P x × Each xs

  each_fit : (g : Span → Option Fit) (f : ℕ → Bool) (n : ℕ) (ss : List Span) → AreHoles f n ss → ((s : Span) (fit : Fit) → IsHole f n s → g s ≡ Some fit → P fit) → Each (filter_map g ss)
  each_fit g f n [] h k = tt
  each_fit g f n (s ∷ ss) h k = by (g s) refl (each_fit g f n ss h.1 k) where
    by : (o : Option Fit) → g s ≡ o → Each (filter_map g ss) → Each (cons_option (g s) (filter_map g ss))
    by None e rest = subst (λ o. Each (cons_option o (filter_map g ss))) (sym e) rest
    by (Some fit) e rest = subst (λ o. Each (cons_option o (filter_map g ss))) (sym e) (k s fit h.0 e, rest)

  least_one : (key : Fit → ℕ) (xs : List Fit) (y : Fit) → Each xs → least_by key xs ≡ Some y → P y
  least_one key [] y h e = absurd cc
  least_one key (x ∷ xs) y h e = two (least_by key xs) refl (λ z. least_one key xs z h.1) where
    two : (o : Option Fit) → least_by key xs ≡ o → ((z : Fit) → least_by key xs ≡ Some z → P z) → P y
    two None z rest = let s : x ≡ y = let t = sym (ap (λ o. Some (first_least key x o)) z) ∙ e in cc in subst P s h.0
    two (Some d) z rest = elim (cases_lt (key d) (key x)) [
      | inl l ↦
          let s : d ≡ y = let t = sym (ap (λ t. Some (if t then d else x)) (lt-ltb (key d) (key x) l)) ∙ sym (ap (λ o. Some (first_least key x o)) z) ∙ e in cc in
          subst P s (rest d z)
      | inr l ↦
          let s : x ≡ y = let t = sym (ap (λ t. Some (if t then d else x)) (le-ltb (key d) (key x) l)) ∙ sym (ap (λ o. Some (first_least key x o)) z) ∙ e in cc in
          subst P s h.0
    ]

  first_one : (xs : List Fit) (y : Fit) → Each xs → slice_get xs 0 ≡ Some y → P y
  first_one [] y h e = absurd cc
  first_one (x ∷ xs) y h e = let s : x ≡ y = cc in subst P s h.0

  last_from : (x : Fit) (xs : List Fit) → P x → Each xs → P (last_or x xs)
  last_from x [] p h = p
  last_from x (z ∷ xs) p h = last_from z xs h.0 h.1

  last_one : (xs : List Fit) (y : Fit) → Each xs → last_of xs ≡ Some y → P y
  last_one [] y h e = absurd cc
  last_one (x ∷ xs) y h e = let s : last_or x xs ≡ y = cc in subst P s (last_from x xs h.0 h.1)

  best_one : (mode : Mode) (xs : List Fit) (y : Fit) → Each xs → best_fit mode xs ≡ Some y → P y
  best_one Best xs y h e = least_one (λ f. length_of f.hole) xs y h e
  best_one Low xs y h e = first_one xs y h e
  best_one High xs y h e = last_one xs y h e

pub range_takes : (f : ℕ → Bool) (n : ℕ) (mode : Mode) (pages align : ℕ) (range span : Span) → range_choice mode (holes f n) pages align range ≡ Some span → CanTake f n span
range_takes f n mode pages align range span h = by (fitting_hole mode (holes f n) pages align range) refl where
  by : (o : Option Fit) → fitting_hole mode (holes f n) pages align range ≡ o → CanTake f n span
  by None e = absurd (let z = sym (ap (option_map (λ (f : Fit). f.taken)) e) ∙ h in cc)
  by (Some fit) e =
      let z = sym (ap (option_map (λ (f : Fit). f.taken)) e) ∙ h in
      let s : fit.taken ≡ span = cc in
      let each = each_fit (λ g. CanTake f n g.taken) (fit_in mode pages align range) f n (holes f n) (are_holes f n) (λ hole fit t e. fit_takes f n mode pages align range hole fit t e) in
      subst (CanTake f n) s (best_one (λ g. CanTake f n g.taken) mode (filter_map (fit_in mode pages align range) (holes f n)) fit each e)

pub range_takes_free : (f : ℕ → Bool) (n pages align : ℕ) (place : Place) (out : List Span) → range_spans f n pages align place ≡ Some out → AreTaken f n out
range_takes_free f n pages align place out h = by (range_choice (mode_for place.topdown) (holes f n) pages align (reach place n)) refl where
  by : (o : Option Span) → range_choice (mode_for place.topdown) (holes f n) pages align (reach place n) ≡ o → AreTaken f n out
  by None e = absurd (let z = sym (ap (option_map one_span) e) ∙ h in cc)
  by (Some span) e =
      let z = sym (ap (option_map one_span) e) ∙ h in
      let s : span ∷ [] ≡ out = cc in
      subst (AreTaken f n) s (range_takes f n (mode_for place.topdown) pages align (reach place n) span e, tt)

pub range_takes_some : (f : ℕ → Bool) (n pages align : ℕ) (place : Place) (out : List Span) → range_spans f n pages align place ≡ Some out → 1 ≤ length out
range_takes_some f n pages align place out h = by (range_choice (mode_for place.topdown) (holes f n) pages align (reach place n)) refl where
  by : (o : Option Span) → range_choice (mode_for place.topdown) (holes f n) pages align (reach place n) ≡ o → 1 ≤ length out
  by None e = absurd (let z = sym (ap (option_map one_span) e) ∙ h in cc)
  by (Some span) e =
      let z = sym (ap (option_map one_span) e) ∙ h in
      let s : span ∷ [] ≡ out = cc in
      let l = ap length s in
      omega (arith, l)

pub range_most_fits : 4294967295 < 2 ^ 32
range_most_fits = omega arith
