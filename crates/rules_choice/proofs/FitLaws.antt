-- The best of a list with one more.
use Rattle.std.proofs.Common.{◌≡◌, ℕ, ◌+◌, ◌<◌, List, [], ◌∷◌, ◌++◌, Option, Some, None, length, take, get_or, refl, ap, ◌∙◌, arith}
use Rattle.std.specs.Prelude.{filter_map, option_to_list}
use Rattle.std.proofs.lemmas.List.{append-nil}
use Rattle.std.proofs.lemmas.Bool.Decides.{nat_tests}
use Rattle.ttm_base.specs.declared.Mode.{Mode}
use Rattle.ttm_base.specs.declared.Mode.TheVariants.{Best, Low, High}
use Rattle.ttm_base.specs.declared.Span.{Span}
use Rattle.ttm_base.specs.ListWords.{first_least, least_by, last_or}
use Rattle.ttm_base.specs.Reach.{length_of}
use Rattle.ttm_base.specs.RangeChoice.{Fit, best_fit, fit_in, fitting_hole}
use Rattle.state_words.proofs.ListSteps.{filter_map_more}
use Rattle.rules_choice.specs.Least.{lesser_by}
use Rattle.rules_choice.specs.Fits.{better_fit}

-- the first of three may be looked at first or last
first_least-lesser : {X : Type 0} (key : X → ℕ) (y : X) (best : Option X) (x : X)
    → first_least key y (Some (lesser_by key best x)) ≡ lesser_by key (Some (first_least key y best)) x
first_least-lesser key y None x = refl
first_least-lesser key y (Some b) x = grind (arith, nat_tests)

-- the element of least key of a list with one more
pub least_by-push : {X : Type 0} (key : X → ℕ) (xs : List X) (x : X) → least_by key (xs ++ x ∷ []) ≡ Some (lesser_by key (least_by key xs) x)
least_by-push key [] x = refl
least_by-push key (y ∷ xs) x = ap (λ m. Some (first_least key y m)) (least_by-push key xs x) ∙ ap Some (first_least-lesser key y (least_by key xs) x)

-- the last of a list with one more
last_or-push : {X : Type 0} (x : X) (xs : List X) (y : X) → last_or x (xs ++ y ∷ []) ≡ y
last_or-push x [] y = refl
last_or-push x (z ∷ xs) y = last_or-push z xs y

-- the shortest hole is the one of least length
better_fit-best : (best : Option Fit) (f : Fit) → lesser_by (λ f. length_of f.hole) best f ≡ better_fit Best best f
better_fit-best None f = refl
better_fit-best (Some b) f = refl

better_fit-high : (best : Option Fit) (f : Fit) → better_fit High best f ≡ f
better_fit-high None f = refl
better_fit-high (Some b) f = refl

-- the best fit of a list with one more
best_fit-push : (mode : Mode) (fits : List Fit) (f : Fit) → best_fit mode (fits ++ f ∷ []) ≡ Some (better_fit mode (best_fit mode fits) f)
best_fit-push Best fits f = least_by-push (λ f. length_of f.hole) fits f ∙ ap Some (better_fit-best (least_by (λ f. length_of f.hole) fits) f)
best_fit-push Low [] f = refl
best_fit-push Low (g ∷ fits) f = refl
best_fit-push High [] f = refl
best_fit-push High (g ∷ fits) f = ap Some (last_or-push g fits f)

-- the best fit among the holes with one more
pub fitting_hole_more : (mode : Mode) (holes : List Span) (pages align : ℕ) (range : Span) (i : ℕ) (d : Span) → i < length holes
    → fitting_hole mode (take (i + 1) holes) pages align range
    ≡ elim (fit_in mode pages align range (get_or holes i d)) [
      | None ↦ fitting_hole mode (take i holes) pages align range
      | Some f ↦ Some (better_fit mode (fitting_hole mode (take i holes) pages align range) f)
    ]
fitting_hole_more mode holes pages align range i d h =
    ap (best_fit mode) (filter_map_more (fit_in mode pages align range) holes i d h)
    ∙ one_fit (fit_in mode pages align range (get_or holes i d)) where
      one_fit : (found : Option Fit)
          → best_fit mode (filter_map (fit_in mode pages align range) (take i holes) ++ option_to_list found)
          ≡ elim found [
            | None ↦ fitting_hole mode (take i holes) pages align range
            | Some f ↦ Some (better_fit mode (fitting_hole mode (take i holes) pages align range) f)
          ]
      one_fit None = ap (best_fit mode) (append-nil (filter_map (fit_in mode pages align range) (take i holes)))
      one_fit (Some f) = best_fit-push mode (filter_map (fit_in mode pages align range) (take i holes)) f
