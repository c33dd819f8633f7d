-- The hole of the range choice is the lowest, the highest or the shortest that fits.
use Rattle.std.proofs.Common.{◌≡◌, ◌+◌, true, false, cond, List, [], ◌∷◌, Option, Some, None, refl, ap, ◌∙◌, inl, inr, ltb}
use Rattle.std.specs.Prelude.{option_map, filter_map, slice_get}
use Rattle.std.specs.Option.{option_or}
use Rattle.std.specs.List.{find}
use Rattle.std.proofs.lemmas.Bool.{cases_Bool}
use Rattle.ttm_base.specs.declared.Span.{Span}
use Rattle.ttm_base.specs.declared.Mode.{Mode}
use Rattle.ttm_base.specs.declared.Mode.TheVariants.{Best, Low, High}
use Rattle.ttm_base.specs.ListWords.{first_least, least_by, last_of}
use Rattle.ttm_base.specs.Reach.{common, length_of}
use Rattle.ttm_base.specs.RangeChoice.{Fit, fit_in, start_to_test}
use Rattle.hole_tree.specs.declared.request.Request.{Request}
use Rattle.hole_tree.specs.Fitting.{range_of, fits, find_last}
use Rattle.hole_tree.specs.Choosing.{chosen_hole, find_shortest}

abbrev fit_of : Mode → Request → Span → Fit
fit_of m q h = let s = start_to_test m q.pages q.align (common h (range_of q)) in record { hole = h; taken = record { start = s; end = s + q.pages } }

abbrev all_fits : Mode → Request → List Span → List Fit
all_fits m q xs = filter_map (fit_in m q.pages q.align (range_of q)) xs

first_fit : (m : Mode) (q : Request) (xs : List Span) → option_map (λ f. f.hole) (slice_get (all_fits m q xs) 0) ≡ find (fits m q) xs
first_fit m q [] = refl
first_fit m q (x ∷ xs) = elim (cases_Bool (fits m q x)) [ inl e ↦ rw e | inr e ↦ rw e (first_fit m q xs) ]

pub chosen_low : (q : Request) (xs : List Span) → chosen_hole Low xs q.pages q.align q.first q.last ≡ find (fits Low q) xs
chosen_low q xs = first_fit Low q xs

last_cons : (f : Fit) (fs : List Fit) → option_map (λ f. f.hole) (last_of (f ∷ fs)) ≡ option_or (option_map (λ f. f.hole) (last_of fs)) (Some f.hole)
last_cons f [] = refl
last_cons f (g ∷ gs) = refl

or_none : (o : Option Span) → option_or o None ≡ o
or_none None = refl
or_none (Some x) = refl

last_fit : (m : Mode) (q : Request) (xs : List Span) → option_map (λ f. f.hole) (last_of (all_fits m q xs)) ≡ find_last (fits m q) xs
last_fit m q [] = refl
last_fit m q (x ∷ xs) = elim (cases_Bool (fits m q x)) [
  | inl e ↦ rw e (last_cons (fit_of m q x) (all_fits m q xs) ∙ ap (λ o. option_or o (Some x)) (last_fit m q xs))
  | inr e ↦ rw (e, or_none (find_last (fits m q) xs)) (last_fit m q xs)
]

pub chosen_high : (q : Request) (xs : List Span) → chosen_hole High xs q.pages q.align q.first q.last ≡ find_last (fits High q) xs
chosen_high q xs = last_fit High q xs

least_cons : (f : Fit) (b : Option Fit) → option_map (λ f. f.hole) (Some (first_least (λ g. length_of g.hole) f b)) ≡ Some (first_least length_of f.hole (option_map (λ f. f.hole) b))
least_cons f None = refl
least_cons f (Some g) = elim (ltb (length_of g.hole) (length_of f.hole)) as (λ b. Some ((cond b g f).hole) ≡ Some (cond b g.hole f.hole)) [ true ↦ refl | false ↦ refl ]

least_fit : (m : Mode) (q : Request) (xs : List Span) → option_map (λ f. f.hole) (least_by (λ g. length_of g.hole) (all_fits m q xs)) ≡ find_shortest (fits m q) xs
least_fit m q [] = refl
least_fit m q (x ∷ xs) = elim (cases_Bool (fits m q x)) [
  | inl e ↦ rw e (least_cons (fit_of m q x) (least_by (λ g. length_of g.hole) (all_fits m q xs)) ∙ ap (λ o. Some (first_least length_of x o)) (least_fit m q xs))
  | inr e ↦ rw e (least_fit m q xs)
]

pub chosen_best : (q : Request) (xs : List Span) → chosen_hole Best xs q.pages q.align q.first q.last ≡ find_shortest (fits Best q) xs
chosen_best q xs = least_fit Best q xs
