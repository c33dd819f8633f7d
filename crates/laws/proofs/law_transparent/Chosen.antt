-- Each span of a choice has a page.
use Rattle.std.proofs.Common.{◌≡◌, ℕ, ◌+◌, ◌-◌, ◌<◌, zero, suc, Bool, true, false, List, [], ◌∷◌, Option, Some, None, refl, subst, arith}
use Rattle.std.specs.Prelude.{filter_map, option_map, not, nat_lt, nat_le, ◌&&◌, if◌then◌else◌}
use Rattle.std.proofs.lemmas.Bool.{ltb-true}
use Rattle.std.proofs.Math.Pow.{pow_pos}
use Rattle.ttm_base.specs.declared.Mem.{Mem}
use Rattle.ttm_base.specs.declared.Mem.TheVariants.{System, Tt, Vram}
use Rattle.ttm_base.specs.declared.BufId.{BufId}
use Rattle.ttm_base.specs.declared.Mode.{Mode}
use Rattle.ttm_base.specs.declared.Mode.TheVariants.{Best, Low, High}
use Rattle.ttm_base.specs.declared.Span.{Span}
use Rattle.ttm_base.specs.declared.Place.{Place}
use Rattle.ttm_base.specs.Holes.{has_page, holes}
use Rattle.ttm_base.specs.Reach.{common, length_of}
use Rattle.ttm_base.specs.RangeChoice.{Fit, fit_in, start_to_test, best_fit, fitting_hole, range_choice}
use Rattle.ttm_base.specs.BuddyChoice.{Candidate, candidate, log2, order_of, first_candidate, taken_after, scattered, contiguous, buddy_choice}
use Rattle.journal_model.specs.declared.script.Script.{Script}
use Rattle.journal_model.specs.declared.state.Core.{Core}
use Rattle.journal_model.specs.rules.Commands.{decl}
use Rattle.journal_model.specs.rules.Holds.{size_of, is_free_page}
use Rattle.journal_model.specs.rules.Choice.{choice, choice_in, range_at, blocks_at, reach_of}
use Rattle.laws.proofs.law_owners.Choices.{Each, least_is, first_is, last_is, each_given}
use Rattle.laws.proofs.law_owners.Blocks.{IsBlock, chosen_is_block}
use Rattle.laws.specs.law_transparent.OwnPages.{HaveAPage}

abbrev HasAPage : Span → Type 0
HasAPage s = s.start < s.end

pub no_spans : HaveAPage []
no_spans i s e = cc

pub more_spans : (s : Span) (spans : List Span) → HasAPage s → HaveAPage spans → HaveAPage (s ∷ spans)
more_spans s spans h k zero t e = let same : s ≡ t = cc in subst HasAPage same h
more_spans s spans h k (suc i) t e = k i t e

one_span : (s : Span) → HasAPage s → HaveAPage (s ∷ [])
one_span s h = more_spans s [] h no_spans

-- ---- a range

fit_has_page : (mode : Mode) (pages align : ℕ) (range hole : Span) (fit : Fit) → fit_in mode pages align range hole ≡ Some fit → HasAPage fit.taken
fit_has_page mode pages align range hole fit e =
    by (start_to_test mode pages align (common hole range))
    (nat_le (common hole range).start (start_to_test mode pages align (common hole range))) (nat_le (start_to_test mode pages align (common hole range) + pages) (common hole range).end)
    (nat_lt 0 pages) refl e
  where
    by : (start : ℕ) (a b q : Bool) → nat_lt 0 pages ≡ q → (if q && a && b then Some (record { hole = hole; taken = record { start = start; end = start + pages } }) else None) ≡ Some fit → HasAPage fit.taken
    by start true true true f g =
        let same : (record { hole = hole; taken = record { start = start; end = start + pages } }) ≡ fit = cc in
        let some : 0 < pages = ltb-true 0 pages f in
        subst (λ (x : Fit). HasAPage x.taken) same (omega (arith, some))
    by start true false true f g = cc
    by start false b true f g = cc
    by start a b false f g = cc

best_is : (P : Fit → Type 0) (mode : Mode) (fits : List Fit) (fit : Fit) → Each P fits → best_fit mode fits ≡ Some fit → P fit
best_is P Best fits fit h e = least_is P (λ f. length_of f.hole) fits fit h e
best_is P Low fits fit h e = first_is P fits 0 fit h e
best_is P High fits fit h e = last_is P fits fit h e

each_any : {X : Type 0} (xs : List X) → Each (λ x. Unit {0}) xs
each_any [] = tt
each_any (x ∷ xs) = (tt, each_any xs)

range_has_page : (mode : Mode) (hs : List Span) (pages align : ℕ) (range span : Span) → range_choice mode hs pages align range ≡ Some span → HasAPage span
range_has_page mode hs pages align range span e =
    by (fitting_hole mode hs pages align range)
    (λ fit g. best_is (λ fit. HasAPage fit.taken) mode (filter_map (fit_in mode pages align range) hs) fit
    (each_given (λ x. Unit {0}) (λ fit. HasAPage fit.taken) (fit_in mode pages align range) (λ x y u h. fit_has_page mode pages align range x y h) hs (each_any hs)) g)
    e
  where
    by : (o : Option Fit) → ((fit : Fit) → o ≡ Some fit → HasAPage fit.taken) → option_map (λ f. f.taken) o ≡ Some span → HasAPage span
    by None k g = cc
    by (Some fit) k g = let same : fit.taken ≡ span = cc in subst HasAPage same (k fit refl)

range_spans : (script : Script) (c : Core) (b : BufId) (place : Place) (spans : List Span) → range_at script c b place ≡ Some spans → HaveAPage spans
range_spans script c b place spans e =
    by (range_choice (if place.topdown then High else Best) (holes (is_free_page place.mem c) (size_of script place.mem)) (decl script b).pages (decl script b).align (reach_of script place)) refl e
  where
    by : (o : Option Span) → range_choice (if place.topdown then High else Best) (holes (is_free_page place.mem c) (size_of script place.mem)) (decl script b).pages (decl script b).align (reach_of script place) ≡ o
        → option_map (λ span. span ∷ []) o ≡ Some spans → HaveAPage spans
    by None q g = cc
    by (Some span) q g =
        let same : span ∷ [] ≡ spans = cc in
        subst HaveAPage same (one_span span (range_has_page (if place.topdown then High else Best) (holes (is_free_page place.mem c) (size_of script place.mem)) (decl script b).pages (decl script b).align (reach_of script place) span q))

-- ---- blocks

block_has_page : (f : ℕ → Bool) (size k : ℕ) (c : Candidate) → IsBlock f size k c → HasAPage c.block
block_has_page f size k c is = let long = is.long in let some = pow_pos k in omega (arith, long, some)

first_has_page : (f : ℕ → Bool) (size : ℕ) (range : Span) (topdown : Bool) (n : ℕ) (c : Candidate) → first_candidate (candidate f size range topdown) n ≡ Some c → HasAPage c.block
first_has_page f size range topdown zero c e = cc
first_has_page f size range topdown (suc k) c e = by (candidate f size range topdown k) refl (first_has_page f size range topdown k c) e
  where
    by : (o : Option Candidate) → candidate f size range topdown k ≡ o → (first_candidate (candidate f size range topdown) k ≡ Some c → HasAPage c.block) →
        (elim o as (λ o. Option Candidate) [ Some d ↦ Some d | None ↦ first_candidate (candidate f size range topdown) k ]) ≡ Some c → HasAPage c.block
    by None q rest g = rest g
    by (Some d) q rest g = let same : d ≡ c = cc in block_has_page f size k c (chosen_is_block f size range topdown k c (subst (λ d. candidate f size range topdown k ≡ Some d) same q))

scattered_spans : (fuel : ℕ) (f : ℕ → Bool) (size : ℕ) (range : Span) (topdown : Bool) (left : ℕ) (spans : List Span) → scattered fuel f size range topdown left ≡ Some spans → HaveAPage spans
scattered_spans fuel f size range topdown zero spans e = let same : [] ≡ spans = cc in subst HaveAPage same no_spans
scattered_spans zero f size range topdown (suc left) spans e = cc
scattered_spans (suc fuel) f size range topdown (suc left) spans e =
    by (first_candidate (candidate f size range topdown) (log2 (suc left) + 1))
    (λ c g. first_has_page f size range topdown (log2 (suc left) + 1) c g)
    (λ c. scattered_spans fuel (λ page. f page && not (has_page page c.block)) size range topdown (suc left - (c.block.end - c.block.start)))
    e
  where
    onto : (c : Candidate) (o : Option (List Span)) → HasAPage c.block → ((rest : List Span) → o ≡ Some rest → HaveAPage rest) → taken_after o c.block ≡ Some spans → HaveAPage spans
    onto c None l k g = cc
    onto c (Some rest) l k g = let same : c.block ∷ rest ≡ spans = cc in subst HaveAPage same (more_spans c.block rest l (k rest refl))

    by : (o : Option Candidate) → ((c : Candidate) → o ≡ Some c → HasAPage c.block)
        → ((c : Candidate) (rest : List Span) → scattered fuel (λ page. f page && not (has_page page c.block)) size range topdown (suc left - (c.block.end - c.block.start)) ≡ Some rest → HaveAPage rest)
        → (elim o as (λ o. Option (List Span)) [
          | None ↦ None
          | Some c ↦ taken_after (scattered fuel (λ page. f page && not (has_page page c.block)) size range topdown (suc left - (c.block.end - c.block.start))) c.block
        ]) ≡ Some spans → HaveAPage spans
    by None h k g = cc
    by (Some c) h k g = onto c (scattered fuel (λ page. f page && not (has_page page c.block)) size range topdown (suc left - (c.block.end - c.block.start))) (h c refl) (k c) g

contiguous_spans : (f : ℕ → Bool) (size : ℕ) (range : Span) (topdown : Bool) (pages : ℕ) (spans : List Span) → 0 < pages → contiguous f size range topdown pages ≡ Some spans → HaveAPage spans
contiguous_spans f size range topdown pages spans some e = by (candidate f size range topdown (order_of pages)) e
  where
    by : (o : Option Candidate) → option_map (λ c. record { start = c.block.start; end = c.block.start + pages } ∷ []) o ≡ Some spans → HaveAPage spans
    by None g = cc
    by (Some c) g =
        let same : (record { start = c.block.start; end = c.block.start + pages }) ∷ [] ≡ spans = cc in
        subst HaveAPage same (one_span (record { start = c.block.start; end = c.block.start + pages }) (omega (arith, some)))

buddy_spans : (f : ℕ → Bool) (size : ℕ) (range : Span) (topdown contig : Bool) (pages : ℕ) (spans : List Span) → 0 < pages → buddy_choice f size range topdown contig pages ≡ Some spans → HaveAPage spans
buddy_spans f size range topdown true pages spans some e = contiguous_spans f size range topdown pages spans some e
buddy_spans f size range topdown false pages spans some e = scattered_spans pages f size range topdown pages spans e

spans_of : (script : Script) (c : Core) (b : BufId) (place : Place) (mem : Mem) (spans : List Span) → 0 < (decl script b).pages → choice_in mem script c b place ≡ Some spans → HaveAPage spans
spans_of script c b place System spans some e = let same : [] ≡ spans = cc in subst HaveAPage same no_spans
spans_of script c b place Tt spans some e = range_spans script c b place spans e
spans_of script c b place Vram spans some e = by script.sizes.buddy e
  where
    by : (q : Bool) → (elim q as (λ q. Option (List Span)) [ true ↦ blocks_at script c b place | false ↦ range_at script c b place ]) ≡ Some spans → HaveAPage spans
    by true g = buddy_spans (is_free_page place.mem c) (size_of script place.mem) (reach_of script place) place.topdown place.contig (decl script b).pages spans some g
    by false g = range_spans script c b place spans g

pub choice_spans : (script : Script) (c : Core) (b : BufId) (place : Place) (spans : List Span) → 0 < (decl script b).pages → choice script c b place ≡ Some spans → HaveAPage spans
choice_spans script c b place spans some e = spans_of script c b place place.mem spans some e
