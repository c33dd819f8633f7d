-- A choice has as many pages as its buffer is declared with.
use Rattle.std.proofs.Common.{◌≡◌, ℕ, ◌+◌, ◌-◌, ◌<◌, ◌≤◌, ◌^◌, zero, suc, Bool, true, false, List, [], ◌∷◌, ◌++◌, length, Option, Some, None, refl, subst, ◌∙◌, ap, arith}
use Rattle.std.specs.Prelude.{filter_map, option_map, not, nat_lt, nat_le, ◌&&◌, if◌then◌else◌}
use Rattle.std.proofs.Math.Pow.{pow_mono}
use Rattle.ttm_base.specs.declared.Mem.{Mem}
use Rattle.ttm_base.specs.declared.Mem.TheVariants.{System, Tt, Vram}
use Rattle.ttm_base.specs.declared.BufId.{BufId}
use Rattle.ttm_base.specs.declared.Mode.{Mode}
use Rattle.ttm_base.specs.declared.Mode.TheVariants.{Best, Low, High}
use Rattle.ttm_base.specs.declared.Span.{Span}
use Rattle.ttm_base.specs.declared.Place.{Place}
use Rattle.ttm_base.specs.ListWords.{count_from}
use Rattle.ttm_base.specs.Holes.{has_page, holes}
use Rattle.ttm_base.specs.Reach.{common, length_of}
use Rattle.ttm_base.specs.RangeChoice.{Fit, fit_in, start_to_test, best_fit, fitting_hole, range_choice}
use Rattle.ttm_base.proofs.OrderLaws.{log2_fits}
use Rattle.ttm_base.specs.BuddyChoice.{Candidate, candidate, log2, order_of, first_candidate, taken_after, scattered, contiguous, buddy_choice}
use Rattle.journal_model.specs.declared.script.Script.{Script}
use Rattle.journal_model.specs.declared.state.Core.{Core}
use Rattle.journal_model.specs.rules.Commands.{decl}
use Rattle.journal_model.specs.rules.Holds.{size_of, is_free_page}
use Rattle.journal_model.specs.rules.Places.{pages_of, pages_of_span}
use Rattle.journal_model.specs.rules.Choice.{choice, choice_in, range_at, blocks_at, reach_of}
use Rattle.laws.proofs.law_owners.Choices.{Each, least_is, first_is, last_is, each_given}
use Rattle.laws.proofs.law_owners.Blocks.{IsBlock, chosen_is_block}

-- ---- how many pages spans have

length-count : (n start : ℕ) → length (count_from 1 n start) ≡ n
length-count zero start = refl
length-count (suc n) start = ap suc (length-count n (1 + start))

length-append : {X : Type 0} (xs ys : List X) → length (xs ++ ys) ≡ length xs + length ys
length-append [] ys = omega arith
length-append (x ∷ xs) ys = let rest = length-append xs ys in omega (arith, rest)

pub pages-cons : (s : Span) (spans : List Span) → length (pages_of (s ∷ spans)) ≡ (s.end - s.start) + length (pages_of spans)
pages-cons s spans = length-append (pages_of_span s) (pages_of spans) ∙ ap (λ n. n + length (pages_of spans)) (length-count (s.end - s.start) s.start)

one_span : (start n : ℕ) → length (pages_of (record { start = start; end = start + n } ∷ [])) ≡ n
one_span start n = pages-cons (record { start = start; end = start + n }) [] ∙ (let z : ((start + n) - start) + 0 ≡ n = omega arith in z)

-- ---- a range

-- so many pages
abbrev IsLong : ℕ → Span → Type 0
IsLong n s = s.end ≡ s.start + n

fit_is_long : (mode : Mode) (pages align : ℕ) (range hole : Span) (fit : Fit) → fit_in mode pages align range hole ≡ Some fit → IsLong pages fit.taken
fit_is_long mode pages align range hole fit e =
    by (start_to_test mode pages align (common hole range))
    (nat_lt 0 pages && nat_le (common hole range).start (start_to_test mode pages align (common hole range)) && nat_le (start_to_test mode pages align (common hole range) + pages) (common hole range).end) e
  where
    by : (start : ℕ) (q : Bool) → (if q then Some (record { hole = hole; taken = record { start = start; end = start + pages } }) else None) ≡ Some fit → IsLong pages fit.taken
    by start true f = let same : (record { hole = hole; taken = record { start = start; end = start + pages } }) ≡ fit = cc in subst (λ (g : Fit). IsLong pages g.taken) same refl
    by start false f = cc

best_is : (P : Fit → Type 0) (mode : Mode) (fits : List Fit) (fit : Fit) → Each P fits → best_fit mode fits ≡ Some fit → P fit
best_is P Best fits fit h e = least_is P (λ f. length_of f.hole) fits fit h e
best_is P Low fits fit h e = first_is P fits 0 fit h e
best_is P High fits fit h e = last_is P fits fit h e

each_any : {X : Type 0} (xs : List X) → Each (λ x. Unit {0}) xs
each_any [] = tt
each_any (x ∷ xs) = (tt, each_any xs)

range_is_long : (mode : Mode) (hs : List Span) (pages align : ℕ) (range span : Span) → range_choice mode hs pages align range ≡ Some span → IsLong pages span
range_is_long mode hs pages align range span e =
    by (fitting_hole mode hs pages align range)
    (λ fit g. best_is (λ fit. IsLong pages fit.taken) mode (filter_map (fit_in mode pages align range) hs) fit
    (each_given (λ x. Unit {0}) (λ fit. IsLong pages fit.taken) (fit_in mode pages align range) (λ x y u h. fit_is_long mode pages align range x y h) hs (each_any hs)) g)
    e
  where
    by : (o : Option Fit) → ((fit : Fit) → o ≡ Some fit → IsLong pages fit.taken) → option_map (λ f. f.taken) o ≡ Some span → IsLong pages span
    by None k g = cc
    by (Some fit) k g = let same : fit.taken ≡ span = cc in subst (IsLong pages) same (k fit refl)

alone_is_long : (n : ℕ) (span : Span) → IsLong n span → length (pages_of (span ∷ [])) ≡ n
alone_is_long n span h = pages-cons span [] ∙ (let z : (span.end - span.start) + 0 ≡ n = omega (arith, h) in z)

range_pages : (script : Script) (c : Core) (b : BufId) (place : Place) (spans : List Span) → range_at script c b place ≡ Some spans → length (pages_of spans) ≡ (decl script b).pages
range_pages script c b place spans e =
    by (range_choice (if place.topdown then High else Best) (holes (is_free_page place.mem c) (size_of script place.mem)) (decl script b).pages (decl script b).align (reach_of script place)) refl e
  where
    by : (o : Option Span) → range_choice (if place.topdown then High else Best) (holes (is_free_page place.mem c) (size_of script place.mem)) (decl script b).pages (decl script b).align (reach_of script place) ≡ o
        → option_map (λ span. span ∷ []) o ≡ Some spans → length (pages_of spans) ≡ (decl script b).pages
    by None q g = cc
    by (Some span) q g =
        let same : span ∷ [] ≡ spans = cc in
        subst (λ ss. length (pages_of ss) ≡ (decl script b).pages) same
        (alone_is_long (decl script b).pages span
        (range_is_long (if place.topdown then High else Best) (holes (is_free_page place.mem c) (size_of script place.mem)) (decl script b).pages (decl script b).align (reach_of script place) span q))

-- ---- blocks

-- a block of some order below n
record OfOrder (f : ℕ → Bool) (size n : ℕ) (c : Candidate) : Type 0 where
  order : ℕ
  below : order < n
  is : IsBlock f size order c

first_of_order : (f : ℕ → Bool) (size : ℕ) (range : Span) (topdown : Bool) (n : ℕ) (c : Candidate) → first_candidate (candidate f size range topdown) n ≡ Some c → OfOrder f size n c
first_of_order f size range topdown zero c e = cc
first_of_order f size range topdown (suc k) c e = by (candidate f size range topdown k) refl (first_of_order f size range topdown k c) e
  where
    wider : OfOrder f size k c → OfOrder f size (suc k) c
    wider r = let l = r.below in record { order = r.order; below = omega (arith, l); is = r.is }

    by : (o : Option Candidate) → candidate f size range topdown k ≡ o → (first_candidate (candidate f size range topdown) k ≡ Some c → OfOrder f size k c) →
        (elim o as (λ o. Option Candidate) [ Some d ↦ Some d | None ↦ first_candidate (candidate f size range topdown) k ]) ≡ Some c → OfOrder f size (suc k) c
    by None q rest g = wider (rest g)
    by (Some d) q rest g = let same : d ≡ c = cc in record { order = k; below = omega arith; is = chosen_is_block f size range topdown k c (subst (λ d. candidate f size range topdown k ≡ Some d) same q) }

block_fits : (f : ℕ → Bool) (size left : ℕ) (c : Candidate) → OfOrder f size (log2 (suc left) + 1) c → c.block.end - c.block.start ≤ suc left
block_fits f size left c r =
    let l = r.below in
    let e = r.is.long in
    let m : 2 ^ r.order ≤ 2 ^ log2 (suc left) = pow_mono (let z : r.order ≤ log2 (suc left) = omega (arith, l) in z) in
    let k = log2_fits (suc left) (omega arith) in
    omega (arith, e, m, k)

scattered_pages : (fuel : ℕ) (f : ℕ → Bool) (size : ℕ) (range : Span) (topdown : Bool) (left : ℕ) (spans : List Span) → scattered fuel f size range topdown left ≡ Some spans → length (pages_of spans) ≡ left
scattered_pages fuel f size range topdown zero spans e = let same : [] ≡ spans = cc in subst (λ ss. length (pages_of ss) ≡ 0) same refl
scattered_pages zero f size range topdown (suc left) spans e = cc
scattered_pages (suc fuel) f size range topdown (suc left) spans e =
    by (first_candidate (candidate f size range topdown) (log2 (suc left) + 1))
    (λ c g. block_fits f size left c (first_of_order f size range topdown (log2 (suc left) + 1) c g))
    (λ c. scattered_pages fuel (λ page. f page && not (has_page page c.block)) size range topdown (suc left - (c.block.end - c.block.start)))
    e
  where
    onto : (c : Candidate) (o : Option (List Span)) → c.block.end - c.block.start ≤ suc left → ((rest : List Span) → o ≡ Some rest → length (pages_of rest) ≡ suc left - (c.block.end - c.block.start)) → taken_after o c.block ≡ Some spans → length (pages_of spans) ≡ suc left
    onto c None l k g = cc
    onto c (Some rest) l k g =
        let same : c.block ∷ rest ≡ spans = cc in
        let r = k rest refl in
        let first = pages-cons c.block rest in
        subst (λ ss. length (pages_of ss) ≡ suc left) same (omega (arith, r, first, l))

    by : (o : Option Candidate) → ((c : Candidate) → o ≡ Some c → c.block.end - c.block.start ≤ suc left)
        → ((c : Candidate) (rest : List Span) → scattered fuel (λ page. f page && not (has_page page c.block)) size range topdown (suc left - (c.block.end - c.block.start)) ≡ Some rest → length (pages_of rest) ≡ suc left - (c.block.end - c.block.start))
        → (elim o as (λ o. Option (List Span)) [
          | None ↦ None
          | Some c ↦ taken_after (scattered fuel (λ page. f page && not (has_page page c.block)) size range topdown (suc left - (c.block.end - c.block.start))) c.block
        ]) ≡ Some spans → length (pages_of spans) ≡ suc left
    by None h k g = cc
    by (Some c) h k g = onto c (scattered fuel (λ page. f page && not (has_page page c.block)) size range topdown (suc left - (c.block.end - c.block.start))) (h c refl) (k c) g

contiguous_pages : (f : ℕ → Bool) (size : ℕ) (range : Span) (topdown : Bool) (pages : ℕ) (spans : List Span) → contiguous f size range topdown pages ≡ Some spans → length (pages_of spans) ≡ pages
contiguous_pages f size range topdown pages spans e = by (candidate f size range topdown (order_of pages)) e
  where
    by : (o : Option Candidate) → option_map (λ c. record { start = c.block.start; end = c.block.start + pages } ∷ []) o ≡ Some spans → length (pages_of spans) ≡ pages
    by None g = cc
    by (Some c) g =
        let same : (record { start = c.block.start; end = c.block.start + pages }) ∷ [] ≡ spans = cc in
        subst (λ ss. length (pages_of ss) ≡ pages) same (one_span c.block.start pages)

buddy_pages : (f : ℕ → Bool) (size : ℕ) (range : Span) (topdown contig : Bool) (pages : ℕ) (spans : List Span) → buddy_choice f size range topdown contig pages ≡ Some spans → length (pages_of spans) ≡ pages
buddy_pages f size range topdown true pages spans e = contiguous_pages f size range topdown pages spans e
buddy_pages f size range topdown false pages spans e = scattered_pages pages f size range topdown pages spans e

pages_in : (script : Script) (c : Core) (b : BufId) (place : Place) (mem : Mem) (spans : List Span) → (mem ≡ System → ⊥) → choice_in mem script c b place ≡ Some spans → length (pages_of spans) ≡ (decl script b).pages
pages_in script c b place System spans ne e = absurd (ne refl)
pages_in script c b place Tt spans ne e = range_pages script c b place spans e
pages_in script c b place Vram spans ne e = by script.sizes.buddy e
  where
    by : (q : Bool) → (elim q as (λ q. Option (List Span)) [ true ↦ blocks_at script c b place | false ↦ range_at script c b place ]) ≡ Some spans → length (pages_of spans) ≡ (decl script b).pages
    by true g = buddy_pages (is_free_page place.mem c) (size_of script place.mem) (reach_of script place) place.topdown place.contig (decl script b).pages spans g
    by false g = range_pages script c b place spans g

pub choice_pages : (script : Script) (c : Core) (b : BufId) (place : Place) (spans : List Span) → (place.mem ≡ System → ⊥) → choice script c b place ≡ Some spans → length (pages_of spans) ≡ (decl script b).pages
choice_pages script c b place spans ne e = pages_in script c b place place.mem spans ne e
