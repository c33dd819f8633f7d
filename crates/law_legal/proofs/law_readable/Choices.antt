-- The spans of a choice have pages, and end within the size.
use Rattle.std.proofs.Common.{◌≡◌, ℕ, ◌+◌, ◌-◌, ◌<◌, ◌≤◌, ◌^◌, zero, suc, Bool, true, false, List, [], ◌∷◌, Option, Some, None, refl, subst, arith}
use Rattle.std.specs.Prelude.{filter_map, option_map, not, nat_lt, nat_le, ◌&&◌, if◌then◌else◌}
use Rattle.std.specs.List.{list_all}
use Rattle.std.proofs.lemmas.Bool.{lt-ltb, ltb-true, and_parts}
use Rattle.std.proofs.lemmas.Bool.Decides.{nat_tests}
use Rattle.std.proofs.Math.Pow.{pow_mono}
use Rattle.ttm_base.specs.declared.Mem.{Mem}
use Rattle.ttm_base.specs.declared.Mem.TheVariants.{System, Tt, Vram}
use Rattle.ttm_base.specs.declared.BufId.{BufId}
use Rattle.ttm_base.specs.declared.Mode.{Mode}
use Rattle.ttm_base.specs.declared.Mode.TheVariants.{Best, Low, High}
use Rattle.ttm_base.specs.declared.Span.{Span}
use Rattle.ttm_base.specs.declared.Place.{Place}
use Rattle.ttm_base.specs.Holes.{has_page, holes}
use Rattle.ttm_base.specs.Reach.{common, length_of}
use Rattle.ttm_base.specs.RangeChoice.{Fit, fit_in, start_to_test, best_fit, fitting_hole, range_choice}
use Rattle.ttm_base.specs.BuddyChoice.{Candidate, candidate, first_candidate, taken_after, scattered, contiguous, buddy_choice}
use Rattle.journal_model.specs.declared.script.Script.{Script}
use Rattle.journal_model.specs.declared.state.Core.{Core}
use Rattle.journal_model.specs.rules.Commands.{decl}
use Rattle.journal_model.specs.rules.Holds.{size_of, is_free_page}
use Rattle.journal_model.specs.rules.Choice.{choice, choice_in, range_at, blocks_at, reach_of}
use Rattle.journal_model.specs.scripts.Readable.{is_span}
use Rattle.laws.proofs.law_state.Rules.{Rules}
use Rattle.laws.proofs.law_owners.Counts.{one, stands, stands-cons}
use Rattle.laws.proofs.law_owners.Choices.{Each, least_is, first_is, last_is, each_given}
use Rattle.laws.proofs.law_owners.Blocks.{AreClear, chosen_is_block}
use Rattle.laws.proofs.law_owners.Taken.{choice_is_clear}
use Rattle.law_legal.proofs.law_readable.Tests.{joint, u32}

abbrev pub has_pages : Span → Bool
has_pages s = nat_lt s.start s.end

-- ---- a range

fit_has_pages : (mode : Mode) (pages align : ℕ) (range hole : Span) (fit : Fit) → fit_in mode pages align range hole ≡ Some fit → has_pages fit.taken ≡ true
fit_has_pages mode pages align range hole fit e =
    by (start_to_test mode pages align (common hole range))
    (nat_le (common hole range).start (start_to_test mode pages align (common hole range))) (nat_le (start_to_test mode pages align (common hole range) + pages) (common hole range).end)
    (nat_lt 0 pages) refl e
  where
    by : (start : ℕ) (p r q : Bool) → nat_lt 0 pages ≡ q → (if q && p && r then Some (record { hole = hole; taken = record { start = start; end = start + pages } }) else None) ≡ Some fit → has_pages fit.taken ≡ true
    by start true true true l f =
        let same : (record { hole = hole; taken = record { start = start; end = start + pages } }) ≡ fit = cc in
        let some = ltb-true 0 pages l in
        subst (λ (g : Fit). has_pages g.taken ≡ true) same (lt-ltb start (start + pages) (omega (arith, some)))
    by start true true false l f = cc
    by start true false true l f = cc
    by start true false false l f = cc
    by start false r true l f = cc
    by start false r false l f = cc

abbrev Whole : Fit → Type 0
Whole fit = has_pages fit.taken ≡ true

best_is : (mode : Mode) (fits : List Fit) (fit : Fit) → Each Whole fits → best_fit mode fits ≡ Some fit → Whole fit
best_is Best fits fit h e = least_is Whole (λ f. length_of f.hole) fits fit h e
best_is Low fits fit h e = first_is Whole fits 0 fit h e
best_is High fits fit h e = last_is Whole fits fit h e

each_any : {X : Type 0} (xs : List X) → Each (λ x. Unit {0}) xs
each_any [] = tt
each_any (x ∷ xs) = (tt, each_any xs)

range_has_pages : (mode : Mode) (hs : List Span) (pages align : ℕ) (range span : Span) → range_choice mode hs pages align range ≡ Some span → has_pages span ≡ true
range_has_pages mode hs pages align range span e =
    by (fitting_hole mode hs pages align range)
    (λ fit g. best_is mode (filter_map (fit_in mode pages align range) hs) fit
    (each_given (λ x. Unit {0}) Whole (fit_in mode pages align range) (λ x y u h. fit_has_pages mode pages align range x y h) hs (each_any hs)) g)
    e
  where
    by : (o : Option Fit) → ((fit : Fit) → o ≡ Some fit → Whole fit) → option_map (λ f. f.taken) o ≡ Some span → has_pages span ≡ true
    by None k g = cc
    by (Some fit) k g = let same : fit.taken ≡ span = cc in subst (λ s. has_pages s ≡ true) same (k fit refl)

range_spans : (script : Script) (c : Core) (b : BufId) (place : Place) (spans : List Span) → range_at script c b place ≡ Some spans → list_all has_pages spans ≡ true
range_spans script c b place spans e =
    by (range_choice (if place.topdown then High else Best) (holes (is_free_page place.mem c) (size_of script place.mem)) (decl script b).pages (decl script b).align (reach_of script place))
    (λ s q. range_has_pages (if place.topdown then High else Best) (holes (is_free_page place.mem c) (size_of script place.mem)) (decl script b).pages (decl script b).align (reach_of script place) s q)
    e
  where
    by : (o : Option Span) → ((s : Span) → o ≡ Some s → has_pages s ≡ true) → option_map (λ span. span ∷ []) o ≡ Some spans → list_all has_pages spans ≡ true
    by None q g = cc
    by (Some span) q g = let same : span ∷ [] ≡ spans = cc in subst (λ ss. list_all has_pages ss ≡ true) same (joint (has_pages span) true (q span refl) refl)

-- ---- blocks

block_has_pages : (f : ℕ → Bool) (size : ℕ) (range : Span) (topdown : Bool) (k : ℕ) (c : Candidate) → candidate f size range topdown k ≡ Some c → has_pages c.block ≡ true
block_has_pages f size range topdown k c e =
    let long = (chosen_is_block f size range topdown k c e).long in
    let some : 2 ^ 0 ≤ 2 ^ k = pow_mono (let z : 0 ≤ k = omega arith in z) in
    let one : 1 ≤ 2 ^ k = some in
    lt-ltb c.block.start c.block.end (omega (arith, long, one))

first_has_pages : (at : ℕ → Option Candidate) → ((k : ℕ) (c : Candidate) → at k ≡ Some c → has_pages c.block ≡ true) → (n : ℕ) (c : Candidate) → first_candidate at n ≡ Some c → has_pages c.block ≡ true
first_has_pages at h zero c e = cc
first_has_pages at h (suc k) c e = by (at k) (h k) (first_has_pages at h k c) e
  where
    by : (o : Option Candidate) → ((d : Candidate) → o ≡ Some d → has_pages d.block ≡ true) → (first_candidate at k ≡ Some c → has_pages c.block ≡ true) → (elim o as (λ o. Option Candidate) [ Some d ↦ Some d | None ↦ first_candidate at k ]) ≡ Some c → has_pages c.block ≡ true
    by None q rest g = rest g
    by (Some d) q rest g = let same : d ≡ c = cc in subst (λ (c : Candidate). has_pages c.block ≡ true) same (q d refl)

scattered_spans : (fuel : ℕ) (f : ℕ → Bool) (size : ℕ) (range : Span) (topdown : Bool) (left : ℕ) (spans : List Span) → scattered fuel f size range topdown left ≡ Some spans → list_all has_pages spans ≡ true
scattered_spans fuel f size range topdown zero spans e = let same : [] ≡ spans = cc in subst (λ ss. list_all has_pages ss ≡ true) same refl
scattered_spans zero f size range topdown (suc left) spans e = cc
scattered_spans (suc fuel) f size range topdown (suc left) spans e =
    by _ (λ c g. first_has_pages (candidate f size range topdown) (block_has_pages f size range topdown) _ c g)
    (λ c. scattered_spans fuel (λ page. f page && not (has_page page c.block)) size range topdown (suc left - (c.block.end - c.block.start)))
    e
  where
    onto : (c : Candidate) (o : Option (List Span)) → has_pages c.block ≡ true → ((rest : List Span) → o ≡ Some rest → list_all has_pages rest ≡ true) → taken_after o c.block ≡ Some spans → list_all has_pages spans ≡ true
    onto c None h k g = cc
    onto c (Some rest) h k g = let same : c.block ∷ rest ≡ spans = cc in subst (λ ss. list_all has_pages ss ≡ true) same (joint (has_pages c.block) (list_all has_pages rest) h (k rest refl))

    by : (o : Option Candidate) → ((c : Candidate) → o ≡ Some c → has_pages c.block ≡ true)
        → ((c : Candidate) (rest : List Span) → scattered fuel (λ page. f page && not (has_page page c.block)) size range topdown (suc left - (c.block.end - c.block.start)) ≡ Some rest → list_all has_pages rest ≡ true)
        → (elim o as (λ o. Option (List Span)) [
          | None ↦ None
          | Some c ↦ taken_after (scattered fuel (λ page. f page && not (has_page page c.block)) size range topdown (suc left - (c.block.end - c.block.start))) c.block
        ]) ≡ Some spans → list_all has_pages spans ≡ true
    by None h k g = cc
    by (Some c) h k g = onto c (scattered fuel (λ page. f page && not (has_page page c.block)) size range topdown (suc left - (c.block.end - c.block.start))) (h c refl) (k c) g

contiguous_spans : (f : ℕ → Bool) (size : ℕ) (range : Span) (topdown : Bool) (pages : ℕ) (spans : List Span) → 0 < pages → contiguous f size range topdown pages ≡ Some spans → list_all has_pages spans ≡ true
contiguous_spans f size range topdown pages spans some e = by _ e
  where
    by : (o : Option Candidate) → option_map (λ c. record { start = c.block.start; end = c.block.start + pages } ∷ []) o ≡ Some spans → list_all has_pages spans ≡ true
    by None g = cc
    by (Some c) g =
        let same : (record { start = c.block.start; end = c.block.start + pages }) ∷ [] ≡ spans = cc in
        subst (λ ss. list_all has_pages ss ≡ true) same (joint (nat_lt c.block.start (c.block.start + pages)) true (lt-ltb c.block.start (c.block.start + pages) (omega (arith, some))) refl)

buddy_spans : (f : ℕ → Bool) (size : ℕ) (range : Span) (topdown contig : Bool) (pages : ℕ) (spans : List Span) → 0 < pages → buddy_choice f size range topdown contig pages ≡ Some spans → list_all has_pages spans ≡ true
buddy_spans f size range topdown true pages spans some e = contiguous_spans f size range topdown pages spans some e
buddy_spans f size range topdown false pages spans some e = scattered_spans pages f size range topdown pages spans e

-- ---- the choice of a place

spans_in : (script : Script) (c : Core) (b : BufId) (place : Place) (mem : Mem) (spans : List Span) → 0 < (decl script b).pages → choice_in mem script c b place ≡ Some spans → list_all has_pages spans ≡ true
spans_in script c b place System spans some e = let same : [] ≡ spans = cc in subst (λ ss. list_all has_pages ss ≡ true) same refl
spans_in script c b place Tt spans some e = range_spans script c b place spans e
spans_in script c b place Vram spans some e = by script.sizes.buddy e
  where
    by : (q : Bool) → (elim q as (λ q. Option (List Span)) [ true ↦ blocks_at script c b place | false ↦ range_at script c b place ]) ≡ Some spans → list_all has_pages spans ≡ true
    by true g = buddy_spans (is_free_page place.mem c) (size_of script place.mem) (reach_of script place) place.topdown place.contig (decl script b).pages spans some g
    by false g = range_spans script c b place spans g

-- spans that have pages, all of them below a size
inside : (f : ℕ → Bool) (size : ℕ) (spans : List Span) → size < 2 ^ 32 → AreClear f size spans → list_all has_pages spans ≡ true → list_all is_span spans ≡ true
inside f size [] few clear h = refl
inside f size (s ∷ ss) few clear h =
    let p = and_parts (has_pages s) (list_all has_pages ss) h in
    let some = ltb-true s.start s.end p.0 in
    let l = last_below some in
    joint (is_span s) (list_all is_span ss) (joint (has_pages s) _ p.0 (u32 s.end (omega (arith, l, few))))
    (inside f size ss few (λ n. let all = clear n in let first = stands-cons n s ss in omega (arith, all, first)) p.1)
  where
    here : (n : ℕ) → s.start ≤ n → n < s.end → one (has_page n s) ≡ 1
    here n a b = grind (arith, nat_tests)

    below : (n m : ℕ) (q : Bool) → 1 + m ≤ one (nat_lt n size && q) → n < size
    below n m true h = grind (arith, nat_tests)
    below n m false h = grind (arith, nat_tests)

    last_below : s.start < s.end → s.end ≤ size
    last_below some =
        let n : ℕ = s.end - 1 in
        let at = here (s.end - 1) (omega (arith, some)) (omega (arith, some)) in
        let all = clear (s.end - 1) in
        let first = stands-cons (s.end - 1) s ss in
        let l = below (s.end - 1) (stands (s.end - 1) ss) (f (s.end - 1)) (omega (arith, at, all, first)) in
        omega (arith, l, some)

pub choice_spans : (script : Script) → Rules script → ((mem : Mem) → size_of script mem < 2 ^ 32) → (c : Core) (b : BufId) (place : Place) (spans : List Span) → 0 < (decl script b).pages → choice script c b place ≡ Some spans → list_all is_span spans ≡ true
choice_spans script r few c b place spans some e =
    inside (is_free_page place.mem c) (size_of script place.mem) spans (few place.mem) (choice_is_clear script r c b place spans e) (spans_in script c b place place.mem spans some e)
