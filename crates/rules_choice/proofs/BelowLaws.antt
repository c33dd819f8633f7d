-- The choices ask of no page at or past the size whether it is free.
use Rattle.std.proofs.Common.{◌≡◌, ℕ, zero, suc, ◌+◌, ◌-◌, ◌<◌, ◌≤◌, Bool, true, false, List, [], ◌∷◌, Option, Some, None, refl, ap, sym, ◌∙◌, arith, if◌then◌else◌}
use Rattle.std.specs.Prelude.{◌&&◌, not, nat_le, option_map, filter_map, length}
use Rattle.std.specs.List.{list_all}
use Rattle.std.proofs.lemmas.Grind.{common_steps}
use Rattle.std.proofs.lemmas.Bool.Decides.{nat_tests}
use Rattle.ttm_base.specs.declared.Span.{Span}
use Rattle.ttm_base.specs.ListWords.{least_by, count_from}
use Rattle.ttm_base.specs.Reach.{is_inside}
use Rattle.ttm_base.specs.Holes.{has_page, holes}
use Rattle.ttm_base.specs.BuddyChoice.{Candidate, is_free_block, block_around, free_order, candidate_of, candidate, first_candidate, log2, order_of, taken_after, scattered, contiguous, buddy_choice}
use Rattle.rules_choice.specs.Marks.{marked, IsMarked}
use Rattle.ttm_base.specs.BlockStarts.{starts_of, candidate_at}
use Rattle.ttm_base.proofs.StartLaws.{candidate_by_start}

-- both tests say the same of each page below the size
abbrev pub SameBelow : (ℕ → Bool) → (ℕ → Bool) → ℕ → Type 0
SameBelow f g size = (page : ℕ) → page < size → f page ≡ g page

-- ---- holes

holes-below : (f g : ℕ → Bool) (size : ℕ) → SameBelow f g size → holes f size ≡ holes g size
holes-below f g zero same = refl
holes-below f g (suc n) same =
    let here = same n (omega arith) in
    let below = holes-below f g n (λ page h. same page (omega arith)) in
    grind (arith, common_steps, here, below)

pub holes_below : (f : ℕ → Bool) (size : ℕ) (marks : List Bool) → IsMarked f size marks → holes (marked marks) (length marks) ≡ holes f size
holes_below f size marks m = ap (holes (marked marks)) m.len ∙ holes-below (marked marks) f size m.same

-- ---- blocks

list_all-below : (f g : ℕ → Bool) (size n start : ℕ) → SameBelow f g size → ((page : ℕ) → start ≤ page → page < start + n → page < size)
    → list_all f (count_from 1 n start) ≡ list_all g (count_from 1 n start)
list_all-below f g size zero start same within = refl
list_all-below f g size (suc n) start same within =
    let here = same start (within start (omega arith) (omega arith)) in
    let behind = list_all-below f g size n (1 + start) same (λ page h l. within page (omega arith) (omega arith)) in
    grind (arith, common_steps, here, behind)

is_free_block-below : (f g : ℕ → Bool) (size : ℕ) → SameBelow f g size → is_free_block f size ≡ is_free_block g size
is_free_block-below f g size same = λ i block. at block i where
  inside : (block : Span) (ends : Bool) → nat_le block.end size ≡ ends
      → (ends && list_all f (count_from 1 (block.end - block.start) block.start)) ≡ (ends && list_all g (count_from 1 (block.end - block.start) block.start))
  inside block false e = refl
  inside block true e =
      let end : block.end ≤ size = grind (arith, nat_tests) in
      list_all-below f g size (block.end - block.start) block.start same (λ page h l. omega arith)

  at : (block : Span) → is_free_block f size block ≡ is_free_block g size block
  at block = inside block (nat_le block.end size) refl

free_order-below : (f g : ℕ → Bool) (size : ℕ) → SameBelow f g size → (page k fuel : ℕ) → free_order f size page k fuel ≡ free_order g size page k fuel
free_order-below f g size same page k zero = refl
free_order-below f g size same page k (suc fuel) =
    ap (λ (test : Span → Bool). elim (test (block_around (k + 1) page)) [ true ↦ free_order f size page (k + 1) fuel | false ↦ k ]) (is_free_block-below f g size same)
    ∙ ap (λ (order : ℕ). elim (is_free_block g size (block_around (k + 1) page)) [ true ↦ order | false ↦ k ]) (free_order-below f g size same page (k + 1) fuel)

candidate_at-below : (f g : ℕ → Bool) (size : ℕ) → SameBelow f g size → (range : Span) (k : ℕ) → candidate_at f size range k ≡ candidate_at g size range k
candidate_at-below f g size same range k = λ i start. at start i where
  at : (start : ℕ) → candidate_at f size range k start ≡ candidate_at g size range k start
  at start =
      let block = block_around k start in
      ap (λ (test : Span → Bool). if is_inside range block && test block then Some (candidate_of f size k block) else None)
      (is_free_block-below f g size same)
      ∙ ap (λ (order : ℕ). if is_inside range block && is_free_block g size block then Some (record { block = block; whole = order }) else None)
      (free_order-below f g size same block.start k (log2 size))

candidate-below : (f g : ℕ → Bool) (size : ℕ) → SameBelow f g size → (range : Span) (topdown : Bool) → candidate f size range topdown ≡ candidate g size range topdown
candidate-below f g size same range topdown = λ i k. at k i where
  at : (k : ℕ) → candidate f size range topdown k ≡ candidate g size range topdown k
  at k =
      candidate_by_start f size range k topdown
      ∙ ap (λ (test : ℕ → Option Candidate). least_by (λ c. c.whole) (filter_map test (starts_of topdown k size))) (candidate_at-below f g size same range k)
      ∙ sym (candidate_by_start g size range k topdown)

scattered-below : (fuel : ℕ) (f g : ℕ → Bool) (size : ℕ) → SameBelow f g size → (range : Span) (topdown : Bool) (left : ℕ)
    → scattered fuel f size range topdown left ≡ scattered fuel g size range topdown left
scattered-below zero f g size same range topdown zero = refl
scattered-below zero f g size same range topdown (suc left) = refl
scattered-below (suc fuel) f g size same range topdown zero = refl
scattered-below (suc fuel) f g size same range topdown (suc left) =
    let after : (ℕ → Bool) → Candidate → Option (List Span)
    = λ is_free c. taken_after (scattered fuel (λ page. is_free page && not (has_page page c.block)) size range topdown (suc left - (c.block.end - c.block.start))) c.block
    in
    let rest : (c : Candidate) → after f c ≡ after g c
    = λ c. ap (λ (spans : Option (List Span)). taken_after spans c.block)
    (scattered-below fuel (λ page. f page && not (has_page page c.block)) (λ page. g page && not (has_page page c.block)) size
    (λ page h. ap (λ b. b && not (has_page page c.block)) (same page h))
    range topdown (suc left - (c.block.end - c.block.start)))
    in
    ap (λ (at : ℕ → Option Candidate). elim (first_candidate at (log2 (suc left) + 1)) as (λ o. Option (List Span)) [ None ↦ None | Some c ↦ after f c ])
    (candidate-below f g size same range topdown)
    ∙ ap (λ (more : Candidate → Option (List Span)). elim (first_candidate (candidate g size range topdown) (log2 (suc left) + 1)) as (λ o. Option (List Span)) [ None ↦ None | Some c ↦ more c ])
    (λ i c. rest c i)

contiguous-below : (f g : ℕ → Bool) (size : ℕ) → SameBelow f g size → (range : Span) (topdown : Bool) (pages : ℕ)
    → contiguous f size range topdown pages ≡ contiguous g size range topdown pages
contiguous-below f g size same range topdown pages =
    ap (λ (at : ℕ → Option Candidate). option_map (λ c. record { start = c.block.start; end = c.block.start + pages } ∷ []) (at (order_of pages)))
    (candidate-below f g size same range topdown)

buddy_choice-below : (f g : ℕ → Bool) (size : ℕ) → SameBelow f g size → (range : Span) (topdown contig : Bool) (pages : ℕ)
    → buddy_choice f size range topdown contig pages ≡ buddy_choice g size range topdown contig pages
buddy_choice-below f g size same range topdown true pages = contiguous-below f g size same range topdown pages
buddy_choice-below f g size same range topdown false pages = scattered-below pages f g size same range topdown pages

pub buddy_choice_below : (f : ℕ → Bool) (size : ℕ) (marks : List Bool) (range : Span) (topdown contig : Bool) (pages : ℕ) → IsMarked f size marks
    → buddy_choice (marked marks) (length marks) range topdown contig pages ≡ buddy_choice f size range topdown contig pages
buddy_choice_below f size marks range topdown contig pages m =
    ap (λ (n : ℕ). buddy_choice (marked marks) n range topdown contig pages) m.len ∙ buddy_choice-below (marked marks) f size m.same range topdown contig pages
