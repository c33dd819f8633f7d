-- Blocks that are chosen have free pages alone, and no page twice.
use Rattle.std.proofs.Common.{◌≡◌, ℕ, ◌+◌, ◌-◌, ◌^◌, ◌<◌, ◌≤◌, zero, suc, Bool, true, false, List, [], ◌∷◌, Option, Some, None, refl, sym, ◌∙◌, subst, arith, ◌⊎◌, inl, inr, ⊎_elim}
use Rattle.std.specs.Prelude.{◌&&◌, not, nat_lt, nat_le, filter_map, option_map, if◌then◌else◌}
use Rattle.std.specs.List.{list_all}
use Rattle.std.proofs.lemmas.Bool.{leb-true, ltb-true, and_parts, cases_order}
use Rattle.std.proofs.lemmas.Bool.Decides.{nat_tests}
use Rattle.ttm_base.specs.declared.Span.{Span}
use Rattle.ttm_base.specs.ListWords.{count_from}
use Rattle.ttm_base.specs.Reach.{is_inside}
use Rattle.ttm_base.specs.Holes.{has_page}
use Rattle.ttm_base.specs.BlockStarts.{starts_of, candidate_at}
use Rattle.ttm_base.proofs.OrderLaws.{order_suffices}
use Rattle.ttm_base.proofs.StartLaws.{candidate_by_start}
use Rattle.ttm_base.specs.BuddyChoice.{Candidate, block_around, is_free_block, candidate_of, candidate, first_candidate, log2, order_of, taken_after, scattered, contiguous, buddy_choice}
use Rattle.laws.proofs.law_owners.Counts.{one, stands, stands-cons}
use Rattle.laws.proofs.law_owners.Choices.{Each, IsClear, least_is, each_given, part_is_clear}

-- each page of the list is free
each_free : (f : ℕ → Bool) (len start p : ℕ) → list_all f (count_from 1 len start) ≡ true → start ≤ p → p < start + len → f p ≡ true
each_free f zero start p h a b = absurd (omega (arith, a, b))
each_free f (suc len) start p h a b =
    let parts = and_parts (f start) (list_all f (count_from 1 len (1 + start))) h in
    ⊎_elim
    (λ same. subst (λ q. f q ≡ true) same parts.0)
    (λ above. each_free f len (1 + start) p parts.1 (omega (arith, above)) (omega (arith, b)))
    (here start p a)
  where
    here : (m n : ℕ) → m ≤ n → (m ≡ n) ⊎ (m < n)
    here m n l = ⊎_elim (λ e. inl e) (λ o. ⊎_elim (λ k. inr k) (λ k. absurd (omega (arith, k, l))) o) (cases_order m n)

free_block_is_clear : (f : ℕ → Bool) (size : ℕ) (block : Span) → is_free_block f size block ≡ true → IsClear f size block
free_block_is_clear f size block h p a b =
    let parts = and_parts (nat_le block.end size) (list_all f (count_from 1 (block.end - block.start) block.start)) h in
    let low = leb-true block.end size parts.0 in
    (each_free f (block.end - block.start) block.start p parts.1 a (omega (arith, a, b)), omega (arith, b, low))

-- a clear block of its order
pub record IsBlock (f : ℕ → Bool) (size k : ℕ) (c : Candidate) : Type 0 where
  pub clear : IsClear f size c.block
  pub long : c.block.end ≡ c.block.start + 2 ^ k

candidate_is_block : (f : ℕ → Bool) (size : ℕ) (range : Span) (k start : ℕ) (c : Candidate) → candidate_at f size range k start ≡ Some c → IsBlock f size k c
candidate_is_block f size range k start c e = by (is_inside range (block_around k start) && is_free_block f size (block_around k start)) refl e
  where
    by : (q : Bool) → (is_inside range (block_around k start) && is_free_block f size (block_around k start)) ≡ q →
        (if q then Some (candidate_of f size k (block_around k start)) else None) ≡ Some c → IsBlock f size k c
    by true t g =
        let parts = and_parts (is_inside range (block_around k start)) (is_free_block f size (block_around k start)) t in
        let same : candidate_of f size k (block_around k start) ≡ c = cc in
        subst (IsBlock f size k) same (record { clear = free_block_is_clear f size (block_around k start) parts.1; long = refl })
    by false t g = cc

-- nothing is asked of each
each_any : {X : Type 0} (xs : List X) → Each (λ x. Unit {0}) xs
each_any [] = tt
each_any (x ∷ xs) = (tt, each_any xs)

pub chosen_is_block : (f : ℕ → Bool) (size : ℕ) (range : Span) (topdown : Bool) (k : ℕ) (c : Candidate) → candidate f size range topdown k ≡ Some c → IsBlock f size k c
chosen_is_block f size range topdown k c e =
    let starts : List ℕ = starts_of topdown k size in
    least_is (IsBlock f size k) (λ c. c.whole) (filter_map (candidate_at f size range k) starts) c
    (each_given (λ x. Unit {0}) (IsBlock f size k) (candidate_at f size range k) (λ x y u g. candidate_is_block f size range k x y g) starts (each_any starts))
    (sym (candidate_by_start f size range k topdown) ∙ e)

first_is_clear : (f : ℕ → Bool) (size : ℕ) (at : ℕ → Option Candidate) → ((k : ℕ) (c : Candidate) → at k ≡ Some c → IsClear f size c.block) → (n : ℕ) (c : Candidate) → first_candidate at n ≡ Some c → IsClear f size c.block
first_is_clear f size at h zero c e = cc
first_is_clear f size at h (suc k) c e = by (at k) refl (first_is_clear f size at h k c) e
  where
    by : (o : Option Candidate) → at k ≡ o → (first_candidate at k ≡ Some c → IsClear f size c.block) → (elim o as (λ o. Option Candidate) [ Some d ↦ Some d | None ↦ first_candidate at k ]) ≡ Some c → IsClear f size c.block
    by None q rest g = rest g
    by (Some d) q rest g = let same : d ≡ c = cc in h k c (subst (λ d. at k ≡ Some d) same q)

-- ---- block after block

-- free pages below the size alone, none of them twice
abbrev pub AreClear : (ℕ → Bool) → ℕ → List Span → Type 0
AreClear f size spans = (n : ℕ) → stands n spans ≤ one (nat_lt n size && f n)

-- a page of a clear span is free and there
clear_page : (f : ℕ → Bool) (size : ℕ) (s : Span) (n : ℕ) → IsClear f size s → one (has_page n s) ≤ one (nat_lt n size && f n)
clear_page f size s n h = by (has_page n s) refl
  where
    by : (q : Bool) → has_page n s ≡ q → one q ≤ one (nat_lt n size && f n)
    by false e = omega arith
    by true e =
        let parts = and_parts (nat_le s.start n) (nat_lt n s.end) e in
        let k = h n (leb-true s.start n parts.0) (ltb-true n s.end parts.1) in
        is n size (f n) k.1 k.0
      where
        is : (n size : ℕ) (q : Bool) → n < size → q ≡ true → 1 ≤ one (nat_lt n size && q)
        is n size q l e = grind (arith, nat_tests)

pub clear_alone : (f : ℕ → Bool) (size : ℕ) (s : Span) → IsClear f size s → AreClear f size (s ∷ [])
clear_alone f size s h n = let first = stands-cons n s [] in let page = clear_page f size s n h in omega (arith, first, page)

none_clear : (f : ℕ → Bool) (size : ℕ) → AreClear f size []
none_clear f size n = omega arith

-- after a block others that don't have its pages
block_first : (f : ℕ → Bool) (size : ℕ) (s : Span) (rest : List Span) → IsClear f size s → AreClear (λ page. f page && not (has_page page s)) size rest → AreClear f size (s ∷ rest)
block_first f size s rest h k n =
    let first = stands-cons n s rest in
    let page = clear_page f size s n h in
    let more = k n in
    let apart = both (nat_lt n size) (f n) (has_page n s) page in
    omega (arith, first, more, apart)
  where
    both : (there free here : Bool) → one here ≤ one (there && free) → one here + one (there && (free && not here)) ≤ one (there && free)
    both true true true l = omega arith
    both true true false l = omega arith
    both true false true l = omega (arith, l)
    both true false false l = omega arith
    both false free true l = omega (arith, l)
    both false free false l = omega arith

pub scattered_are_clear : (fuel : ℕ) (f : ℕ → Bool) (size : ℕ) (range : Span) (topdown : Bool) (left : ℕ) (spans : List Span) → scattered fuel f size range topdown left ≡ Some spans → AreClear f size spans
scattered_are_clear fuel f size range topdown zero spans e = let same : [] ≡ spans = cc in subst (AreClear f size) same (none_clear f size)
scattered_are_clear zero f size range topdown (suc left) spans e = cc
scattered_are_clear (suc fuel) f size range topdown (suc left) spans e =
    by (first_candidate (candidate f size range topdown) (log2 (suc left) + 1))
    (λ c g. first_is_clear f size (candidate f size range topdown) (λ k d q. (chosen_is_block f size range topdown k d q).clear) (log2 (suc left) + 1) c g)
    (λ c. scattered_are_clear fuel (λ page. f page && not (has_page page c.block)) size range topdown (suc left - (c.block.end - c.block.start)))
    e
  where
    onto : (c : Candidate) (o : Option (List Span)) → IsClear f size c.block → ((rest : List Span) → o ≡ Some rest → AreClear (λ page. f page && not (has_page page c.block)) size rest) → taken_after o c.block ≡ Some spans → AreClear f size spans
    onto c None h k g = cc
    onto c (Some rest) h k g = let same : c.block ∷ rest ≡ spans = cc in subst (AreClear f size) same (block_first f size c.block rest h (k rest refl))

    by : (o : Option Candidate) → ((c : Candidate) → o ≡ Some c → IsClear f size c.block)
        → ((c : Candidate) (rest : List Span) → scattered fuel (λ page. f page && not (has_page page c.block)) size range topdown (suc left - (c.block.end - c.block.start)) ≡ Some rest → AreClear (λ page. f page && not (has_page page c.block)) size rest)
        → (elim o as (λ o. Option (List Span)) [
          | None ↦ None
          | Some c ↦ taken_after (scattered fuel (λ page. f page && not (has_page page c.block)) size range topdown (suc left - (c.block.end - c.block.start))) c.block
        ]) ≡ Some spans → AreClear f size spans
    by None h k g = cc
    by (Some c) h k g = onto c (scattered fuel (λ page. f page && not (has_page page c.block)) size range topdown (suc left - (c.block.end - c.block.start))) (h c refl) (k c) g

-- ---- one block

contiguous_is_clear : (f : ℕ → Bool) (size : ℕ) (range : Span) (topdown : Bool) (pages : ℕ) (spans : List Span) → contiguous f size range topdown pages ≡ Some spans → AreClear f size spans
contiguous_is_clear f size range topdown pages spans e =
    by (candidate f size range topdown (order_of pages)) (λ c g. chosen_is_block f size range topdown (order_of pages) c g) e
  where
    long : pages ≤ 2 ^ order_of pages
    long = order_suffices pages

    by : (o : Option Candidate) → ((c : Candidate) → o ≡ Some c → IsBlock f size (order_of pages) c) →
        option_map (λ c. record { start = c.block.start; end = c.block.start + pages } ∷ []) o ≡ Some spans → AreClear f size spans
    by None h g = cc
    by (Some c) h g =
        let b = h c refl in
        let ends = b.long in
        let l = long in
        let same : (record { start = c.block.start; end = c.block.start + pages }) ∷ [] ≡ spans = cc in
        subst (AreClear f size) same
        (clear_alone f size (record { start = c.block.start; end = c.block.start + pages })
        (part_is_clear f size c.block (record { start = c.block.start; end = c.block.start + pages }) (omega arith) (omega (arith, ends, l)) b.clear))

pub buddy_is_clear : (f : ℕ → Bool) (size : ℕ) (range : Span) (topdown contig : Bool) (pages : ℕ) (spans : List Span) → buddy_choice f size range topdown contig pages ≡ Some spans → AreClear f size spans
buddy_is_clear f size range topdown true pages spans e = contiguous_is_clear f size range topdown pages spans e
buddy_is_clear f size range topdown false pages spans e = scattered_are_clear pages f size range topdown pages spans e
