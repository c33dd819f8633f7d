-- Blocks whose pages are all free or all held: the best candidate so far stays the best after a look at the blocks inside them.
use Rattle.std.proofs.Common.{◌≡◌, ℕ, ◌⊎◌, ◌+◌, ◌-◌, ◌*◌, ◌/◌, ◌^◌, ◌<◌, ◌≤◌, inl, inr, Bool, true, false, List, Option, Some, None, length, refl, ap, sym, ◌∙◌, subst, arith, if◌then◌else◌}
use Rattle.std.specs.Prelude.{◌&&◌, IfNone, IfSome, is_none, nat_le}
use Rattle.std.specs.List.{list_all}
use Rattle.std.proofs.lemmas.Bool.{and_parts, and_from, cases_lt, le-leb}
use Rattle.ttm_base.specs.declared.Span.{Span}
use Rattle.ttm_base.specs.ListWords.{count_from}
use Rattle.ttm_base.specs.Reach.{is_inside}
use Rattle.ttm_base.specs.BuddyChoice.{Candidate, block_around, candidate_of, is_free_block}
use Rattle.ttm_base.specs.BlockStarts.{candidate_at}
use Rattle.rules_choice.specs.Marks.{marked, AreAlike, IsOther}
use Rattle.rules_choice.specs.Least.{best_with}
use Rattle.rules_choice.specs.Settled.{Stays, IsSettled}
use Rattle.rules_choice.proofs.NestLaws.{all_true, each_true, around_same, best_stays, free_from, free_parts, smaller_free}

-- ---- whether a block is free

pub clash : (b : Bool) → b ≡ true → b ≡ false → ⊥
clash b t f = cc

pub all_marked : (marks : List Bool) (start end : ℕ) → start ≤ end → end ≤ length marks → ((page : ℕ) → start ≤ page → page < end → marked marks page ≡ true)
    → is_free_block (marked marks) (length marks) (record { start = start; end = end }) ≡ true
all_marked marks start end l h all = free_here marks start end h (all_true (marked marks) (end - start) start (λ x a b. all x a (omega arith)))
  where
    free_here : (marks : List Bool) (start end : ℕ) → end ≤ length marks → list_all (marked marks) (count_from 1 (end - start) start) ≡ true
        → is_free_block (marked marks) (length marks) (record { start = start; end = end }) ≡ true
    free_here marks start end h all = and_from (nat_le end (length marks)) (list_all (marked marks) (count_from 1 (end - start) start)) (le-leb end (length marks) h) all

pub one_held : (marks : List Bool) (start end page : ℕ) → IsOther marks true start end page → is_free_block (marked marks) (length marks) (record { start = start; end = end }) ≡ false
one_held marks start end page o = by (is_free_block (marked marks) (length marks) (record { start = start; end = end })) refl
  where
    by : (free : Bool) → is_free_block (marked marks) (length marks) (record { start = start; end = end }) ≡ free → is_free_block (marked marks) (length marks) (record { start = start; end = end }) ≡ false
    by false e = e
    by true e =
        let parts = and_parts (nat_le end (length marks)) (list_all (marked marks) (count_from 1 (end - start) start)) e in
        let from = o.from in
        let to = o.to in
        let free = each_true (marked marks) (end - start) start parts.1 page from (omega (arith, from, to)) in
        let held = o.other in
        absurd (clash (marked marks page) free held)

-- a look for a held page tells whether the block is free
pub free_or_other : (marks : List Bool) (start end : ℕ) (found : Option ℕ) → start ≤ end → end ≤ length marks → IfSome found (IsOther marks true start end)
    → IfNone found ((page : ℕ) → start ≤ page → page < end → marked marks page ≡ true)
    → is_none found ≡ is_free_block (marked marks) (length marks) (record { start = start; end = end })
free_or_other marks start end None l h some none = sym (all_marked marks start end l h none)
free_or_other marks start end (Some page) l h some none = sym (one_held marks start end page some)

-- ---- looks that change nothing

no_candidate : (f : ℕ → Bool) (size : ℕ) (range : Span) (k other : ℕ) → is_free_block f size (block_around k other) ≡ false → candidate_at f size range k other ≡ None
no_candidate f size range k other h = by (is_inside range (block_around k other))
  where
    at : Bool → Bool → Option Candidate
    at inside free = if inside && free then Some (candidate_of f size k (block_around k other)) else None

    by : (inside : Bool) → at inside (is_free_block f size (block_around k other)) ≡ None
    by true = ap (at true) h
    by false = refl

pub outside_none : (f : ℕ → Bool) (size : ℕ) (range : Span) (k page : ℕ) → is_inside range (block_around k page) ≡ false → candidate_at f size range k page ≡ None
outside_none f size range k page h = ap (λ (inside : Bool). if inside && is_free_block f size (block_around k page) then Some (candidate_of f size k (block_around k page)) else None) h

none_stays : (marks : List Bool) (range : Span) (k page : ℕ) (best : Option Candidate) → candidate_at (marked marks) (length marks) range k page ≡ None → Stays marks range k best page
none_stays marks range k page best h = ap (best_with (λ c. c.whole) best) (sym h)

pub outside_stays : (marks : List Bool) (range : Span) (k page : ℕ) (best : Option Candidate) → is_inside range (block_around k page) ≡ false → Stays marks range k best page
outside_stays marks range k page best h = none_stays marks range k page best (outside_none (marked marks) (length marks) range k page h)

-- the same block
pub settled_here : (marks : List Bool) (range : Span) (k page : ℕ) (best : Option Candidate) → IsSettled marks range k k page best
settled_here marks range k page best stays other e =
    stays ∙ ap (λ (block : Span). best_with (λ c. c.whole) best (if is_inside range block && is_free_block (marked marks) (length marks) block then Some (candidate_of (marked marks) (length marks) k block) else None))
    (sym (around_same other page k e))

-- held pages
held_block : (marks : List Bool) (k other : ℕ) → marked marks other ≡ false → is_free_block (marked marks) (length marks) (block_around k other) ≡ false
held_block marks k other h = by (is_free_block (marked marks) (length marks) (block_around k other)) refl
  where
    by : (free : Bool) → is_free_block (marked marks) (length marks) (block_around k other) ≡ free → is_free_block (marked marks) (length marks) (block_around k other) ≡ false
    by false e = e
    by true e = let free = (free_parts (marked marks) (length marks) k other e).free other refl in absurd (clash (marked marks other) free h)

pub settled_held : (marks : List Bool) (range : Span) (k whole page : ℕ) (best : Option Candidate) → AreAlike marks whole page → marked marks page ≡ false
    → IsSettled marks range k whole page best
settled_held marks range k whole page best a h stays other e =
    none_stays marks range k other best (no_candidate (marked marks) (length marks) range k other (held_block marks k other (a.same other e ∙ h)))

-- free pages
pub settled_free : (marks : List Bool) (range : Span) (k whole page : ℕ) (least : Candidate) → AreAlike marks whole page → marked marks page ≡ true → least.whole ≤ whole
    → IsSettled marks range k whole page (Some least)
settled_free marks range k whole page least a h l stays other e =
    let end : other / 2 ^ whole * 2 ^ whole + 2 ^ whole ≤ length marks = rw e a.end in
    let free : is_free_block (marked marks) (length marks) (block_around whole other) ≡ true = free_from (marked marks) (length marks) whole other end (λ x s. a.same x (s ∙ e) ∙ h) in
    best_stays (marked marks) (length marks) range k other least (smaller_free (marked marks) (length marks) least.whole whole other l free)

-- either
pub settled_alike : (marks : List Bool) (range : Span) (k whole page : ℕ) (least : Candidate) → k ≤ whole → (k < whole → AreAlike marks whole page) → least.whole ≤ whole
    → IsSettled marks range k whole page (Some least)
settled_alike marks range k whole page least l a w = by-order (cases_lt k whole)
  where
    by-mark : AreAlike marks whole page → (mark : Bool) → marked marks page ≡ mark → IsSettled marks range k whole page (Some least)
    by-mark alike true e = settled_free marks range k whole page least alike e w
    by-mark alike false e = settled_held marks range k whole page (Some least) alike e

    by-order : k < whole ⊎ whole ≤ k → IsSettled marks range k whole page (Some least)
    by-order (inl less) = by-mark (a less) (marked marks page) refl
    by-order (inr same) = let e : k ≡ whole = omega arith in subst (λ w. IsSettled marks range k w page (Some least)) e (settled_here marks range k page (Some least))

pub settled_held_alike : (marks : List Bool) (range : Span) (k whole page : ℕ) (best : Option Candidate) → k ≤ whole → (k < whole → AreAlike marks whole page) → marked marks page ≡ false
    → IsSettled marks range k whole page best
settled_held_alike marks range k whole page best l a h = by-order (cases_lt k whole)
  where
    by-order : k < whole ⊎ whole ≤ k → IsSettled marks range k whole page best
    by-order (inl less) = settled_held marks range k whole page best (a less) h
    by-order (inr same) = let e : k ≡ whole = omega arith in subst (λ w. IsSettled marks range k w page best) e (settled_here marks range k page best)
