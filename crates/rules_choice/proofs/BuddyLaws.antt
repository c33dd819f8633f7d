-- Orders and blocks of a buddy choice, one step at a time.
use Rattle.std.proofs.Common.{◌≡◌, ℕ, zero, suc, ◌+◌, ◌-◌, ◌^◌, ◌<◌, Bool, true, false, List, [], ◌∷◌, ◌++◌, Option, Some, None, append_assoc, refl, ap, sym, ◌∙◌, arith, if◌then◌else◌}
use Rattle.std.specs.Prelude.{◌&&◌, not, nat_lt, option_map, filter_map}
use Rattle.std.specs.List.{cons_option}
use Rattle.std.proofs.lemmas.Grind.{common_steps}
use Rattle.ttm_base.specs.declared.Span.{Span}
use Rattle.ttm_base.specs.ListWords.{least_by, first_least}
use Rattle.ttm_base.specs.Holes.{has_page}
use Rattle.ttm_base.specs.BuddyChoice.{Candidate, candidate, first_candidate, log2, scattered, taken_after}
use Rattle.ttm_base.specs.BlockStarts.{starts_of, candidate_at}
use Rattle.ttm_base.proofs.StartLaws.{candidate_by_start}

-- ---- block after block

-- no block is left
without_block : (o : Option Candidate) (more : Candidate → Option (List Span)) → o ≡ None
    → ◌≡◌ {A = Option (List Span)} (elim o as (λ o. Option (List Span)) [ None ↦ None | Some c ↦ more c ]) None
without_block None more h = refl
without_block (Some c) more h = cc

-- the first block
with_block : (o : Option Candidate) (more : Candidate → Option (List Span)) (c : Candidate) → o ≡ Some c
    → ◌≡◌ {A = Option (List Span)} (elim o as (λ o. Option (List Span)) [ None ↦ None | Some d ↦ more d ]) (more c)
with_block o more c h = ap (λ (o : Option Candidate). elim o as (λ o. Option (List Span)) [ None ↦ None | Some d ↦ more d ]) h

pub scattered_none : (fuel : ℕ) (f : ℕ → Bool) (size : ℕ) (range : Span) (topdown : Bool) (left : ℕ) → 0 < left
    → first_candidate (candidate f size range topdown) (log2 left + 1) ≡ None → scattered fuel f size range topdown left ≡ None
scattered_none fuel f size range topdown zero some h = absurd (omega arith)
scattered_none zero f size range topdown (suc left) some h = refl
scattered_none (suc fuel) f size range topdown (suc left) some h =
    without_block (first_candidate (candidate f size range topdown) (log2 (suc left) + 1))
    (λ c. taken_after (scattered fuel (λ page. f page && not (has_page page c.block)) size range topdown (suc left - (c.block.end - c.block.start))) c.block)
    h

scattered_some : (fuel : ℕ) (f : ℕ → Bool) (size : ℕ) (range : Span) (topdown : Bool) (left : ℕ) (c : Candidate)
    → first_candidate (candidate f size range topdown) (log2 (suc left) + 1) ≡ Some c
    → scattered (suc fuel) f size range topdown (suc left)
    ≡ taken_after (scattered fuel (λ page. f page && not (has_page page c.block)) size range topdown (suc left - (c.block.end - c.block.start))) c.block
scattered_some fuel f size range topdown left c h =
    with_block (first_candidate (candidate f size range topdown) (log2 (suc left) + 1))
    (λ c. taken_after (scattered fuel (λ page. f page && not (has_page page c.block)) size range topdown (suc left - (c.block.end - c.block.start))) c.block)
    c h

-- a block is put after those before it
one_block_more : (spans : List Span) (block : Span) (rest : Option (List Span))
    → option_map (λ more. (spans ++ block ∷ []) ++ more) rest ≡ option_map (λ more. spans ++ more) (taken_after rest block)
one_block_more spans block None = refl
one_block_more spans block (Some more) = ap Some (append_assoc spans (block ∷ []) more)

pub scattered_more : (fuel : ℕ) (f g : ℕ → Bool) (size other : ℕ) (range : Span) (topdown : Bool) (left : ℕ) (spans : List Span) (c : Candidate)
    → 0 < fuel → 0 < left → other ≡ size → ((page : ℕ) → g page ≡ (f page && not (has_page page c.block)))
    → first_candidate (candidate f size range topdown) (log2 left + 1) ≡ Some c
    → option_map (λ more. (spans ++ c.block ∷ []) ++ more) (scattered (fuel - 1) g other range topdown (left - (c.block.end - c.block.start)))
    ≡ option_map (λ more. spans ++ more) (scattered fuel f size range topdown left)
scattered_more zero f g size other range topdown left spans c enough some same taken h = absurd (omega arith)
scattered_more (suc fuel) f g size other range topdown zero spans c enough some same taken h = absurd (omega arith)
scattered_more (suc fuel) f g size other range topdown (suc left) spans c enough some same taken h =
    let e : suc fuel - 1 ≡ fuel = omega arith in
    let free : g ≡ (λ page. f page && not (has_page page c.block)) = λ i page. taken page i in
    rw (e, same, free)
    (one_block_more spans c.block (scattered fuel (λ page. f page && not (has_page page c.block)) size range topdown (suc left - (c.block.end - c.block.start)))
    ∙ ap (option_map (λ more. spans ++ more)) (sym (scattered_some fuel f size range topdown left c h)))

-- ---- the size of a block

-- a block at a start has the pages of its order
candidate_at_size : (f : ℕ → Bool) (size : ℕ) (range : Span) (k start : ℕ) (c : Candidate) → candidate_at f size range k start ≡ Some c → c.block.end ≡ c.block.start + 2 ^ k
candidate_at_size f size range k start c h = grind (arith, common_steps)

-- the less of two such blocks
either_size : (k : ℕ) (b d c : Candidate) (less : Bool) → (Some b ≡ Some c → c.block.end ≡ c.block.start + 2 ^ k) → (Some d ≡ Some c → c.block.end ≡ c.block.start + 2 ^ k)
    → Some (if less then b else d) ≡ Some c → c.block.end ≡ c.block.start + 2 ^ k
either_size k b d c true p q h = p h
either_size k b d c false p q h = q h

-- a block in front of others
front_size : (k : ℕ) (d c : Candidate) (o : Option Candidate) → (Some d ≡ Some c → c.block.end ≡ c.block.start + 2 ^ k) → (o ≡ Some c → c.block.end ≡ c.block.start + 2 ^ k)
    → Some (first_least (λ c. c.whole) d o) ≡ Some c → c.block.end ≡ c.block.start + 2 ^ k
front_size k d c None here others h = here h
front_size k d c (Some b) here others h = either_size k b d c (nat_lt b.whole d.whole) others here h

-- what a start gives, in front of others
cons_size : (k : ℕ) (found : Option Candidate) (others : List Candidate) (c : Candidate) → (found ≡ Some c → c.block.end ≡ c.block.start + 2 ^ k)
    → (least_by (λ c. c.whole) others ≡ Some c → c.block.end ≡ c.block.start + 2 ^ k)
    → least_by (λ c. c.whole) (cons_option found others) ≡ Some c → c.block.end ≡ c.block.start + 2 ^ k
cons_size k None others c here behind h = behind h
cons_size k (Some d) others c here behind h = front_size k d c (least_by (λ c. c.whole) others) here behind h

least_size : (f : ℕ → Bool) (size : ℕ) (range : Span) (k : ℕ) (starts : List ℕ) (c : Candidate)
    → least_by (λ c. c.whole) (filter_map (candidate_at f size range k) starts) ≡ Some c → c.block.end ≡ c.block.start + 2 ^ k
least_size f size range k [] c h = cc
least_size f size range k (start ∷ starts) c h =
    cons_size k (candidate_at f size range k start) (filter_map (candidate_at f size range k) starts) c (candidate_at_size f size range k start c)
    (least_size f size range k starts c)
    h

pub candidate_size : (f : ℕ → Bool) (size : ℕ) (range : Span) (topdown : Bool) (k : ℕ) (c : Candidate)
    → candidate f size range topdown k ≡ Some c → c.block.end ≡ c.block.start + 2 ^ k
candidate_size f size range topdown k c h = least_size f size range k (starts_of topdown k size) c (sym (candidate_by_start f size range k topdown) ∙ h)
