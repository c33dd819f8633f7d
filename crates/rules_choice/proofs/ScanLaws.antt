-- The scan for a candidate passes over blocks that change nothing.
use Rattle.std.proofs.Common.{◌≡◌, ℕ, ◌+◌, ◌-◌, ◌*◌, ◌/◌, ◌^◌, ◌<◌, ◌≤◌, Bool, true, false, List, Option, None, length, take, get_or, refl, ap, sym, ◌∙◌, subst, arith}
use Rattle.std.specs.Prelude.{filter_map}
use Rattle.ttm_base.specs.declared.Span.{Span}
use Rattle.ttm_base.specs.ListWords.{least_by}
use Rattle.ttm_base.specs.BuddyChoice.{Candidate, candidate}
use Rattle.ttm_base.specs.BlockStarts.{starts_of, candidate_at}
use Rattle.ttm_base.proofs.StartLaws.{candidate_by_start}
use Rattle.rules_choice.specs.Marks.{marked}
use Rattle.rules_choice.specs.Least.{best_with, has_key}
use Rattle.rules_choice.specs.Settled.{IsOutside, IsSettled, Stays}
use Rattle.rules_choice.proofs.AlikeLaws.{outside_stays}
use Rattle.rules_choice.proofs.StartLaws.{candidate_above, least_early, least_more, length-starts_of}
use Rattle.rules_choice.proofs.TurnLaws.{moved_on, moved_out, looked_at, start_up, start_down}

module _ (marks : List Bool) (range : Span) (topdown : Bool) (k : ℕ) where
  abbrev pub test : ℕ → Option Candidate
  test = candidate_at (marked marks) (length marks) range k

  abbrev pub starts : List ℕ
  starts = starts_of topdown k (length marks)

  -- the best of the first i blocks in the order of looks
  abbrev pub IsBest : ℕ → Option Candidate → Type 0
  IsBest i best = best ≡ least_by (λ c. c.whole) (filter_map test (take i starts))

  within : (m : ℕ) → m < length starts → m < length marks / 2 ^ k
  within m l = let len = length-starts_of topdown k (length marks) in omega (arith, l, len)

  pub begun : (first : ℕ) → ((i : ℕ) → i < first → i < length marks / 2 ^ k → IsOutside range topdown k (length marks) i) → IsBest first None
  begun first outside =
      let z : 0 + first ≡ first = omega arith in
      subst (λ n. IsBest n None) z
      (moved_on test (λ c. c.whole) starts 0 first 0 None refl (λ m a b l. outside_stays marks range k (get_or starts m 0) None (outside m (omega (arith, b)) (within m l))))

  pub ended : (i : ℕ) (best : Option Candidate) → IsBest i best → ((m : ℕ) → i ≤ m → m < length marks / 2 ^ k → IsOutside range topdown k (length marks) m)
      → best ≡ candidate (marked marks) (length marks) range topdown k
  ended i best e outside =
      moved_out test (λ c. c.whole) starts 0 i best e (λ m a l. outside_stays marks range k (get_or starts m 0) best (outside m a (within m l)))
      ∙ sym (candidate_by_start (marked marks) (length marks) range k topdown)

  pub one_more : (i : ℕ) (old new : Option Candidate) → i < length marks / 2 ^ k → IsBest i old → new ≡ best_with (λ c. c.whole) old (test (get_or starts i 0)) → IsBest (i + 1) new
  one_more i old new h e here =
      let len = length-starts_of topdown k (length marks) in
      here ∙ ap (λ b. best_with (λ c. c.whole) b (test (get_or starts i 0))) e ∙ sym (least_more test (λ c. c.whole) starts i 0 (omega (arith, h, len)))

  pub early : (i : ℕ) (old new : Option Candidate) → i < length marks / 2 ^ k → IsBest i old → new ≡ best_with (λ c. c.whole) old (test (get_or starts i 0))
      → has_key (λ c. c.whole) k new ≡ true → new ≡ candidate (marked marks) (length marks) range topdown k
  early i old new h e here is =
      least_early test (λ c. c.whole) k (candidate_above (marked marks) (length marks) range k) starts (i + 1) new (one_more i old new h e here) is
      ∙ sym (candidate_by_start (marked marks) (length marks) range k topdown)

-- the start of a later block is in the block of another order
later : (marks : List Bool) (topdown : Bool) (k whole i left m : ℕ) → i ≤ m → m < i + left → m < length marks / 2 ^ k
    → (topdown ≡ false → (n : ℕ) → n < left → (get_or (starts_of topdown k (length marks)) i 0 + n * 2 ^ k) / 2 ^ whole ≡ get_or (starts_of topdown k (length marks)) i 0 / 2 ^ whole)
    → (topdown ≡ true → (n : ℕ) → n < left → (get_or (starts_of topdown k (length marks)) i 0 - n * 2 ^ k) / 2 ^ whole ≡ get_or (starts_of topdown k (length marks)) i 0 / 2 ^ whole)
    → get_or (starts_of topdown k (length marks)) m 0 / 2 ^ whole ≡ get_or (starts_of topdown k (length marks)) i 0 / 2 ^ whole
later marks true k whole i left m a b l up down = ap (λ n. n / 2 ^ whole) (start_down k (length marks) i m a l) ∙ down refl (m - i) (omega arith)
later marks false k whole i left m a b l up down = ap (λ n. n / 2 ^ whole) (start_up k (length marks) i m a l) ∙ up refl (m - i) (omega arith)

pub passed : (marks : List Bool) (range : Span) (topdown : Bool) (k whole i left : ℕ) (old new : Option Candidate) → i < length marks / 2 ^ k → 0 < left
    → IsBest marks range topdown k i old
    → new ≡ best_with (λ c. c.whole) old (candidate_at (marked marks) (length marks) range k (get_or (starts_of topdown k (length marks)) i 0))
    → IsSettled marks range k whole (get_or (starts_of topdown k (length marks)) i 0) new
    → (topdown ≡ false → (n : ℕ) → n < left → (get_or (starts_of topdown k (length marks)) i 0 + n * 2 ^ k) / 2 ^ whole ≡ get_or (starts_of topdown k (length marks)) i 0 / 2 ^ whole)
    → (topdown ≡ true → (n : ℕ) → n < left → (get_or (starts_of topdown k (length marks)) i 0 - n * 2 ^ k) / 2 ^ whole ≡ get_or (starts_of topdown k (length marks)) i 0 / 2 ^ whole)
    → IsBest marks range topdown k (i + left) new
passed marks range topdown k whole i left old new h some e here settled up down =
    let start : ℕ = get_or (starts_of topdown k (length marks)) i 0 in
    let first = one_more marks range topdown k i old new h e here in
    let looked : Stays marks range k new start = looked_at (λ c. c.whole) old new (candidate_at (marked marks) (length marks) range k start) here in
    let to : i + 1 + (left - 1) ≡ i + left = omega arith in
    let moved : IsBest marks range topdown k (i + 1 + (left - 1)) new
    = moved_on (candidate_at (marked marks) (length marks) range k) (λ c. c.whole) (starts_of topdown k (length marks)) 0 (left - 1) (i + 1) new first
    (λ m a b l. settled looked (get_or (starts_of topdown k (length marks)) m 0)
    (later marks topdown k whole i left m (omega arith) (omega arith) (let len = length-starts_of topdown k (length marks) in omega (arith, l, len)) up down))
    in
    subst (λ n. IsBest marks range topdown k n new) to moved
