-- Pages counted up from a start, and the page of spans at a position.
use Rattle.std.proofs.Common.{◌≡◌, ℕ, zero, suc, ◌+◌, ◌-◌, ◌<◌, List, [], ◌∷◌, ◌++◌, Some, length, drop, get_or, drop-cons, arith, if◌then◌else◌}
use Rattle.std.specs.Prelude.{slice_get, nat_lt}
use Rattle.std.proofs.lemmas.Grind.{common_steps}
use Rattle.std.proofs.lemmas.Bool.Decides.{nat_tests}
use Rattle.ttm_base.specs.declared.Span.{Span}
use Rattle.ttm_base.specs.ListWords.{count_from}
use Rattle.ttm_base.specs.Reach.{length_of}
use Rattle.journal_model.specs.rules.Places.{pages_of}

-- one number more
pub count_from-push : (n start : ℕ) → count_from 1 (n + 1) start ≡ count_from 1 n start ++ (start + n) ∷ []
count_from-push zero start = grind (arith, common_steps)
count_from-push (suc n) start = let e = count_from-push n (1 + start) in grind (arith, common_steps)

-- a number among those counted, or one after them
slice_get-count : (n start : ℕ) (rest : List ℕ) (i : ℕ)
    → slice_get (count_from 1 n start ++ rest) i ≡ (if nat_lt i n then Some (start + i) else slice_get rest (i - n))
slice_get-count zero start rest i = grind (arith, common_steps, nat_tests)
slice_get-count (suc n) start rest zero = grind (arith, common_steps, nat_tests)
slice_get-count (suc n) start rest (suc i) = let e = slice_get-count n (1 + start) rest i in grind (arith, common_steps, nat_tests)

-- the page at a position stands in the first of the spans, or so many further in the others
pub slice_get-pages : (spans : List Span) (k : ℕ) (d : Span) (i : ℕ) → k < length spans
    → slice_get (pages_of (drop k spans)) i
    ≡ (if nat_lt i (length_of (get_or spans k d)) then Some ((get_or spans k d).start + i) else slice_get (pages_of (drop (k + 1) spans)) (i - length_of (get_or spans k d)))
slice_get-pages spans k d i h =
    let e = drop-cons spans k d h in
    let f = slice_get-count (length_of (get_or spans k d)) (get_or spans k d).start (pages_of (drop (suc k) spans)) i in
    grind (arith, common_steps)
