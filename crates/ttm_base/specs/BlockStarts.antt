-- The candidates of a buddy choice by the starts of their blocks, in the order in which a scan meets them.
use Rattle.std.specs.Prelude.{ℕ, ◌/◌, ◌^◌, ◌&&◌, Bool, List, Option, Some, None, reverse, if◌then◌else◌}
use Rattle.ttm_base.specs.declared.Span.{Span}
use Rattle.ttm_base.specs.ListWords.{count_from}
use Rattle.ttm_base.specs.Reach.{is_inside}
use Rattle.ttm_base.specs.BuddyChoice.{Candidate, block_around, is_free_block, candidate_of}

-- the starts of the blocks of order k, from the lowest up, or for topdown from the highest down
abbrev pub starts_of : Bool → ℕ → ℕ → List ℕ
starts_of topdown k size = let starts = count_from (2 ^ k) (size / 2 ^ k) 0 in if topdown then reverse starts else starts

-- the candidate of order k around a start, if its block is free and inside the range
abbrev pub candidate_at : (ℕ → Bool) → ℕ → Span → ℕ → ℕ → Option Candidate
candidate_at is_free size range k start =
    let block = block_around k start in
    if is_inside range block && is_free_block is_free size block then Some (candidate_of is_free size k block) else None
