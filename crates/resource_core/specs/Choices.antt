-- The spans that a request takes, by the kind of manager.
use Rattle.std.specs.Prelude.{ℕ, Bool, true, false, List, [], ◌∷◌, Option, option_map}
use Rattle.ttm_base.specs.declared.Span.{Span}
use Rattle.ttm_base.specs.declared.Mode.{Mode}
use Rattle.ttm_base.specs.declared.Mode.TheVariants.{Best, High}
use Rattle.ttm_base.specs.declared.Place.{Place}
use Rattle.ttm_base.specs.Holes.{holes}
use Rattle.ttm_base.specs.BuddyChoice.{buddy_choice}
use Rattle.ttm_base.specs.RangeChoice.{range_choice}
use Rattle.ttm_base.specs.Reach.{reach}

-- the spans in blocks, where the alignment plays no part
abbrev pub buddy_spans : (ℕ → Bool) → ℕ → ℕ → ℕ → Place → Option (List Span)
buddy_spans is_free size pages align place = buddy_choice is_free size (reach place size) place.topdown place.contig pages

-- the span as one range: of the smallest hole, or at the top of the highest
abbrev pub mode_for : Bool → Mode
mode_for true = High
mode_for false = Best

abbrev pub one_span : Span → List Span
one_span s = s ∷ []

abbrev pub range_spans : (ℕ → Bool) → ℕ → ℕ → ℕ → Place → Option (List Span)
range_spans is_free size pages align place = option_map one_span (range_choice (mode_for place.topdown) (holes is_free size) pages align (reach place size))
