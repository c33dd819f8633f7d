-- Whether places accept spans of pages, by the lowest page and the highest end of the spans.
use Rattle.std.specs.Prelude.{◌≡◌, ℕ, min, max, Bool, true, List, [], ◌∷◌, Option, Some, None, ◌&&◌, ◌||◌, not}
use Rattle.ttm_base.specs.declared.Mem.{Mem}
use Rattle.ttm_base.specs.declared.Span.{Span}
use Rattle.ttm_base.specs.declared.Place.{Place}
use Rattle.ttm_base.specs.Reach.{reach, same_mem, is_inside, is_contiguous}

-- from the lowest first page of two spans to their highest end
abbrev pub around : Span → Span → Span
around a b = record { start = min a.start b.start; end = max a.end b.end }

-- the same of a span and further ones
abbrev pub around_all : Span → List Span → Span
around_all a [] = a
around_all a (s ∷ ss) = around_all (around a s) ss

-- the same of a list; None where there are no spans
abbrev pub stretch_of : List Span → Option Span
stretch_of [] = None
stretch_of (s ∷ ss) = Some (around_all s ss)

-- the stretch, if there is one, lies in the reach
abbrev pub lies_in : Span → Option Span → Bool
lies_in within None = true
lies_in within (Some span) = is_inside within span

-- the place accepts spans with this stretch, which are contiguous or not
abbrev pub takes : Mem → Option Span → Bool → ℕ → Place → Bool
takes mem stretch contiguous size place = same_mem place.mem mem && lies_in (reach place size) stretch && (not place.contig || contiguous)

-- what is kept beside the spans is right
pub record IsMeasured (spans : List Span) (stretch : Option Span) (contiguous : Bool) : Type 0 where
  pub stretch_is : stretch ≡ stretch_of spans
  pub contiguous_is : contiguous ≡ is_contiguous spans
