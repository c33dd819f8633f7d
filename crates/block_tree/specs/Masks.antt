-- Pages that are marked.
use Rattle.std.specs.Prelude.{ℕ, Bool, if◌then◌else◌}
use Rattle.ttm_base.specs.declared.Span.{Span}
use Rattle.ttm_base.specs.Holes.{has_page}

-- whether the page is free after the pages of a span were marked
abbrev pub is_marked : Span → Bool → Bool → ℕ → Bool
is_marked span free before page = if has_page page span then free else before
