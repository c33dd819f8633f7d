-- Pages that are managed in ranges or in blocks, as was decided when the room was made.
use Rattle.std.specs.Prelude.{ℕ, Bool, List, Option}
use Rattle.ttm_base.specs.declared.Span.{Span}
use Rattle.ttm_base.specs.declared.Place.{Place}
use Rattle.resource_core.specs.declared.vram.PagesKind.{PagesKind}
use Rattle.resource_core.specs.declared.vram.PagesKind.TheVariants.{Ranges, Blocks}
use Rattle.resource_core.specs.Choices.{range_spans, buddy_spans}
use Rattle.resource_core.specs.Resources.{Resources}

-- what a manager of either kind is seen as
pub record Vram : Type 0 where
  pub kind : PagesKind
  pub resources : Resources

abbrev pub spans_of_kind : PagesKind → (ℕ → Bool) → ℕ → ℕ → ℕ → Place → Option (List Span)
spans_of_kind Ranges = range_spans
spans_of_kind Blocks = buddy_spans
