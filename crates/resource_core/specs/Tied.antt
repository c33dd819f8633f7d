-- The spans that a span manager holds are those of the owners.
use Rattle.std.specs.Prelude.{◌≡◌, ℕ, ◌+◌, ◌≤◌, List, [], ◌∷◌, Option, Some, None, if◌then◌else◌}
use Rattle.ttm_base.specs.declared.Span.{Span}
use Rattle.ttm_base.specs.declared.Place.{Place}
use Rattle.ttm_base.specs.Holes.{has_page}
use Rattle.buddy_manager.specs.Held.{same_span, AllBy, IsApart}
use Rattle.resource_core.specs.declared.holding.Holding.{Holding}
use Rattle.resource_core.specs.declared.room.Request.{Request}
use Rattle.resource_core.specs.Resources.{all_spans, AreDistinct, HaveSpans}

-- the sum of the weights of spans
abbrev pub total : (Span → ℕ) → List Span → ℕ
total weight [] = 0
total weight (s ∷ ss) = weight s + total weight ss

-- 1 if the span has the page, otherwise 0
abbrev pub at_page : ℕ → Span → ℕ
at_page page s = if has_page page s then 1 else 0

-- 1 if the span is this one, otherwise 0
abbrev pub at_span : Span → Span → ℕ
at_span t s = if same_span t s then 1 else 0

-- two lists have the same spans in any order: each weight has the same sum in both
abbrev pub HaveSame : List Span → List Span → Type 0
HaveSame xs ys = (weight : Span → ℕ) → total weight xs ≡ total weight ys

-- the spans that are held and the owners' holdings fit together
pub record IsTied (size most : ℕ) (spans : List Span) (held : List Holding) : Type 0 where
  pub small : size ≤ most
  pub apart : IsApart spans
  pub within : AllBy size spans
  pub same : HaveSame spans (all_spans held)
  pub owners : AreDistinct held
  pub some : HaveSpans held

-- the choice finds nothing for the request, if there is one
abbrev pub FindsNoRoom : (ℕ → ℕ → Place → Option (List Span)) → Option Request → Type 0
FindsNoRoom choice None = Unit {0}
FindsNoRoom choice (Some r) = choice r.pages r.align r.place ≡ None
