-- The owners of the pages of a memory type (ttm_resource_manager).
use Rattle.std.specs.Prelude.{◌≡◌, ℕ, zero, suc, ◌+◌, ◌≤◌, ◌==◌, Bool, true, false, List, [], ◌∷◌, Option, Some, None, All, length, map, sum_by, unwrap_or, if◌then◌else◌}
use Rattle.std.specs.List.{list_any, flat_map}
use Rattle.ttm_base.specs.declared.Span.{Span}
use Rattle.ttm_base.specs.declared.JobId.{JobId}
use Rattle.ttm_base.specs.declared.Owner.{Owner}
use Rattle.ttm_base.specs.declared.Owner.TheVariants.{Live, Target, Ghost}
use Rattle.ttm_base.specs.Holes.{is_free_beside}
use Rattle.ttm_base.specs.ListWords.{last_or}
use Rattle.buddy_manager.specs.Held.{pages_of}
use Rattle.resource_core.specs.declared.holding.Holding.{Holding}
use Rattle.resource_core.specs.declared.holding.OwnerKind.{OwnerKind}
use Rattle.resource_core.specs.declared.holding.OwnerKind.TheVariants.{Live as OfLive, Target as OfTarget, Ghost as OfGhost}

-- what a manager is seen as: its number of pages, the owners with their spans, and its move job; where a holding is given
-- back the last one takes its position
pub record Resources : Type 0 where
  pub size : ℕ
  pub held : List Holding
  pub move_fence : Option JobId

-- whether the owners are the same
abbrev pub same_owner : Owner → Owner → Bool
same_owner (Live a) (Live b) = a.0 == b.0
same_owner (Target a) (Target b) = a.0 == b.0
same_owner (Ghost a) (Ghost b) = a == b
same_owner _ _ = false

-- whether the owner has a holding
abbrev pub holds : Owner → List Holding → Bool
holds owner held = list_any (λ h. same_owner owner h.owner) held

-- the spans of all owners
abbrev pub all_spans : List Holding → List Span
all_spans held = flat_map (λ h. h.spans) held

-- no owner has two holdings
abbrev pub AreDistinct : List Holding → Type 0
AreDistinct [] = Unit {0}
AreDistinct (h ∷ hs) = (holds h.owner hs ≡ false) × AreDistinct hs

-- whether no owner has the page
abbrev pub is_free : List Holding → ℕ → Bool
is_free held = is_free_beside (all_spans held)

-- a holding, which is passed on if it is that of the first owner
abbrev pub passed : Owner → Owner → Holding → Holding
passed from to h = if same_owner from h.owner then record { owner = to; spans = h.spans } else h

abbrev pub renamed : Owner → Owner → List Holding → List Holding
renamed from to held = map (passed from to) held

-- the holdings before the last
abbrev pub before_last : Holding → List Holding → List Holding
before_last h [] = []
before_last h (x ∷ xs) = h ∷ before_last x xs

-- the last holding in front of the others, where it takes the position of one that was removed
abbrev pub last_first : List Holding → List Holding
last_first [] = []
last_first (h ∷ hs) = last_or h hs ∷ before_last h hs

-- the holdings without that of the owner
abbrev pub without_owner : Owner → List Holding → List Holding
without_owner owner [] = []
without_owner owner (h ∷ hs) = if same_owner owner h.owner then last_first hs else h ∷ without_owner owner hs

-- ---- by owner

-- the spans that an owner keeps, if it has a holding
abbrev pub kept_by : Owner → List Holding → Option (List Span)
kept_by owner [] = None
kept_by owner (h ∷ hs) = if same_owner owner h.owner then Some h.spans else kept_by owner hs

-- the spans of an owner, or none where it has no holding
abbrev pub spans_at : Owner → List Holding → List Span
spans_at owner held = unwrap_or (kept_by owner held) []

-- None where there is no span
abbrev pub some_spans : List Span → Option (List Span)
some_spans [] = None
some_spans (s ∷ ss) = Some (s ∷ ss)

-- each holding has a span
abbrev pub HaveSpans : List Holding → Type 0
HaveSpans held = All (λ h. 1 ≤ length h.spans) held

-- ---- how many pages

-- how many of the first pages are free
abbrev pub count_free : (ℕ → Bool) → ℕ → ℕ
count_free free zero = 0
count_free free (suc n) = (if free n then 1 else 0) + count_free free n

abbrev pub is_of : OwnerKind → Owner → Bool
is_of OfLive (Live b) = true
is_of OfTarget (Target b) = true
is_of OfGhost (Ghost n) = true
is_of _ _ = false

-- the pages of a holding if its owner is of the kind, otherwise 0
abbrev pub pages_if : OwnerKind → Holding → ℕ
pages_if kind h = if is_of kind h.owner then pages_of h.spans else 0

abbrev pub pages_by : OwnerKind → List Holding → ℕ
pages_by kind held = sum_by (pages_if kind) held
