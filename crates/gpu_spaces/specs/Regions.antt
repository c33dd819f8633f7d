-- Mappings that are found by their first pages, and changed there.
use Rattle.std.specs.Prelude.{ℕ, ◌+◌, ◌-◌, ◌<◌, ◌≤◌, Bool, List, [], ◌∷◌, Option, Some, None, ◌==◌, nat_lt, find, if◌then◌else◌}
use Rattle.journal_model.specs.marks.Spaces.{Region, part_of}
use Rattle.law_legal.specs.law_spaces.Rising.{IsRising}

-- whether a mapping begins at a page
abbrev pub starts_at : ℕ → Region → Bool
starts_at page r = r.span.start == page

-- the mapping that begins at a page
abbrev pub starting : ℕ → List Region → Option Region
starting page regions = find (starts_at page) regions

-- the part of a mapping before a page, if there is one
abbrev pub head_at : ℕ → Option Region → Option Region
head_at page None = None
head_at page (Some r) = if nat_lt r.span.start page then Some (record r { span = record { start = r.span.start; end = page } }) else None

-- the part of a mapping from a page on, if it begins before that page
abbrev pub tail_at : ℕ → Option Region → Option Region
tail_at page None = None
tail_at page (Some r) = if nat_lt r.span.start page then Some (part_of r (record { start = page; end = r.span.end })) else None

-- the mappings with another one, if it is given, at the page where it begins
abbrev pub over : Option Region → (ℕ → Option Region) → ℕ → Option Region
over None at q = at q
over (Some r) at q = if r.span.start == q then Some r else at q

-- the mappings with another one, or none, at a page
abbrev pub set_at : ℕ → Option Region → (ℕ → Option Region) → ℕ → Option Region
set_at page r at q = if page == q then r else at q

-- each mapping begins past a page
abbrev pub IsAfter : ℕ → List Region → Type 0
IsAfter page [] = Unit {0}
IsAfter page (r ∷ rs) = (page < r.span.start) × IsAfter page rs

-- the mappings are in the order of their first pages, which are distinct
abbrev pub IsOrdered : List Region → Type 0
IsOrdered [] = Unit {0}
IsOrdered (r ∷ rs) = IsAfter r.span.start rs × IsOrdered rs

-- each mapping is of pages of the space, to pages that a buffer may have
abbrev pub AreSmall : List Region → Type 0
AreSmall [] = Unit {0}
AreSmall (r ∷ rs) = (r.span.end ≤ 1048576) × (r.off + (r.span.end - r.span.start) ≤ 4096) × AreSmall rs

-- what holds of the mappings of a space
pub record IsKept (regions : List Region) : Type 0 where
  pub rising : IsRising regions
  pub small : AreSmall regions
