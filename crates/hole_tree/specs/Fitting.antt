-- Which holes fit a request, and which of them is found first.
use Rattle.std.specs.Prelude.{◌≡◌, ℕ, ◌+◌, Bool, List, [], ◌∷◌, Option, Some, None, ◌&&◌, nat_lt, nat_le, if◌then◌else◌}
use Rattle.ttm_base.specs.declared.Span.{Span}
use Rattle.std.specs.Option.{option_or}
use Rattle.ttm_base.specs.declared.Mode.{Mode}
use Rattle.ttm_base.specs.Reach.{common, length_of}
use Rattle.ttm_base.specs.RangeChoice.{start_to_test}
use Rattle.hole_tree.specs.Rising.{EndsBy}
use Rattle.hole_tree.specs.declared.request.Request.{Request}

-- the pages that the request may take
abbrev pub range_of : Request → Span
range_of r = record { start = r.first; end = r.last }

-- the hole, cut to the range, has a start for the pages
abbrev pub fits : Mode → Request → Span → Bool
fits mode r hole =
    let cut = common hole (range_of r) in
    let start = start_to_test mode r.pages r.align cut in
    nat_lt 0 r.pages && nat_le cut.start start && nat_le (start + r.pages) cut.end

-- the hole has so many pages
abbrev pub is_long : ℕ → Span → Bool
is_long pages hole = nat_le pages (length_of hole)

-- the last that passes a test
abbrev pub find_last : (Span → Bool) → List Span → Option Span
find_last test [] = None
find_last test (x ∷ xs) = option_or (find_last test xs) (if test x then Some x else None)

-- neither alignment nor range leaves out a hole that is long enough
pub record IsWide (r : Request) (spans : List Span) : Type 0 where
  pub align : r.align ≡ 1
  pub first : r.first ≡ 0
  pub last : EndsBy r.last spans

-- holes before the one at a root, of this length at most, may fit
abbrev pub reaches_left : Request → ℕ → Span → Bool
reaches_left r longest root = nat_le r.pages longest && nat_lt r.first root.start

-- holes after it may
abbrev pub reaches_right : Request → ℕ → Span → Bool
reaches_right r longest root = nat_le r.pages longest && nat_lt root.end r.last
