-- Blocks that are held, in rising order.
use Rattle.std.specs.Prelude.{◌≡◌, ℕ, ◌+◌, ◌<◌, ◌≤◌, ◌==◌, ◌&&◌, Bool, true, List, [], ◌∷◌, nat_lt, not, if◌then◌else◌}
use Rattle.std.specs.List.{list_any}
use Rattle.ttm_base.specs.declared.Span.{Span}
use Rattle.ttm_base.specs.Reach.{length_of}

-- what a manager is seen as: its number of pages, and the blocks that are held
pub record Managed : Type 0 where
  pub size : ℕ
  pub held : List Span

-- the blocks of a list that has for each page the end of the block that begins there; a page where no block begins has no
-- end above it
abbrev pub held_from : ℕ → List ℕ → List Span
held_from start [] = []
held_from start (e ∷ es) = if nat_lt start e then record { start = start; end = e } ∷ held_from (start + 1) es else held_from (start + 1) es

-- the blocks with one more
abbrev pub with_block : Span → List Span → List Span
with_block b [] = b ∷ []
with_block b (h ∷ hs) = if nat_lt b.start h.start then b ∷ (h ∷ hs) else h ∷ with_block b hs

abbrev pub with_blocks : List Span → List Span → List Span
with_blocks [] hs = hs
with_blocks (b ∷ bs) hs = with_blocks bs (with_block b hs)

-- the blocks without one
abbrev pub same_span : Span → Span → Bool
same_span a b = a.start == b.start && a.end == b.end

abbrev pub is_held : Span → List Span → Bool
is_held b hs = list_any (same_span b) hs

abbrev pub without : Span → List Span → List Span
without b [] = []
without b (h ∷ hs) = if same_span b h then without b hs else h ∷ without b hs

abbrev pub without_all : List Span → List Span → List Span
without_all [] hs = hs
without_all (b ∷ bs) hs = without_all bs (without b hs)

-- the blocks are distinct, and each is held
abbrev pub AreHeld : List Span → List Span → Type 0
AreHeld [] hs = Unit {0}
AreHeld (b ∷ bs) hs = (is_held b hs ≡ true) × AreHeld bs (without b hs)

-- whether the blocks are distinct, and each is held
abbrev pub all_held : List Span → List Span → Bool
all_held [] hs = true
all_held (b ∷ bs) hs = is_held b hs && (not (is_held b bs) && all_held bs hs)

-- the number of pages of blocks
abbrev pub pages_of : List Span → ℕ
pages_of [] = 0
pages_of (b ∷ bs) = length_of b + pages_of bs

-- ---- where they lie

abbrev pub AllFrom : ℕ → List Span → Type 0
AllFrom n [] = Unit {0}
AllFrom n (b ∷ bs) = (n ≤ b.start) × AllFrom n bs

abbrev pub AllBy : ℕ → List Span → Type 0
AllBy n [] = Unit {0}
AllBy n (b ∷ bs) = (b.end ≤ n) × AllBy n bs

-- each block has a page, and ends before the next begins
abbrev pub IsApart : List Span → Type 0
IsApart [] = Unit {0}
IsApart (b ∷ bs) = (b.start < b.end) × AllFrom b.end bs × IsApart bs
