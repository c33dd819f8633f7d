-- Values that the caller sets, by the pages where they were set.
use Rattle.std.specs.Prelude.{ℕ, List, unwrap_or}
use Rattle.std.specs.Ordering.{nat_cmp}
use Rattle.std.specs.BTreeMap.{is_at}
use Rattle.std.specs.Map.{lookup}

-- the value of a page: 0 where none was set
abbrev pub value_at : List (ℕ × ℕ) → ℕ → ℕ
value_at values page = unwrap_or (lookup (is_at (nat_cmp page)) values) 0
