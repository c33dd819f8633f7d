-- The members of a set, by their numbers in rising order.
use Rattle.std.specs.Prelude.{ℕ, Bool, List}
use Rattle.std.specs.List.{list_any}
use Rattle.std.specs.Ordering.{nat_cmp}
use Rattle.std.specs.BTreeMap.{is_at}

-- whether the number is a member
abbrev pub is_member : List ℕ → ℕ → Bool
is_member members n = list_any (is_at (nat_cmp n)) members
