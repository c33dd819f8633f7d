use Rattle.std.proofs.Common.{◌≡◌, ◌+◌, ◌*◌, ◌≤◌, ◌++◌, None, map, take, drop}
use Rattle.lru_bulk.specs.Lists.{members_last, is_member}
use Rattle.lru_bulk.specs.Sound.{listings_of, lists_of, IsWhole}
use Rattle.lru_bulk.proofs.rings.Rings.splice_all.Given as goal

abbrev pub invariant-loop-list : goal.invariant-loop-list
invariant-loop-list g l =
    IsWhole l.self None
    × (lists_of l.self ≡ map (members_last (is_member (listings_of l.initial.self) l.group)) (take l.list (lists_of l.initial.self)) ++ drop l.list (lists_of l.initial.self))
    × (listings_of l.self ≡ listings_of l.initial.self)
    × (l.self.groups ≡ l.initial.self.groups)
    × (l.steps ≤ l.initial.steps + 6 * l.list)
