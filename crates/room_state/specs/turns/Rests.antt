-- What is left of a walk over the lists of a memory type, priority 0 first.
use Rattle.std.specs.Prelude.{ℕ, ◌*◌, ◌==◌, List, [], ◌∷◌, Option, Some, None, drop, flat_map, take, if◌then◌else◌}
use Rattle.ttm_base.specs.declared.BufId.{BufId}
use Rattle.ttm_base.specs.declared.Mem.{Mem}
use Rattle.ttm_base.specs.Reach.{mem_number}

-- `count` lists one after the other, from list number `first` on
abbrev pub joined : ℕ → ℕ → List (List BufId) → List BufId
joined count first lists = flat_map (λ l. l) (take count (drop first lists))

-- the buffers of a memory type in the order in which victims are looked for
abbrev pub in_order : Mem → List (List BufId) → List BufId
in_order mem lists = joined 4 (4 * mem_number mem) lists

-- the list from buffer `b` on
abbrev pub from_on : BufId → List BufId → List BufId
from_on b [] = []
from_on b (c ∷ cs) = if b.0 == c.0 then c ∷ cs else from_on b cs

-- what is left of the list: nothing, after its end
abbrev pub left_from : Option BufId → List BufId → List BufId
left_from None l = []
left_from (Some b) l = from_on b l
