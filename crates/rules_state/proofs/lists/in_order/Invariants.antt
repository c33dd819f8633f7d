use Rattle.std.proofs.Common.{◌≡◌, ◌*◌, take, drop}
use Rattle.std.specs.Prelude.{flat_map}
use Rattle.ttm_base.specs.Reach.{mem_number}
use Rattle.rules_state.proofs.lists.in_order.Given as goal

abbrev pub invariant-loop-prio : goal.invariant-loop-prio
invariant-loop-prio l = l.bs ≡ flat_map (λ l. l) (take l.prio (drop (4 * mem_number l.fn.mem) l.lists))
