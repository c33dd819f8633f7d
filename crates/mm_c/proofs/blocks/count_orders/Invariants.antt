use Rattle.std.proofs.Common.{◌≡◌, ℕ, ◌<◌, get_or}
use Rattle.std.specs.Prelude.{count_by}
use Rattle.mm_c.specs.States.{has_order}
use Rattle.mm_c.proofs.blocks.count_orders.Given as goal

abbrev pub invariant-loop-order : goal.invariant-loop-order
invariant-loop-order l = (k : ℕ) → k < l.order → get_or l.counts k 0 ≡ count_by (has_order k) l.blocks
