use Rattle.std.proofs.Common.{◌≡◌, min, take, length, sum_by}
use Rattle.ttm_base.specs.Cutting.{pieces_of}
use Rattle.sim_drive.proofs.limit.packets_of_command.Given as goal

abbrev pub invariant-loop-op : goal.invariant-loop-op
invariant-loop-op l = l.n ≡ min (sum_by (λ o. length (pieces_of o)) (take l.op-index l.op-items)) 18446744073709551615
