use Rattle.std.proofs.Common.{◌≡◌, ◌++◌, take}
use Rattle.ttm_base.specs.Cutting.{packets_of}
use Rattle.op_cutting.proofs.packets.cut.Given as goal

abbrev pub invariant-loop-op : goal.invariant-loop-op
invariant-loop-op g l = g.L.PacketList.packets l.packets ≡ g.L.PacketList.packets l.initial.packets ++ packets_of (g.N.PageNames.names l.names) (take l.op-index l.ops)
