use Rattle.std.proofs.Common.{get_or, map, arith}
use Rattle.ttm_base.specs.Cutting.{packet_of, pieces_of}
use Rattle.op_cutting.proofs.FrontLaws.{on_err, up_to_item}
use Rattle.op_cutting.proofs.packets.cut.Goals as goal

pub returns-in_err-push_packets-clause-err : goal.returns-in_err-push_packets-clause-err
returns-in_err-push_packets-clause-err g c =
    on_err c.from_residual.result
    (up_to_item (λ op. map (packet_of (g.N.PageNames.names c.args.names.now) op) (pieces_of op)) c.args.ops.now c.loop-op.op-index _ (g.L.PacketList.packets c.push_packets.new.packets) (g.L.PacketList.packets c.loop-op.packets) (g.L.PacketList.packets c.args.packets.now)
    (omega arith) c.loop-op.invariant c.in_err-push_packets.ensures.err)
