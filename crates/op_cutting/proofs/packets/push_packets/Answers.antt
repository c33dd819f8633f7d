use Rattle.std.proofs.Common.{arith}
use Rattle.std.proofs.lemmas.Grind.{common_steps}
use Rattle.ttm_base.specs.Cutting.{packet_of}
use Rattle.op_cutting.proofs.PieceLaws.{cut_more}
use Rattle.op_cutting.proofs.FrontLaws.{on_err, front}
use Rattle.op_cutting.proofs.packets.push_packets.Goals as goal

pub loop-at-preserved : goal.loop-at-preserved
loop-at-preserved g c =
    let more = cut_more (packet_of (g.N.PageNames.names c.args.names.now) c.args.op.now) c.args.op.now c.loop-at.at c.op_len-len.result c.min-n.result (g.L.PacketList.packets c.loop-at.packets) in
    record { within = omega arith; cut = grind (arith, common_steps, more) }

pub returns-in_err-add-clause-err : goal.returns-in_err-add-clause-err
returns-in_err-add-clause-err g c = on_err c.from_residual.result (front (g.L.PacketList.packets c.add.new.self) (g.L.PacketList.packets c.loop-at.packets) _ _ c.in_err-add.ensures.err c.loop-at.invariant.cut)
