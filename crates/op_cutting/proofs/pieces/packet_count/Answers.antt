use Rattle.std.proofs.Common.{arith}
use Rattle.op_cutting.proofs.PieceLaws.{count_more}
use Rattle.op_cutting.proofs.pieces.packet_count.Goals as goal

pub loop-at-preserved : goal.loop-at-preserved
loop-at-preserved c =
    let more = count_more c.args.op.now c.loop-at.at c.op_len-len.result c.min-at.result in
    record { within = omega arith; few = omega arith; counted = omega (arith, more) }
