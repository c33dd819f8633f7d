use Rattle.std.proofs.Common.{ap₂, false}
use Rattle.rules_apply.proofs.moves.move_job.Goals as goal

pub returns : goal.returns
returns c =
    ap₂
    (λ waits packets. record { id = c.args.id; waits = waits; packets = packets; ran = 0; finished = false })
    c.in_ok-unfinished_before_write.ensures
    c.in_ok-move_packets.ensures
