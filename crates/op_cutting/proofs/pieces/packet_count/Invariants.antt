use Rattle.std.proofs.Common.{◌≡◌, ◌≤◌, ◌-◌, ◌+◌, length}
use Rattle.ttm_base.specs.Cutting.{pieces_of, pieces_from, until_border}
use Rattle.op_cutting.proofs.pieces.packet_count.Given as goal

abbrev pub invariant-loop-at : goal.invariant-loop-at
invariant-loop-at l =
    record {
      within : l.at ≤ l.len;
      few : l.count ≤ l.at;
      counted : l.count + length (pieces_from (until_border l.op) l.at (l.len - l.at) (l.len - l.at)) ≡ length (pieces_of l.op);
    }

abbrev pub decreases-loop-at : goal.decreases-loop-at
decreases-loop-at l = l.len - l.at
