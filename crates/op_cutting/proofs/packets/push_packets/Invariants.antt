use Rattle.std.proofs.Common.{◌≡◌, ◌≤◌, ◌-◌, ◌++◌}
use Rattle.std.specs.Prelude.{map}
use Rattle.ttm_base.specs.Cutting.{packet_of, pieces_of, pieces_from, until_border}
use Rattle.op_cutting.proofs.packets.push_packets.Given as goal

abbrev pub invariant-loop-at : goal.invariant-loop-at
invariant-loop-at g l =
    record {
      within : l.at ≤ l.len;
      cut :
          g.L.PacketList.packets l.packets ++ map (packet_of (g.N.PageNames.names l.names) l.op) (pieces_from (until_border l.op) l.at (l.len - l.at) (l.len - l.at))
          ≡ g.L.PacketList.packets l.initial.packets ++ map (packet_of (g.N.PageNames.names l.names) l.op) (pieces_of l.op);
    }

abbrev pub decreases-loop-at : goal.decreases-loop-at
decreases-loop-at g l = l.len - l.at
