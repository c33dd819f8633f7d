use Rattle.std.proofs.Common.{[], None, replicate, refl}
use Rattle.lru_bulk.specs.declared.rings.Rings.{Rings}
use Rattle.lru_bulk.proofs.SoundLaws.{lists_are, whole}
use Rattle.lru_bulk.proofs.OrderLaws.{new_sound, new_order}
use Rattle.lru_bulk.proofs.rings.Rings.new.Goals as goal

pub returns : goal.returns
returns c =
    let r : Rings = record { ends = c.in_ok-ends.ends; nodes = c.in_ok-nodes.nodes; ranges = c.in_ok-ranges.ranges; groups = c.args.groups } in
    let sound = new_sound r c.args.buffers c.in_ok-ends.ensures c.in_ok-nodes.ensures c.in_ok-ranges.ensures in
    record {
      sound = whole r None (replicate 12 []) sound;
      order = new_order r c.args.buffers c.args.groups (lists_are r None (replicate 12 []) sound) c.in_ok-nodes.ensures refl;
    }
