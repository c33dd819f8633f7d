use Rattle.std.proofs.Common.{refl}
use Rattle.lru_bulk.proofs.NodeLaws.{none_keyed}
use Rattle.lru_bulk.proofs.nodes.Nodes.new.Goals as goal

pub returns : goal.returns
returns c = rw c.in_ok-keys.ensures (none_keyed _ c.args.buffers refl)
