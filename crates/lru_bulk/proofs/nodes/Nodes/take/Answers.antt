use Rattle.std.proofs.Common.{None, List, Option, set, ap, ◌∙◌}
use Rattle.lru_bulk.specs.declared.nodes.Node.{Node}
use Rattle.lru_bulk.proofs.NodeLaws.{nodes_take, keyed_take}
use Rattle.lru_bulk.proofs.nodes.Nodes.take.Goals as goal

pub invariant_of-self : goal.invariant_of-self
invariant_of-self c =
    rw c.set.ensures (keyed_take c.self.inside.slab c.remove.new.self c.self.inside.keys c.args.b.0 c.key_of-key.result c.self.invariant
    c.key_of-key.ensures c.remove.ensures.updates)

pub returns : goal.returns
returns c =
    rw c.set.ensures (nodes_take c.self.inside.slab c.remove.new.self c.self.inside.keys c.args.b.0 c.key_of-key.result c.self.invariant
    c.key_of-key.ensures c.remove.ensures.updates
    ∙ ap (λ (l : List (Option Node)). set l c.args.b.0 None) c.self.view_is)
