use Rattle.std.proofs.Common.{◌≡◌, Some, None, List, Option, get_or, set, ap, ◌∙◌}
use Rattle.slab.proofs.SlabLemmas.{Updates-with_value}
use Rattle.lru_bulk.specs.declared.nodes.Node.{Node}
use Rattle.lru_bulk.proofs.NodeLaws.{nodes_change}
use Rattle.lru_bulk.proofs.nodes.Nodes.set.Goals as goal

pub returns : goal.returns
returns c =
    let found : get_or c.self.inside.keys c.args.b.0 None ≡ Some c.key_of-key.result = c.key_of-key.ensures in
    nodes_change c.self.inside.slab _ c.self.inside.keys c.args.b.0 c.key_of-key.result c.args.node c.self.invariant found
    (Updates-with_value c.self.inside.slab c.key_of-key.result c.args.node (c.self.invariant.filled c.args.b.0 c.key_of-key.result found))
    ∙ ap (λ (l : List (Option Node)). set l c.args.b.0 (Some c.args.node)) c.self.view_is
