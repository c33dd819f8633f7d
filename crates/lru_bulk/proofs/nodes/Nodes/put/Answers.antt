use Rattle.std.proofs.Common.{◌<◌, Some, List, Option, set, length, ap, ◌∙◌, arith}
use Rattle.std.proofs.lemmas.List.{length-map}
use Rattle.lru_bulk.specs.Nodes.{under}
use Rattle.lru_bulk.specs.declared.nodes.Node.{Node}
use Rattle.lru_bulk.proofs.NodeLaws.{nodes_put, keyed_put}
use Rattle.lru_bulk.proofs.nodes.Nodes.put.Goals as goal

pub invariant_of-self-2 : goal.invariant_of-self-2
invariant_of-self-2 c =
    let told = c.in_ok-key.ensures in
    let known : c.args.b.0 < length c.self.inside.keys = omega (arith, length-map c.self.inside.keys (under c.self.inside.slab), ap length c.self.view_is) in
    rw c.set.ensures (keyed_put c.self.inside.slab c.insert.new.self c.self.inside.keys c.args.b.0 c.in_ok-key.key c.args.node c.self.invariant known told.was_vacant told.updates)

pub returns-clause-ok : goal.returns-clause-ok
returns-clause-ok c =
    let told = c.in_ok-key.ensures in
    let known : c.args.b.0 < length c.self.inside.keys = omega (arith, length-map c.self.inside.keys (under c.self.inside.slab), ap length c.self.view_is) in
    rw c.set.ensures (nodes_put c.self.inside.slab c.insert.new.self c.self.inside.keys c.args.b.0 c.in_ok-key.key c.args.node c.self.invariant known told.was_vacant told.updates
    ∙ ap (λ (l : List (Option Node)). set l c.args.b.0 (Some c.args.node)) c.self.view_is)
