use Rattle.std.proofs.Common.{List, Option, None, get_or, refl, sym, subst}
use Rattle.lru_bulk.specs.declared.nodes.Node.{Node}
use Rattle.lru_bulk.specs.Sound.{lists_of, IsSound}
use Rattle.lru_bulk.proofs.WholeLaws.{take_whole, node_of_listing, listings_after, some_of, shown}
use Rattle.lru_bulk.proofs.rings.Rings.take.Goals as goal

pub take-requires : goal.take-requires
take-requires c = node_of_listing c.args.self.now c.args.b c.requires.listed

pub returns : goal.returns
returns c =
    let r = c.args.self.now in
    let nodes = c.take.new.self in
    let found = some_of (get_or r.nodes c.args.b.0 None) (node_of_listing r c.args.b c.requires.listed) in
    let s = shown (record r { nodes = nodes }) None (lists_of r)
    (subst (λ (n : List (Option Node)). IsSound (record r { nodes = n }) None (lists_of r)) (sym c.take.ensures) (take_whole r c.args.b found.0 c.requires.sound found.1)) in
    record { sound = s.sound; lists = s.lists_is; listings = listings_after r c.args.b nodes None c.take.ensures; groups = refl }
