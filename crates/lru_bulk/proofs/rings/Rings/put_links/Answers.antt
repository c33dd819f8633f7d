use Rattle.std.proofs.Common.{List, Option, map, refl, ap, ◌∙◌}
use Rattle.lru_bulk.specs.declared.nodes.Node.{Node}
use Rattle.lru_bulk.proofs.ListingLaws.{listing_in_node, listings_kept}
use Rattle.lru_bulk.proofs.rings.Rings.put_links.Goals as goal

pub returns-in-Of-clause-rest : goal.returns-in-Of-clause-rest
returns-in-Of-clause-rest c = record {
  ends = refl;
  listings = ap (λ (l : List (Option Node)). map listing_in_node l) c.set-in-Of.ensures
      ∙ listings_kept c.args.self.now.nodes c.in-Of.b.0 c.at-node.result c.args.links c.at-node.ensures;
  ranges = refl;
  groups = refl;
}
