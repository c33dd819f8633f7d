use Rattle.std.proofs.Common.{◌≡◌, List, Option, Some, set, refl, sym, ap, subst, ◌∙◌}
use Rattle.lru_bulk.specs.declared.nodes.Node.{Node}
use Rattle.lru_bulk.specs.declared.nodes.Listing.{Listing}
use Rattle.lru_bulk.specs.Sound.{listings_of, lists_of, IsSound}
use Rattle.lru_bulk.proofs.WholeLaws.{set_mem_whole, listing_of_node, listings_after, shown}
use Rattle.lru_bulk.proofs.rings.Rings.set_mem.Goals as goal

pub returns : goal.returns
returns c =
    let r = c.args.self.now in
    let nodes = c.set.new.self in
    let x = c.at-node.result.listing in
    let new : Node = record (c.at-node.result) { listing = record (c.at-node.result.listing) { mem = c.args.mem } } in
    let s = shown (record r { nodes = nodes }) (Some c.args.b) (lists_of r)
    (subst (λ (n : List (Option Node)). IsSound (record r { nodes = n }) (Some c.args.b) (lists_of r)) (sym c.set.ensures)
    (set_mem_whole r c.args.b c.at-node.result c.args.mem c.requires.sound c.at-node.ensures)) in
    record {
      sound = s.sound;
      lists = s.lists_is;
      listings = λ y found.
          let both : Some x ≡ Some y = sym (listing_of_node r c.args.b c.at-node.result c.at-node.ensures) ∙ found in
          let same : x ≡ y = cc in
          listings_after r c.args.b nodes (Some new) c.set.ensures
          ∙ ap (λ (m : Listing). set (listings_of r) c.args.b.0 (Some (record m { mem = c.args.mem }))) same;
      groups = refl;
    }
