use Rattle.std.proofs.Common.{List, Option, Some, None, refl, sym, ap, subst}
use Rattle.lru_bulk.specs.declared.nodes.Node.{Node}
use Rattle.lru_bulk.specs.declared.nodes.Spot.TheVariants.{End}
use Rattle.lru_bulk.specs.Sound.{lists_of, IsSound, IsWhole}
use Rattle.lru_bulk.proofs.WholeLaws.{put_whole, nodes_within, listings_after, no_node, shown}
use Rattle.lru_bulk.proofs.rings.Rings.put.Goals as goal

pub put-requires : goal.put-requires
put-requires c = record {
  known = nodes_within c.args.self.now c.args.b c.requires.known;
  absent = no_node c.args.self.now c.args.b c.requires.absent;
}

pub returns-in-Ok : goal.returns-in-Ok
returns-in-Ok c =
    let r = c.args.self.now in
    let node : Node = record { listing = c.args.listing; links = record { next = End 0; prev = End 0 } } in
    let nodes = c.put.new.self in
    let is = c.in-Ok.ensures.ok in
    let sound = put_whole r c.args.b node c.requires.sound (nodes_within r c.args.b c.requires.known) c.requires.absent c.requires.prio c.requires.group in
    let s = shown (record r { nodes = nodes }) (Some c.args.b) (lists_of r) (subst (λ (n : List (Option Node)). IsSound (record r { nodes = n }) (Some c.args.b) (lists_of r)) (sym is) sound) in
    record { sound = s.sound; lists = s.lists_is; listings = listings_after r c.args.b nodes (Some node) is; groups = refl; err = tt; kept = tt }

pub returns-in-Err : goal.returns-in-Err
returns-in-Err c =
    let r = c.args.self.now in
    let is = c.in-Err.ensures.err in
    record {
      sound = tt;
      lists = tt;
      listings = tt;
      groups = tt;
      err = ap (λ (n : List (Option Node)). record r { nodes = n }) is;
      kept = subst (λ (n : List (Option Node)). IsWhole (record r { nodes = n }) None) (sym is) c.requires.sound;
    }
