use Rattle.std.proofs.Common.{List, Option, IsSome, sym, subst}
use Rattle.lru_bulk.specs.declared.nodes.Listing.{Listing}
use Rattle.lru_bulk.specs.Lists.{listing_in}
use Rattle.lru_bulk.proofs.OrderLaws.{touched_is}
use Rattle.lru_bulk.proofs.rings.Rings.replace.Goals as goal

pub join-requires : goal.join-requires
join-requires g c = record {
  sound = c.leave.ensures.sound;
  listed = subst (λ (l : List (Option Listing)). IsSome (listing_in l c.args.b)) (sym c.leave.ensures.listings) c.requires.listed;
}

pub returns : goal.returns
returns g c = record {
  sound = c.join.ensures.sound;
  order = touched_is c.args.self.now c.leave.new.self c.join.new.self c.args.b c.requires.listed c.leave.ensures.lists c.leave.ensures.listings c.leave.ensures.groups
      c.join.ensures.lists c.join.ensures.listings c.join.ensures.groups;
}
