use Rattle.std.proofs.Common.{List, Option, IsSome, sym, subst}
use Rattle.lru_bulk.specs.declared.nodes.Listing.{Listing}
use Rattle.lru_bulk.specs.Lists.{listing_in}
use Rattle.lru_bulk.proofs.OrderLaws.{removed_is}
use Rattle.lru_bulk.proofs.rings.Rings.delist.Goals as goal

pub take-requires : goal.take-requires
take-requires g c = record {
  sound = c.leave.ensures.sound;
  listed = subst (λ (l : List (Option Listing)). IsSome (listing_in l c.args.b)) (sym c.leave.ensures.listings) c.requires.listed;
}

pub returns : goal.returns
returns g c = record {
  sound = c.take.ensures.sound;
  order = removed_is c.args.self.now c.leave.new.self c.take.new.self c.args.b c.leave.ensures.lists c.leave.ensures.listings c.leave.ensures.groups
      c.take.ensures.lists c.take.ensures.listings c.take.ensures.groups;
}
