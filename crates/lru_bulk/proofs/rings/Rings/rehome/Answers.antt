use Rattle.std.proofs.Common.{List, Option, IsSome, sym, subst}
use Rattle.lru_bulk.specs.declared.nodes.Listing.{Listing}
use Rattle.lru_bulk.specs.Lists.{listing_in}
use Rattle.lru_bulk.proofs.WholeLaws.{relisted_listed}
use Rattle.lru_bulk.proofs.OrderLaws.{relisted_is}
use Rattle.lru_bulk.proofs.rings.Rings.rehome.Goals as goal

pub set_mem-requires : goal.set_mem-requires
set_mem-requires g c = record {
  sound = c.leave.ensures.sound;
  listed = subst (λ (l : List (Option Listing)). IsSome (listing_in l c.args.b)) (sym c.leave.ensures.listings) c.requires.listed;
}

pub join-requires : goal.join-requires
join-requires g c = record {
  sound = c.set_mem.ensures.sound;
  listed = relisted_listed c.leave.new.self c.set_mem.new.self c.args.b c.args.mem
      (subst (λ (l : List (Option Listing)). IsSome (listing_in l c.args.b)) (sym c.leave.ensures.listings) c.requires.listed) c.set_mem.ensures.listings;
}

pub returns : goal.returns
returns g c = record {
  sound = c.join.ensures.sound;
  order = relisted_is c.args.self.now c.leave.new.self c.set_mem.new.self c.join.new.self c.args.b c.args.mem c.requires.listed
      c.leave.ensures.lists c.leave.ensures.listings c.leave.ensures.groups c.set_mem.ensures.lists c.set_mem.ensures.listings c.set_mem.ensures.groups
      c.join.ensures.lists c.join.ensures.listings c.join.ensures.groups;
}
