use Rattle.lru_bulk.specs.Sound.{listings_of}
use Rattle.lru_bulk.proofs.WholeLaws.{set_is_listed}
use Rattle.lru_bulk.proofs.OrderLaws.{added_is}
use Rattle.lru_bulk.proofs.rings.Rings.enlist.Goals as goal

pub join-requires : goal.join-requires
join-requires g c = record {
  sound = c.in_ok-put.ensures.sound;
  listed = set_is_listed c.put.new.self (listings_of c.args.self.now) c.args.b c.args.listing c.requires.known c.in_ok-put.ensures.listings;
}

pub returns : goal.returns
returns g c = record {
  sound = c.join.ensures.sound;
  ok = added_is c.args.self.now c.put.new.self c.join.new.self c.args.b c.args.listing c.requires.known
      c.in_ok-put.ensures.lists c.in_ok-put.ensures.listings c.in_ok-put.ensures.groups c.join.ensures.lists c.join.ensures.listings c.join.ensures.groups;
  err = tt;
}
