use Rattle.lru_bulk.proofs.OrderLaws.{bulk_is}
use Rattle.lru_bulk.proofs.rings.Rings.splice_uncounted.Goals as goal

pub returns : goal.returns
returns g c = record {
  sound = c.splice_all.ensures.sound;
  order = bulk_is c.args.self.now c.splice_all.new.self c.args.group c.splice_all.ensures.lists c.splice_all.ensures.listings c.splice_all.ensures.groups;
}
