use Rattle.std.proofs.Common.{None, set, sym, ap, subst, arith}
use Rattle.lru_bulk.specs.declared.nodes.Links.{Links}
use Rattle.lru_bulk.specs.declared.nodes.Spot.TheVariants.{End, Of}
use Rattle.lru_bulk.specs.Lists.{list_at, members_last, is_member}
use Rattle.lru_bulk.specs.Sound.{prev_at, listings_of, lists_of}
use Rattle.lru_bulk.specs.Relinks.{IsSpot}
use Rattle.lru_bulk.proofs.WholeLaws.{splice_ready, splice_whole, shown, same_trans, spot_kept}
use Rattle.lru_bulk.proofs.rings.Rings.splice_before.Goals as goal

pub links-first-requires : goal.links-first-requires
links-first-requires g c = (splice_ready c.args.self.now c.args.group c.args.list c.args.range c.requires.sound c.requires.group c.requires.list c.requires.range).first

pub links-end-requires : goal.links-end-requires
links-end-requires g c = (splice_ready c.args.self.now c.args.group c.args.list c.args.range c.requires.sound c.requires.group c.requires.list c.requires.range).list_end

pub tie-requires : goal.tie-requires
tie-requires g c =
    let ready = splice_ready c.args.self.now c.args.group c.args.list c.args.range c.requires.sound c.requires.group c.requires.list c.requires.range in
    record { left = rw c.links-first.ensures ready.left; right = subst (λ s. IsSpot c.args.self.now s) c.requires.behind ready.right }

pub tie-requires-2 : goal.tie-requires-2
tie-requires-2 g c =
    let r = c.args.self.now in
    let ready = splice_ready r c.args.group c.args.list c.args.range c.requires.sound c.requires.group c.requires.list c.requires.range in
    record {
      left = rw c.links-end.ensures (spot_kept r c.tie.new.self (prev_at r (End c.args.list)) c.tie.ensures.rest ready.tail);
      right = spot_kept r c.tie.new.self (Of c.args.range.first) c.tie.ensures.rest ready.first;
    }

pub tie-requires-3 : goal.tie-requires-3
tie-requires-3 g c =
    let r = c.args.self.now in
    let ready = splice_ready r c.args.group c.args.list c.args.range c.requires.sound c.requires.group c.requires.list c.requires.range in
    let rest = same_trans r c.tie.new.self c.tie-2.new.self c.tie.ensures.rest c.tie-2.ensures.rest in
    record {
      left = spot_kept r c.tie-2.new.self (Of c.args.range.last) rest ready.last;
      right = spot_kept r c.tie-2.new.self (End c.args.list) rest ready.list_end;
    }

pub returns : goal.returns
returns g c =
    let r = c.args.self.now in
    let rest = same_trans r c.tie-2.new.self c.tie-3.new.self (same_trans r c.tie.new.self c.tie-2.new.self c.tie.ensures.rest c.tie-2.ensures.rest) c.tie-3.ensures.rest in
    let s = shown c.tie-3.new.self None (set (lists_of r) c.args.list (members_last (is_member (listings_of r) c.args.group) (list_at (lists_of r) c.args.list)))
    (splice_whole r c.tie.new.self c.tie-2.new.self c.tie-3.new.self c.args.group c.args.list c.args.range (Of c.args.behind) c.links-first.result.prev c.links-end.result.prev
    c.requires.sound c.requires.group c.requires.list c.requires.range (sym c.requires.behind) (ap (λ (l : Links). l.prev) c.links-first.ensures) (ap (λ (l : Links). l.prev) c.links-end.ensures)
    (λ e. cc) c.tie.ensures.tied c.tie.ensures.rest c.tie-2.ensures.tied c.tie-2.ensures.rest c.tie-3.ensures.tied c.tie-3.ensures.rest) in
    record {
      sound = s.sound;
      lists = s.lists_is;
      listings = rest.listings;
      groups = rest.groups;
      cost = omega (arith, c.tie.ensures.cost, c.tie-2.ensures.cost, c.tie-3.ensures.cost);
    }
