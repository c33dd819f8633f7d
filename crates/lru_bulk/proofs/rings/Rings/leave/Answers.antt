use Rattle.std.proofs.Common.{ℕ, ◌*◌, Some, length, sym, ap, subst, ◌∙◌}
use Rattle.lru_bulk.specs.declared.rings.Rings.{Rings}
use Rattle.lru_bulk.specs.Lists.{IsGroup, taken_off}
use Rattle.lru_bulk.specs.Sound.{listings_of, lists_of}
use Rattle.lru_bulk.proofs.WholeLaws.{leave_ready, leave_whole, shown}
use Rattle.lru_bulk.proofs.rings.Rings.leave.Goals as goal

pub tie-requires : goal.tie-requires
tie-requires g c =
    let ready = leave_ready c.args.self.now c.args.b c.at-node.result c.requires.sound c.at-node.ensures in
    record { left = ready.prev; right = ready.next }

pub narrow-requires : goal.narrow-requires
narrow-requires g c =
    let ready = leave_ready c.args.self.now c.args.b c.at-node.result c.requires.sound c.at-node.ensures in
    record {
      prio = ready.prio;
      group = subst (λ k. IsGroup k c.at-node.result.listing.group) (sym c.tie.ensures.rest.groups) ready.group;
      room = ap length c.tie.ensures.rest.ranges ∙ ready.room ∙ ap (λ (k : ℕ). 12 * k) (sym c.tie.ensures.rest.groups);
    }

pub returns : goal.returns
returns g c =
    let s = shown c.narrow.new.self (Some c.args.b) (taken_off (lists_of c.args.self.now) c.args.b)
    (leave_whole c.args.self.now c.tie.new.self c.narrow.new.self c.args.b c.at-node.result c.requires.sound c.at-node.ensures c.tie.ensures.tied c.tie.ensures.rest c.narrow.ensures) in
    record {
      sound = s.sound;
      lists = s.lists_is;
      listings = ap (λ (r : Rings). listings_of r) c.narrow.ensures ∙ c.tie.ensures.rest.listings;
      groups = ap (λ (r : Rings). r.groups) c.narrow.ensures ∙ c.tie.ensures.rest.groups;
      cost = c.tie.ensures.cost;
    }
