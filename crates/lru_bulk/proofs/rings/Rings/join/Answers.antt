use Rattle.std.proofs.Common.{◌≡◌, ℕ, ◌*◌, Some, None, length, sym, ap, subst, ◌∙◌, arith}
use Rattle.lru_bulk.specs.declared.rings.Rings.{Rings}
use Rattle.lru_bulk.specs.declared.nodes.Links.{Links}
use Rattle.lru_bulk.specs.declared.nodes.Listing.{Listing}
use Rattle.lru_bulk.specs.declared.nodes.Spot.TheVariants.{Of}
use Rattle.lru_bulk.specs.Lists.{IsGroup, number_of, put_on}
use Rattle.lru_bulk.specs.Sound.{next_at, listings_of, lists_of, range_for, spot_before}
use Rattle.lru_bulk.specs.Relinks.{IsSpot}
use Rattle.lru_bulk.proofs.WholeLaws.{join_ready, join_whole, listing_of_node, shown, same_trans, spot_kept}
use Rattle.lru_bulk.proofs.rings.Rings.join.Goals as goal

pub list_number-list-requires : goal.list_number-list-requires
list_number-list-requires g c = (join_ready c.args.self.now c.args.b c.at-node.result c.requires.sound c.at-node.ensures).prio

pub spot_before-left-requires : goal.spot_before-left-requires
spot_before-left-requires g c =
    let ready = join_ready c.args.self.now c.args.b c.at-node.result c.requires.sound c.at-node.ensures in
    record { group = ready.group; list = c.list_number-list.ensures.below; room = ready.room; ends = ready.ends }

pub links-right-requires : goal.links-right-requires
links-right-requires g c =
    let r = c.args.self.now in
    let ready = join_ready r c.args.b c.at-node.result c.requires.sound c.at-node.ensures in
    let left_is = c.spot_before-left.ensures ∙ ap (λ (k : ℕ). spot_before r (range_for r.ranges c.at-node.result.listing.group k) k) c.list_number-list.ensures.number in
    subst (λ s. IsSpot r s) (sym left_is) ready.left

pub tie-requires : goal.tie-requires
tie-requires g c =
    let r = c.args.self.now in
    let ready = join_ready r c.args.b c.at-node.result c.requires.sound c.at-node.ensures in
    let left_is = c.spot_before-left.ensures ∙ ap (λ (k : ℕ). spot_before r (range_for r.ranges c.at-node.result.listing.group k) k) c.list_number-list.ensures.number in
    record { left = subst (λ s. IsSpot r s) (sym left_is) ready.left; right = ready.own }

pub tie-requires-2 : goal.tie-requires-2
tie-requires-2 g c =
    let r = c.args.self.now in
    let ready = join_ready r c.args.b c.at-node.result c.requires.sound c.at-node.ensures in
    let left_is = c.spot_before-left.ensures ∙ ap (λ (k : ℕ). spot_before r (range_for r.ranges c.at-node.result.listing.group k) k) c.list_number-list.ensures.number in
    let right_is = ap (λ (l : Links). l.next) c.links-right.ensures ∙ ap (next_at r) left_is in
    record {
      left = spot_kept r c.tie.new.self (Of c.args.b) c.tie.ensures.rest ready.own;
      right = subst (λ s. IsSpot c.tie.new.self s) (sym right_is) (spot_kept r c.tie.new.self (next_at r (spot_before r (range_for r.ranges c.at-node.result.listing.group (number_of c.at-node.result.listing)) (number_of c.at-node.result.listing))) c.tie.ensures.rest ready.right);
    }

pub widen-requires : goal.widen-requires
widen-requires g c =
    let r = c.args.self.now in
    let ready = join_ready r c.args.b c.at-node.result c.requires.sound c.at-node.ensures in
    let rest = same_trans r c.tie.new.self c.tie-2.new.self c.tie.ensures.rest c.tie-2.ensures.rest in
    record {
      prio = ready.prio;
      group = subst (λ k. IsGroup k c.at-node.result.listing.group) (sym rest.groups) ready.group;
      room = ap length rest.ranges ∙ ready.room ∙ ap (λ (k : ℕ). 12 * k) (sym rest.groups);
    }

pub returns : goal.returns
returns g c =
    let r = c.args.self.now in
    let x = c.at-node.result.listing in
    let rest = same_trans r c.tie.new.self c.tie-2.new.self c.tie.ensures.rest c.tie-2.ensures.rest in
    let left_is = c.spot_before-left.ensures ∙ ap (λ (k : ℕ). spot_before r (range_for r.ranges x.group k) k) c.list_number-list.ensures.number in
    let s = shown c.widen.new.self None (put_on (listings_of r) (lists_of r) c.args.b (number_of x))
    (join_whole r c.tie.new.self c.tie-2.new.self c.widen.new.self c.args.b c.at-node.result c.spot_before-left.result c.links-right.result.next c.requires.sound c.at-node.ensures
    left_is (ap (λ (l : Links). l.next) c.links-right.ensures) c.tie.ensures.tied c.tie.ensures.rest c.tie-2.ensures.tied c.tie-2.ensures.rest c.widen.ensures) in
    record {
      sound = s.sound;
      lists = λ y found.
          let both : Some x ≡ Some y = sym (listing_of_node r c.args.b c.at-node.result c.at-node.ensures) ∙ found in
          let same : x ≡ y = cc in
          s.lists_is ∙ ap (λ (m : Listing). put_on (listings_of r) (lists_of r) c.args.b (number_of m)) same;
      listings = ap (λ (q : Rings). listings_of q) c.widen.ensures ∙ rest.listings;
      groups = ap (λ (q : Rings). q.groups) c.widen.ensures ∙ rest.groups;
      cost = omega (arith, c.tie.ensures.cost, c.tie-2.ensures.cost);
    }
