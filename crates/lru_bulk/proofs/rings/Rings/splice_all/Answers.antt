use Rattle.std.proofs.Common.{◌≡◌, ◌<◌, ◌≤◌, List, ◌++◌, Option, map, drop, set, length, sym, ap, subst, ◌∙◌, arith}
use Rattle.std.proofs.lemmas.List.{append-nil, take_all, drop_all}
use Rattle.ttm_base.specs.declared.BufId.{BufId}
use Rattle.lru_bulk.specs.declared.nodes.Listing.{Listing}
use Rattle.lru_bulk.specs.Lists.{list_at, members_last, is_member}
use Rattle.lru_bulk.specs.Sound.{listings_of, lists_of}
use Rattle.lru_bulk.proofs.WholeLaws.{spliced_more}
use Rattle.lru_bulk.proofs.rings.Rings.splice_all.Goals as goal

pub splice-requires : goal.splice-requires
splice-requires g c = record {
  sound = c.loop-list.invariant.0;
  group = subst (λ k. c.args.group < k) (sym c.loop-list.invariant.3) c.requires.group;
  list = omega arith;
}

pub loop-list-preserved : goal.loop-list-preserved
loop-list-preserved g c =
    let r0 = c.args.self.now in
    let r = c.loop-list.self in
    let f = members_last (is_member (listings_of r0) c.args.group) in
    let same : set (lists_of r) c.loop-list.list (members_last (is_member (listings_of r) c.args.group) (list_at (lists_of r) c.loop-list.list)) ≡ set (lists_of r) c.loop-list.list (f (list_at (lists_of r) c.loop-list.list)) =
    ap (λ (l : List (Option Listing)). set (lists_of r) c.loop-list.list (members_last (is_member l c.args.group) (list_at (lists_of r) c.loop-list.list))) c.loop-list.invariant.2 in
    let lt : c.loop-list.list < 12 = omega arith in (
      c.splice.ensures.sound,
      c.splice.ensures.lists ∙ same ∙ spliced_more f (lists_of r0) (lists_of r) c.loop-list.list c.requires.sound.count c.loop-list.invariant.0.count lt c.loop-list.invariant.1,
      c.splice.ensures.listings ∙ c.loop-list.invariant.2,
      c.splice.ensures.groups ∙ c.loop-list.invariant.3,
      omega arith,
    )

pub returns : goal.returns
returns g c =
    let r0 = c.args.self.now in
    let f = members_last (is_member (listings_of r0) c.args.group) in
    let count = c.requires.sound.count in
    let at : c.loop-list.list ≡ 12 = omega arith in
    let past : length (lists_of r0) ≤ c.loop-list.list = omega arith in
    record {
      sound = c.loop-list.invariant.0;
      lists = c.loop-list.invariant.1 ∙ ap (λ (l : List (List BufId)). map f l ++ drop c.loop-list.list (lists_of r0)) (take_all c.loop-list.list (lists_of r0) past)
          ∙ ap (λ (l : List (List BufId)). map f (lists_of r0) ++ l) (drop_all c.loop-list.list (lists_of r0) past) ∙ append-nil (map f (lists_of r0));
      listings = c.loop-list.invariant.2;
      groups = c.loop-list.invariant.3;
      cost = omega arith;
    }
