use Rattle.std.proofs.Common.{◌≡◌, ◌<◌, length, Some, None, IsSome, subst}
use Rattle.std.specs.Prelude.{◌↔◌}
use Rattle.std.specs.List.{IsDistinct}
use Rattle.lru_bulk.specs.Lists.{Order, list_at, list_of, listing_of}
use Rattle.lru_bulk.specs.Members.{same_buffer, times_in, AreMembersListed, IsOnNone}
use Rattle.lru_bulk.proofs.MemberLaws.{members_listed, stands_once, stand_apart, unlisted_nowhere, nowhere_unlisted}
use Rattle.lru_bulk.proofs.Lru.members_stand_once.Goals as goal

pub returns : goal.returns
returns c =
    let r = c.self.inside.rings in
    let h = c.self.invariant in
    record {
      twelve = subst (λ (o : Order). length o.lists ≡ 12) c.self.view_is h.count;
      listed = subst AreMembersListed c.self.view_is (members_listed r h);
      once = λ b. subst (λ (o : Order). IsSome (listing_of o b) → times_in b (list_of o b) ≡ 1) c.self.view_is (stands_once r b h);
      distinct = λ i. subst (λ (o : Order). IsDistinct same_buffer (list_at o.lists i)) c.self.view_is (stand_apart r i h);
      absent = λ b. subst (λ (o : Order). (listing_of o b ≡ None) ↔ IsOnNone o b) c.self.view_is (unlisted_nowhere r b h, nowhere_unlisted r b h);
      prios = λ b x. subst (λ (o : Order). listing_of o b ≡ Some x → x.prio < 4) c.self.view_is (h.prios b x);
    }
