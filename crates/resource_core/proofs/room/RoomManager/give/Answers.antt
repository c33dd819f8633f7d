use Rattle.std.proofs.Common.{sym, subst, refl}
use Rattle.resource_core.specs.Resources.{AreDistinct, HaveSpans}
use Rattle.resource_core.proofs.OwnerLaws.{distinct_without}
use Rattle.resource_core.proofs.HoldingLaws.{spans_without}
use Rattle.resource_core.proofs.TieLaws.{tied_is, given_back, tied_given}
use Rattle.resource_core.proofs.room.RoomManager.give.Goals as goal

pub put_back-requires : goal.put_back-requires
put_back-requires g c =
    record { apart = c.self.invariant.0.apart; held = (given_back _ _ _ _ c.self.invariant.0 c.remove-spans.result c.remove-spans.new.self c.remove-spans.ensures.spans).held }

pub invariant_of-self : goal.invariant_of-self
invariant_of-self g c =
    let left = subst AreDistinct (sym c.remove-spans.ensures.left) (distinct_without c.args.owner c.self.inside.held c.self.invariant.0.owners) in
    let kept = subst HaveSpans (sym c.remove-spans.ensures.left) (spans_without c.args.owner c.self.inside.held c.self.invariant.0.some) in (
      tied_is _ _ _ _ _ _ _ c.put_back.ensures.size c.put_back.ensures.held refl
          (tied_given _ _ _ _ c.self.invariant.0 c.remove-spans.result c.remove-spans.new.self c.remove-spans.ensures.spans left kept),
      tt,
    )
