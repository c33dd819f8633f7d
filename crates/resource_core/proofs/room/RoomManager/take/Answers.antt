use Rattle.std.proofs.Common.{◌≡◌, ap, sym, subst, ◌∙◌, Err}
use Rattle.ttm_base.specs.Holes.{is_free_beside}
use Rattle.buddy_manager.specs.Held.{without_all, AreHeld, IsApart}
use Rattle.resource_core.specs.Tied.{FindsNoRoom}
use Rattle.resource_core.specs.declared.manager.TakeFault.TheVariants.{NoRoom}
use Rattle.resource_core.specs.Resources.{Resources, holds}
use Rattle.resource_core.proofs.TieLaws.{tied_is, choice_same, tied_taken, apart_taken, taken_back, tied_again}
use Rattle.resource_core.proofs.room.RoomManager.take.Goals as goal

pub returns-then-is_kept-clause-none : goal.returns-then-is_kept-clause-none
returns-then-is_kept-clause-none g c =
    let s = choice_same g.M.SpanManager.choice (g.M.SpanManager.size c.self.inside.manager) (g.M.SpanManager.held c.self.inside.manager) c.self.inside.held c.self.inside.move_fence c.args.self.now
    c.args.pages c.args.align c.args.place.now c.self.invariant.0.same c.self.view_is in
    λ e. sym s ∙ subst (FindsNoRoom (g.M.SpanManager.choice (is_free_beside (g.M.SpanManager.held c.self.inside.manager)) (g.M.SpanManager.size c.self.inside.manager))) (c.is_kept.ensures c.if-is_kept.true) c.self.invariant.1

pub returns-in-Err-clause-none : goal.returns-in-Err-clause-none
returns-in-Err-clause-none g c =
    let s = choice_same g.M.SpanManager.choice (g.M.SpanManager.size c.self.inside.manager) (g.M.SpanManager.held c.self.inside.manager) c.self.inside.held c.self.inside.move_fence c.args.self.now
    c.args.pages c.args.align c.args.place.now c.self.invariant.0.same c.self.view_is in
    λ e. let q : c.in-Err.fault ≡ NoRoom = cc in sym s ∙ c.in-Err.ensures.none (ap Err q)

pub returns-in-Ok-clause-ok : goal.returns-in-Ok-clause-ok
returns-in-Ok-clause-ok g c =
    let s = choice_same g.M.SpanManager.choice (g.M.SpanManager.size c.self.inside.manager) (g.M.SpanManager.held c.self.inside.manager) c.self.inside.held c.self.inside.move_fence c.args.self.now
    c.args.pages c.args.align c.args.place.now c.self.invariant.0.same c.self.view_is in
    sym s ∙ c.in_default.ensures.ok

pub invariant_of-self-in-Ok : goal.invariant_of-self-in-Ok
invariant_of-self-in-Ok g c =
    let taken = g.met.M.SpanManager.takes_free (is_free_beside (g.M.SpanManager.held c.self.inside.manager)) (g.M.SpanManager.size c.self.inside.manager) c.args.pages c.args.align c.args.place.now c.take.new.out
    c.self.invariant.0.small c.requires.some c.requires.aligned c.in_default.ensures.ok in
    let some = g.met.M.SpanManager.takes_some (is_free_beside (g.M.SpanManager.held c.self.inside.manager)) (g.M.SpanManager.size c.self.inside.manager) c.args.pages c.args.align c.args.place.now c.take.new.out
    c.requires.some c.in_default.ensures.ok in (
      tied_is _ _ _ _ _ _ _ c.in_default.ensures.size c.in_default.ensures.held c.in-Ok.ensures.ok
          (tied_taken _ _ _ _ c.self.invariant.0 c.args.owner c.take.new.out taken some (ap (λ (r : Resources). holds c.args.owner r.held) c.self.view_is ∙ c.requires.fresh)),
      tt,
    )

pub put_back-requires : goal.put_back-requires
put_back-requires g c =
    let taken = g.met.M.SpanManager.takes_free (is_free_beside (g.M.SpanManager.held c.self.inside.manager)) (g.M.SpanManager.size c.self.inside.manager) c.args.pages c.args.align c.args.place.now c.take.new.out
    c.self.invariant.0.small c.requires.some c.requires.aligned c.in_default.ensures.ok in
    record {
      apart = subst IsApart (sym c.in_default.ensures.held) (apart_taken _ _ _ _ c.self.invariant.0 c.take.new.out taken);
      held = subst (AreHeld c.take.new.out) (sym c.in_default.ensures.held) (taken_back _ _ _ _ c.self.invariant.0 c.take.new.out taken).held;
    }

pub invariant_of-self-in-Err-add_copy : goal.invariant_of-self-in-Err-add_copy
invariant_of-self-in-Err-add_copy g c =
    let taken = g.met.M.SpanManager.takes_free (is_free_beside (g.M.SpanManager.held c.self.inside.manager)) (g.M.SpanManager.size c.self.inside.manager) c.args.pages c.args.align c.args.place.now c.take.new.out
    c.self.invariant.0.small c.requires.some c.requires.aligned c.in_default.ensures.ok in (
      tied_is _ _ _ _ _ _ _ (c.put_back.ensures.size ∙ c.in_default.ensures.size) (c.put_back.ensures.held ∙ ap (without_all c.take.new.out) c.in_default.ensures.held) c.in-Err-add_copy.ensures.err
          (tied_again _ _ _ _ c.self.invariant.0 c.take.new.out taken),
      tt,
    )
