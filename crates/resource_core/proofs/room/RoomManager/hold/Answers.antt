use Rattle.std.proofs.Common.{ap, sym, subst, ◌∙◌}
use Rattle.buddy_manager.specs.Held.{without_all, AreHeld, IsApart}
use Rattle.resource_core.specs.Resources.{Resources, holds}
use Rattle.resource_core.proofs.TieLaws.{tied_is, taken_of, tied_taken, apart_taken, taken_back, tied_again}
use Rattle.resource_core.proofs.room.RoomManager.hold.Goals as goal

pub hold-requires-clause-free : goal.hold-requires-clause-free
hold-requires-clause-free g c =
    taken_of (g.M.SpanManager.size c.self.inside.manager) (g.M.SpanManager.held c.self.inside.manager) c.self.inside.held c.self.inside.move_fence c.args.self.now c.args.spans.now c.self.invariant.0.same c.self.view_is c.requires.free

pub invariant_of-self-in-Ok : goal.invariant_of-self-in-Ok
invariant_of-self-in-Ok g c =
    let taken = taken_of (g.M.SpanManager.size c.self.inside.manager) (g.M.SpanManager.held c.self.inside.manager) c.self.inside.held c.self.inside.move_fence c.args.self.now c.args.spans.now c.self.invariant.0.same c.self.view_is c.requires.free in (
      tied_is _ _ _ _ _ _ _ c.in_ok-hold.ensures.size c.in_ok-hold.ensures.ok c.in-Ok.ensures.ok
          (tied_taken _ _ _ _ c.self.invariant.0 c.args.owner c.args.spans.now taken c.requires.some (ap (λ (r : Resources). holds c.args.owner r.held) c.self.view_is ∙ c.requires.fresh)),
      tt,
    )

pub put_back-requires-clause-apart : goal.put_back-requires-clause-apart
put_back-requires-clause-apart g c =
    let taken = taken_of (g.M.SpanManager.size c.self.inside.manager) (g.M.SpanManager.held c.self.inside.manager) c.self.inside.held c.self.inside.move_fence c.args.self.now c.args.spans.now c.self.invariant.0.same c.self.view_is c.requires.free in
    subst IsApart (sym c.in_ok-hold.ensures.ok) (apart_taken _ _ _ _ c.self.invariant.0 c.args.spans.now taken)

pub put_back-requires-clause-held : goal.put_back-requires-clause-held
put_back-requires-clause-held g c =
    let taken = taken_of (g.M.SpanManager.size c.self.inside.manager) (g.M.SpanManager.held c.self.inside.manager) c.self.inside.held c.self.inside.move_fence c.args.self.now c.args.spans.now c.self.invariant.0.same c.self.view_is c.requires.free in
    subst (AreHeld c.args.spans.now) (sym c.in_ok-hold.ensures.ok) (taken_back _ _ _ _ c.self.invariant.0 c.args.spans.now taken).held

pub invariant_of-self-in-Err : goal.invariant_of-self-in-Err
invariant_of-self-in-Err g c =
    let taken = taken_of (g.M.SpanManager.size c.self.inside.manager) (g.M.SpanManager.held c.self.inside.manager) c.self.inside.held c.self.inside.move_fence c.args.self.now c.args.spans.now c.self.invariant.0.same c.self.view_is c.requires.free in (
      tied_is _ _ _ _ _ _ _ (c.put_back.ensures.size ∙ c.in_ok-hold.ensures.size) (c.put_back.ensures.held ∙ ap (without_all c.args.spans.now) c.in_ok-hold.ensures.ok) c.in-Err.ensures.err
          (tied_again _ _ _ _ c.self.invariant.0 c.args.spans.now taken),
      tt,
    )
