use Rattle.std.proofs.Common.{◌≡◌, ap, sym, subst, ◌∙◌, Err}
use Rattle.ttm_base.specs.Holes.{is_free_beside}
use Rattle.resource_core.specs.Tied.{FindsNoRoom}
use Rattle.resource_core.specs.declared.manager.TakeFault.TheVariants.{NoRoom}
use Rattle.resource_core.proofs.TieLaws.{choice_same, free_of}
use Rattle.resource_core.proofs.room.RoomManager.choose.Goals as goal

pub returns-then-is_kept-clause-none : goal.returns-then-is_kept-clause-none
returns-then-is_kept-clause-none g c =
    let s = choice_same g.M.SpanManager.choice (g.M.SpanManager.size c.self.inside.manager) (g.M.SpanManager.held c.self.inside.manager) c.self.inside.held c.self.inside.move_fence c.args.self.now
    c.args.pages c.args.align c.args.place.now c.self.invariant.0.same c.self.view_is in
    λ e. sym s ∙ subst (FindsNoRoom (g.M.SpanManager.choice (is_free_beside (g.M.SpanManager.held c.self.inside.manager)) (g.M.SpanManager.size c.self.inside.manager))) (c.is_kept.ensures c.if-is_kept.true) c.self.invariant.1

pub returns-in-Err-clause-none : goal.returns-in-Err-clause-none
returns-in-Err-clause-none g c =
    let s = choice_same g.M.SpanManager.choice (g.M.SpanManager.size c.self.inside.manager) (g.M.SpanManager.held c.self.inside.manager) c.self.inside.held c.self.inside.move_fence c.args.self.now
    c.args.pages c.args.align c.args.place.now c.self.invariant.0.same c.self.view_is in
    λ e. let q : c.in-Err.fault ≡ NoRoom = cc in sym s ∙ c.in-Err.ensures.none (ap Err q)

pub returns-clause-ok : goal.returns-clause-ok
returns-clause-ok g c =
    let s = choice_same g.M.SpanManager.choice (g.M.SpanManager.size c.self.inside.manager) (g.M.SpanManager.held c.self.inside.manager) c.self.inside.held c.self.inside.move_fence c.args.self.now
    c.args.pages c.args.align c.args.place.now c.self.invariant.0.same c.self.view_is in
    sym s ∙ c.in_default.ensures.ok

pub returns-clause-free : goal.returns-clause-free
returns-clause-free g c =
    free_of (g.M.SpanManager.size c.self.inside.manager) (g.M.SpanManager.held c.self.inside.manager) c.self.inside.held c.self.inside.move_fence c.args.self.now c.choose.new.out c.self.invariant.0.same c.self.view_is
    (g.met.M.SpanManager.takes_free (is_free_beside (g.M.SpanManager.held c.self.inside.manager)) (g.M.SpanManager.size c.self.inside.manager) c.args.pages c.args.align c.args.place.now c.choose.new.out
    c.self.invariant.0.small c.requires.some c.requires.aligned c.in_default.ensures.ok)
