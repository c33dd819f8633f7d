use Rattle.std.proofs.Common.{◌≡◌, length, take, sym, subst, ap, ◌∙◌, arith}
use Rattle.ttm_base.specs.Holes.{is_free_beside}
use Rattle.buddy_manager.specs.Held.{held_from, without_all, AreHeld}
use Rattle.buddy_manager.specs.Taking.{AreTaken}
use Rattle.buddy_manager.proofs.ManagedLaws.{next_of}
use Rattle.buddy_manager.proofs.EndLaws.{holding_start, holding_next, holding_end, holding_held, holding_back}
use Rattle.buddy_manager.proofs.ends.hold.Goals as goal

pub loop-i-init : goal.loop-i-init
loop-i-init c = holding_start c.args.ends.now c.args.blocks.now c.requires.taken

pub set-requires : goal.set-requires
set-requires c =
    let t = subst (AreTaken (is_free_beside (held_from 0 c.loop-i.ends)) (length c.loop-i.ends)) (next_of c.args.blocks.now c.loop-i.i (omega arith)) c.loop-i.invariant.taken in
    let s = (t.0).some in
    let w = (t.0).within in
    omega (arith, s, w)

pub let_go-requires : goal.let_go-requires
let_go-requires c =
    subst (λ es. AreHeld (take c.loop-i.i c.args.blocks.now) (held_from 0 es)) (sym c.in_default.ensures.same)
    (holding_held c.args.ends.now c.loop-i.ends c.args.blocks.now c.loop-i.i c.requires.taken c.requires.apart c.loop-i.invariant)

pub loop-i-preserved : goal.loop-i-preserved
loop-i-preserved c = holding_next c.args.ends.now c.loop-i.ends c.set.new.self c.args.blocks.now c.loop-i.i (omega arith) c.loop-i.invariant c.in-Ok.ensures.set

pub returns-in_default-clause-len : goal.returns-in_default-clause-len
returns-in_default-clause-len c = c.let_go.ensures.len ∙ ap length c.in_default.ensures.same ∙ c.loop-i.invariant.len

pub returns-in_default-clause-same : goal.returns-in_default-clause-same
returns-in_default-clause-same c =
    c.let_go.ensures.held ∙ ap (λ es. without_all (take c.loop-i.i c.args.blocks.now) (held_from 0 es)) c.in_default.ensures.same
    ∙ holding_back c.args.ends.now c.loop-i.ends c.args.blocks.now c.loop-i.i c.requires.taken c.requires.apart c.loop-i.invariant

pub returns-clause-held : goal.returns-clause-held
returns-clause-held c = holding_end c.args.ends.now c.loop-i.ends c.args.blocks.now c.loop-i.i (omega arith) c.loop-i.invariant
