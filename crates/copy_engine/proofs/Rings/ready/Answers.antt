use Rattle.std.proofs.Common.{◌≡◌, ◌<◌, Some, length, ap, sym, ◌∙◌, arith}
use Rattle.std.proofs.lemmas.Grind.{common_steps}
use Rattle.copy_engine.specs.Pushes.{head_of}
use Rattle.copy_engine.proofs.RingLaws.{wide_head}
use Rattle.copy_engine.proofs.Rings.ready.Goals as goal

pub wait-requires : goal.wait-requires
wait-requires c =
    let known : c.args.ctx < length c.self.inside.rings.items = omega (arith, ap length c.self.view_is) in
    let head : head_of c.self.inside.rings.items c.args.ctx ≡ Some c.in_ok-first.field-0.now = grind (arith, common_steps, c.in_ok-first.ensures) in
    wide_head c.self.inside.rings.items c.args.ctx c.in_ok-first.field-0.now c.self.invariant known head ∙ ap length c.self.view_is ∙ sym c.requires.timeline
