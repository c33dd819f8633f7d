use Rattle.std.proofs.Common.{◌≡◌, ◌<◌, length, ap, ◌∙◌, arith}
use Rattle.std.proofs.lemmas.Grind.{common_steps}
use Rattle.copy_engine.specs.Pushes.{ring_of, head_ran}
use Rattle.copy_engine.proofs.RingLaws.{sound_set, wide_ring, wide_ran}
use Rattle.copy_engine.proofs.Rings.run_next.Goals as goal

pub invariant_of-self : goal.invariant_of-self
invariant_of-self c =
    let rings = c.self.inside.rings.items in
    let known : c.args.ctx < length rings = omega (arith, ap length c.self.view_is) in
    let ring : c.index_mut-ring.result.now ≡ ring_of rings c.args.ctx = grind (arith, common_steps, c.index_mut-ring.ensures.value) in
    rw (c.run_next.ensures.ran ∙ ap head_ran ring) (sound_set rings c.args.ctx (head_ran (ring_of rings c.args.ctx)) c.self.invariant
    (wide_ran (length rings) (ring_of rings c.args.ctx) (wide_ring rings c.args.ctx known c.self.invariant)))
