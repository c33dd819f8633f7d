use Rattle.std.proofs.Common.{◌≡◌, suc, ◌+◌, ◌-◌, ap, sym, ◌∙◌, arith}
use Rattle.manager_walk.specs.Cutting.{grown}
use Rattle.manager_walk.proofs.BlockLaws.{grown_more}
use Rattle.manager_walk.proofs.blocks.grown.Goals as goal

pub loop-time-preserved : goal.loop-time-preserved
loop-time-preserved c =
    let t = c.loop-time-test.true in
    let s = c.loop-time.invariant.some in
    let next = c.args.times - (c.loop-time._time + 1) in
    let n : c.args.times - c.loop-time._time ≡ suc next = omega (arith, t) in
    record {
      same = sym (ap (λ k. grown k c.args.from c.args.to c.loop-time.size) n ∙ grown_more next c.args.from c.args.to c.loop-time.size c.if-from-size-ne0.false c.if-from-size.false) ∙ c.loop-time.invariant.same;
      some = omega (arith, s);
      most = c.if-from-size.false;
    }
