use Rattle.std.proofs.Common.{arith}
use Rattle.std.proofs.lemmas.Grind.{common_steps}
use Rattle.rules_choice.proofs.FitLaws.{fitting_hole_more}
use Rattle.rules_choice.proofs.ranges.fitting_hole.Goals as goal

pub loop-hole-preserved : goal.loop-hole-preserved
loop-hole-preserved c =
    let more =
    fitting_hole_more c.args.mode c.args.holes.now c.args.pages c.args.align c.args.range c.loop-hole.hole-index (record { start = 0; end = 0 })
    c.loop-hole-test.true
    in
    grind (arith, common_steps, more)
