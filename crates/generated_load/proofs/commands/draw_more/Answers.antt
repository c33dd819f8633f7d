use Rattle.std.proofs.Common.{◌≡◌, ◌++◌, arith, subst}
use Rattle.generated_load.specs.Commands.{drawn_commands}
use Rattle.generated_load.proofs.DrawnLaws.{none_drawn, one_drawn}
use Rattle.generated_load.proofs.commands.draw_more.Goals as goal

pub loop-count-init : goal.loop-count-init
loop-count-init c = none_drawn c.args.thread c.args.draws.now c.args.commands.now

pub loop-count-preserved : goal.loop-count-preserved
loop-count-preserved c =
    one_drawn c.loop-count._count c.args.thread c.args.draws.now c.loop-count.draws c.choose-choice.new.draws c.args.commands.now c.loop-count.commands c.push.new.self
    c.choose-choice.result c.in_ok-command_of.field-0 c.loop-count.invariant.0 c.loop-count.invariant.1 c.choose-choice.ensures c.in_ok-command_of.ensures c.in_ok-push.ensures.ok

pub returns : goal.returns
returns c =
    let all : c.loop-count._count ≡ 200 = omega arith in
    record {
      commands = subst (λ n. c.loop-count.commands ≡ c.args.commands.now ++ (drawn_commands n c.args.thread c.args.draws.now).0) all c.loop-count.invariant.0;
      draws = subst (λ n. c.loop-count.draws ≡ (drawn_commands n c.args.thread c.args.draws.now).1) all c.loop-count.invariant.1;
    }
