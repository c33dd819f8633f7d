use Rattle.std.proofs.Common.{◌≡◌, ◌++◌, arith, subst}
use Rattle.generated_load.specs.Commands.{news}
use Rattle.generated_load.proofs.DrawnLaws.{none_new, one_new}
use Rattle.generated_load.proofs.commands.add_news.Goals as goal

pub loop-number-init : goal.loop-number-init
loop-number-init c = none_new c.args.thread c.args.commands.now

pub loop-number-preserved : goal.loop-number-preserved
loop-number-preserved c =
    one_new c.loop-number.number c.args.thread c.args.commands.now c.loop-number.commands c.push.new.self c.own_buffer.result c.loop-number.invariant c.own_buffer.ensures c.in_ok-push.ensures.ok

pub returns : goal.returns
returns c =
    let all : c.loop-number.number ≡ 8 = omega arith in
    subst (λ n. c.loop-number.commands ≡ c.args.commands.now ++ news n c.args.thread) all c.loop-number.invariant
