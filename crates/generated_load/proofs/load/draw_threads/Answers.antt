use Rattle.std.proofs.Common.{◌≡◌, List, ap, ◌∙◌, arith, subst}
use Rattle.journal_model.specs.declared.script.Command.{Command}
use Rattle.generated_load.specs.Commands.{load_threads}
use Rattle.generated_load.proofs.DrawnLaws.{no_threads, one_thread}
use Rattle.generated_load.proofs.load.draw_threads.Goals as goal

pub loop-thread-init : goal.loop-thread-init
loop-thread-init c = ap (λ (ts : List (List Command)). (ts, c.args.draws.now)) c.new-threads.ensures ∙ no_threads c.args.draws.now

pub loop-thread-preserved : goal.loop-thread-preserved
loop-thread-preserved c =
    one_thread c.loop-thread.thread c.args.draws.now c.loop-thread.draws c.draw_commands.new.draws c.loop-thread.threads c.push.new.self c.in_ok-draw_commands.field-0
    c.loop-thread.invariant c.in_ok-draw_commands.ensures c.in_ok-push.ensures.ok

pub returns : goal.returns
returns c =
    let all : c.loop-thread.thread ≡ 3 = omega arith in
    subst (λ n. (c.loop-thread.threads, c.loop-thread.draws) ≡ load_threads n c.args.draws.now) all c.loop-thread.invariant
