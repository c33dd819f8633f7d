use Rattle.std.proofs.Common.{◌≡◌, IfOk, subst}
use Rattle.validate_list.proofs.Waits.{task_awaits}
use Rattle.validate_list.proofs.acts.act.Goals as goal

pub returns-in-Answer-clause-waits : goal.returns-in-Answer-clause-waits
returns-in-Answer-clause-waits c =
    subst (λ x. IfOk c.answer.result (λ step. step ≡ x)) (task_awaits c.args.rooms.now c.args.thread c.requires.no_swap c.requires.act) c.answer.ensures.step

pub returns-in-Refuse-clause-waits : goal.returns-in-Refuse-clause-waits
returns-in-Refuse-clause-waits c =
    subst (λ x. IfOk c.refuse_for.result (λ step. step ≡ x)) (task_awaits c.args.rooms.now c.args.thread c.requires.no_swap c.requires.act) c.refuse_for.ensures.step

pub returns-in-Act-clause-waits : goal.returns-in-Act-clause-waits
returns-in-Act-clause-waits c =
    subst (λ x. IfOk c.perform.result (λ step. step ≡ x)) (task_awaits c.args.rooms.now c.args.thread c.requires.no_swap c.requires.act) c.perform.ensures.step
