use Rattle.std.proofs.Common.{Some, subst, ◌≡◌}
use Rattle.journal_model.specs.rules.Commands.{command_at_work}
use Rattle.journal_model.specs.rules.Apply.{thread_of}
use Rattle.rules_stores.specs.Kept.{BecomesBytes, bytes_of}
use Rattle.plain_device.proofs.EnactLaws.{answered_write}
use Rattle.plain_device.proofs.enact.enact_result.Goals as goal

pub returns-in-Some-clause-bytes : goal.returns-in-Some-clause-bytes
returns-in-Some-clause-bytes c =
    let there : Some c.in-Some.command.now ≡ command_at_work c.args.script.now c.args.state.now (thread_of c.args.entry.now.who) = rw (← c.thread_of.ensures) c.in-Some.ensures in
    subst (λ bytes. BecomesBytes c.args.stores.now c.put_write.new.stores bytes)
    (answered_write c.args.script.now c.args.state.now c.apply.new.state c.args.entry.now (Some c.in-Some.command.now) (bytes_of c.args.stores.now) c.requires.result c.in_ok-apply.ensures.ok there)
    c.put_write.ensures
