use Rattle.std.proofs.Common.{subst, ◌≡◌, false}
use Rattle.rules_apply.specs.Sure.{takes_no_memory}
use Rattle.rules_stores.specs.Kept.{BecomesBytes, bytes_of}
use Rattle.plain_device.proofs.EnactLaws.{when_ok, both_on_err, no_bytes}
use Rattle.plain_device.proofs.enact.enact_step.Goals as goal

pub returns-clause-bytes : goal.returns-clause-bytes
returns-clause-bytes c = when_ok c.apply.result c.after.ensures

pub returns-clause-err : goal.returns-clause-err
returns-clause-err c =
    both_on_err (c.apply.new.state ≡ c.args.state.now) (takes_no_memory c.args.entry.now.kind ≡ false) (BecomesBytes c.args.stores.now c.after.new.self (bytes_of c.args.stores.now)) c.apply.result c.apply.ensures.err c.apply.ensures.sure
    (λ sure. subst (λ bytes. BecomesBytes c.args.stores.now c.after.new.self bytes) (no_bytes c.args.script.now c.args.state.now c.args.entry.now.who c.args.entry.now.kind (bytes_of c.args.stores.now) c.requires.step sure) c.after.ensures)
