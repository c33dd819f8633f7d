use Rattle.std.proofs.Common.{◌∙◌, sym}
use Rattle.rules_stores.specs.Kept.{bytes_of}
use Rattle.test_device.proofs.NextEntries.{entry_shown}
use Rattle.test_device.proofs.compared.replay.next_entry.Goals as goal

pub returns-in_ok-kind-in-Ok : goal.returns-in_ok-kind-in-Ok
returns-in_ok-kind-in-Ok c =
    entry_shown c.args.plain.now c.args.who c.script-script.result.now c.state-state.result.now (bytes_of c.stores.result.now)
    c.script-script.ensures c.state-state.ensures c.stores.ensures
    c.in-Ok.kind c.in_ok-kind-in-Ok.kind (sym c.in-Ok.is ∙ c.in_ok-kind.ensures) c.in_ok-kind-in-Ok.ensures
