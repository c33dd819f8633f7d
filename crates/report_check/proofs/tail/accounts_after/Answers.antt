use Rattle.std.proofs.Common.{◌≡◌, ◌^◌, ◌<◌, length, Some, refl, subst, arith}
use Rattle.std.specs.Prelude.{IfOk, slice_get, take}
use Rattle.std.proofs.lemmas.Option.{slice_get_read}
use Rattle.journal_model.specs.declared.state.State.{State}
use Rattle.journal_model.specs.rules.Legal.{stores_of}
use Rattle.page_accounts.specs.Accounts.{AreAccountsOf}
use Rattle.plain_device.specs.Held.{IsHeld}
use Rattle.report_check.proofs.ReplayLaws.{entry_ready, leads_first, leads_on, leads_to}
use Rattle.report_check.proofs.tail.accounts_after.Goals as goal

pub loop-entry-init : goal.loop-entry-init
loop-entry-init c = leads_first c.args.script.now c.args.journal.now c.in_ok-state.state c.requires.fits c.in_ok-state.ensures

pub apply-requires : goal.apply-requires
apply-requires c =
    let less : c.loop-entry.entry-index < length c.args.journal.now = omega arith in
    let most : length c.args.journal.now < 2 ^ 64 = omega arith in
    let e = c.entry-item.result in
    let there : slice_get c.args.journal.now c.loop-entry.entry-index ≡ Some e = slice_get_read c.args.journal.now (length c.args.journal.now) c.loop-entry.entry-index e refl less c.entry-item.is in
    entry_ready c.args.script.now c.args.journal.now c.loop-entry.entry-index c.loop-entry.state c.loop-entry.invariant c.requires.legal less most e there

pub loop-entry-preserved : goal.loop-entry-preserved
loop-entry-preserved c =
    let less : c.loop-entry.entry-index < length c.args.journal.now = omega arith in
    let e = c.entry-item.result in
    let there : slice_get c.args.journal.now c.loop-entry.entry-index ≡ Some e = slice_get_read c.args.journal.now (length c.args.journal.now) c.loop-entry.entry-index e refl less c.entry-item.is in
    leads_on c.args.script.now c.args.journal.now c.loop-entry.entry-index c.loop-entry.state c.loop-entry.invariant c.requires.legal e c.apply.new.state there c.in_ok-apply.ensures.ok

pub returns : goal.returns
returns c =
    let script = c.args.script.now in
    let journal = c.args.journal.now in
    let end : c.loop-entry.entry-index ≡ length c.args.journal.now = omega arith in
    let led = subst (λ n. IsHeld script (take n journal) c.loop-entry.state script.sizes (stores_of script (take n journal))) end c.loop-entry.invariant in
    let to = leads_to script journal c.loop-entry.state led in
    subst (λ (s : State). IfOk c.accounts_of.result (AreAccountsOf script s.core)) to c.accounts_of.ensures
