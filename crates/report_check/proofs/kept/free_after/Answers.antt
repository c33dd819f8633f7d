use Rattle.std.proofs.Common.{sym, subst}
use Rattle.std.specs.Prelude.{IfSome}
use Rattle.journal_model.specs.rules.Apply.{applied, thread_of}
use Rattle.rules_holds.specs.Free.{AreFree}
use Rattle.report_check.proofs.KeepLaws.{free_kept, keeps_else}
use Rattle.report_check.proofs.kept.free_after.Goals as goal

pub returns-in-New : goal.returns-in-New
returns-in-New c script owner are =
    let s = c.args.state.now in
    let who = c.args.entry.now.who in
    subst (λ k. IfSome c.free_after_new.result (AreFree script (applied script s who k).core)) (sym c.in-New.is)
    (c.free_after_new.ensures script (thread_of who) owner (subst (λ o. IfSome o (AreFree script s.core)) c.in_ok-free.was are))

pub returns-in-Free : goal.returns-in-Free
returns-in-Free c script owner are =
    let s = c.args.state.now in
    let who = c.args.entry.now.who in
    subst (λ k. IfSome c.free_after_free.result (AreFree script (applied script s who k).core)) (sym c.in-Free.is)
    (c.free_after_free.ensures script (thread_of who) owner (subst (λ o. IfSome o (AreFree script s.core)) c.in_ok-free.was are))

pub returns-in_default : goal.returns-in_default
returns-in_default c script owner are =
    let other = c.in_default in
    free_kept script c.args.state.now c.args.entry.now.who c.args.entry.now.kind c.in_ok-free.free
    (keeps_else c.args.entry.now.kind other.not-New other.not-Free other.not-Populate other.not-SwapIn other.not-Depopulate other.not-Move other.not-SwapOut other.not-Reap)
    (subst (λ o. IfSome o (AreFree script c.args.state.now.core)) c.in_ok-free.was are)
