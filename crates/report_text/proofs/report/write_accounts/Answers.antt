use Rattle.std.specs.Prelude.{codes}
use Rattle.journal_model.specs.reports.ReportText.{account_line}
use Rattle.page_accounts.specs.Accounts.{as_account}
use Rattle.report_text.proofs.Parts.{first_of_four, second_of_four, third_of_four, last_of_four}
use Rattle.report_text.proofs.report.write_accounts.Goals as goal

pub returns-in_err-write_account-clause-text : goal.returns-in_err-write_account-clause-text
returns-in_err-write_account-clause-text g c =
    let sizes = c.args.sizes.now in
    let a = c.args.accounts.now in
    first_of_four c.from_residual.result _ _
    (account_line (codes "vram") sizes.vram (as_account a.vram)) (account_line (codes "tt") sizes.tt (as_account a.tt))
    (account_line (codes "frames") sizes.frames (as_account a.frames)) (account_line (codes "swap") sizes.swap (as_account a.swap))
    c.from_residual.ensures.0 c.in_err-write_account.ensures.text

pub returns-in_err-write_account-2-clause-text : goal.returns-in_err-write_account-2-clause-text
returns-in_err-write_account-2-clause-text g c =
    let sizes = c.args.sizes.now in
    let a = c.args.accounts.now in
    second_of_four c.from_residual-in_err-write_account-2.result _ _ _
    (account_line (codes "vram") sizes.vram (as_account a.vram)) (account_line (codes "tt") sizes.tt (as_account a.tt))
    (account_line (codes "frames") sizes.frames (as_account a.frames)) (account_line (codes "swap") sizes.swap (as_account a.swap))
    c.from_residual-in_err-write_account-2.ensures.0 c.in_ok-write_account.ensures.text c.in_err-write_account-2.ensures.text

pub returns-in_err-write_account-3-clause-text : goal.returns-in_err-write_account-3-clause-text
returns-in_err-write_account-3-clause-text g c =
    let sizes = c.args.sizes.now in
    let a = c.args.accounts.now in
    third_of_four c.from_residual-in_err-write_account-3.result _ _ _ _
    (account_line (codes "vram") sizes.vram (as_account a.vram)) (account_line (codes "tt") sizes.tt (as_account a.tt))
    (account_line (codes "frames") sizes.frames (as_account a.frames)) (account_line (codes "swap") sizes.swap (as_account a.swap))
    c.from_residual-in_err-write_account-3.ensures.0 c.in_ok-write_account.ensures.text c.in_ok-write_account-2.ensures.text c.in_err-write_account-3.ensures.text

pub returns-clause-text : goal.returns-clause-text
returns-clause-text g c =
    let sizes = c.args.sizes.now in
    let a = c.args.accounts.now in
    last_of_four c.write_account-4.result _ _ _ _ _
    (account_line (codes "vram") sizes.vram (as_account a.vram)) (account_line (codes "tt") sizes.tt (as_account a.tt))
    (account_line (codes "frames") sizes.frames (as_account a.frames)) (account_line (codes "swap") sizes.swap (as_account a.swap))
    c.in_ok-write_account.ensures.text c.in_ok-write_account-2.ensures.text c.in_ok-write_account-3.ensures.text c.write_account-4.ensures.text
