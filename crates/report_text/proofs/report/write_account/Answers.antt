use Rattle.std.proofs.Common.{◌∙◌, [], ◌∷◌, decimal}
use Rattle.std.specs.Prelude.{codes}
use Rattle.report_text.proofs.WrittenLines.{line_is_not_made}
use Rattle.report_text.proofs.LineLaws.{so_are_lines}
use Rattle.report_text.proofs.report.write_account.Goals as goal

pub returns-in_err-make_account_line-clause-text : goal.returns-in_err-make_account_line-clause-text
returns-in_err-make_account_line-clause-text g c =
    let a = c.args.account.now in
    line_is_not_made c.from_residual.result _
    (c.args.name.now ∷ codes "size" ∷ decimal c.args.size ∷ codes "free" ∷ decimal a.free ∷ codes "live" ∷ decimal a.live
    ∷ codes "target" ∷ decimal a.target ∷ codes "ghost" ∷ decimal a.ghosts ∷ [])
    c.from_residual.ensures.0

pub write_lines-requires : goal.write_lines-requires
write_lines-requires g c =
    let a = c.args.account.now in
    so_are_lines c.bytes.result.now
    (c.args.name.now ∷ codes "size" ∷ decimal c.args.size ∷ codes "free" ∷ decimal a.free ∷ codes "live" ∷ decimal a.live
    ∷ codes "target" ∷ decimal a.target ∷ codes "ghost" ∷ decimal a.ghosts ∷ [])
    (c.bytes.ensures ∙ c.in_ok-make_account_line.ensures)
