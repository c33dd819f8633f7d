use Rattle.std.proofs.Common.{◌∙◌, [], ◌∷◌, decimal}
use Rattle.report_text.proofs.WrittenLines.{line_is_not_made}
use Rattle.report_text.proofs.LineLaws.{so_are_lines}
use Rattle.report_text.proofs.report.write_count.Goals as goal

pub returns-in_err-make_count-clause-text : goal.returns-in_err-make_count-clause-text
returns-in_err-make_count-clause-text g c =
    line_is_not_made c.from_residual.result _ (c.args.word.now ∷ decimal c.args.number ∷ []) c.from_residual.ensures.0

pub write_lines-requires : goal.write_lines-requires
write_lines-requires g c = so_are_lines c.bytes.result.now (c.args.word.now ∷ decimal c.args.number ∷ []) (c.bytes.ensures ∙ c.in_ok-make_count.ensures)
