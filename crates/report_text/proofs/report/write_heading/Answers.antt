use Rattle.std.proofs.Common.{◌∙◌, [], ◌∷◌}
use Rattle.report_text.proofs.LineLaws.{so_are_lines}
use Rattle.report_text.proofs.report.write_heading.Goals as goal

pub write_lines-requires : goal.write_lines-requires
write_lines-requires g c = so_are_lines c.bytes.result.now (c.args.word.now ∷ []) (c.bytes.ensures ∙ c.in_ok-make_heading.ensures)
