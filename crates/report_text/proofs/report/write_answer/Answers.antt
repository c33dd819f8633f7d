use Rattle.std.proofs.Common.{◌∙◌}
use Rattle.report_text.proofs.PlainLaws.{answer_is_line}
use Rattle.report_text.proofs.report.write_answer.Goals as goal

pub write_line-requires : goal.write_line-requires
write_line-requires g c = answer_is_line c.args.thread c.args.number c.args.kind.now c.bytes.result.now (c.bytes.ensures ∙ c.in_ok-make_answer_line.ensures)
