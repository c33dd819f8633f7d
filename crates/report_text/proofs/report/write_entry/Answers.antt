use Rattle.std.proofs.Common.{◌∙◌, ◌∷◌, sym, decimal}
use Rattle.journal_model.specs.scripts.Words.{actor_word}
use Rattle.journal_model.specs.reports.EntryText.{kind_words}
use Rattle.report_text.proofs.WrittenLines.{line_is_not_made}
use Rattle.report_text.proofs.LineLaws.{so_are_lines}
use Rattle.report_text.proofs.PlainLaws.{entry_is_line}
use Rattle.report_text.proofs.report.write_entry.Goals as goal

pub returns-in_err-make_entry_line-clause-text : goal.returns-in_err-make_entry_line-clause-text
returns-in_err-make_entry_line-clause-text g c =
    line_is_not_made c.from_residual.result _
    (decimal c.args.number ∷ actor_word c.args.entry.now.who ∷ kind_words c.args.script.now c.args.entry.now.kind) c.from_residual.ensures.0

pub write_lines-requires : goal.write_lines-requires
write_lines-requires g c =
    so_are_lines c.bytes.result.now (decimal c.args.number ∷ actor_word c.args.entry.now.who ∷ kind_words c.args.script.now c.args.entry.now.kind)
    (c.bytes.ensures ∙ c.in_ok-make_entry_line.ensures)

pub write_line-requires : goal.write_line-requires
write_line-requires g c =
    entry_is_line c.args.script.now c.args.number c.args.entry.now c.bytes-else-names_break.result.now (sym c.requires ∙ c.if-names_break.false)
    (c.bytes-else-names_break.ensures ∙ c.in_ok-make_entry_line.ensures)
