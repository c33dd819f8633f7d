use Rattle.std.proofs.Common.{[], ◌∷◌, length, decimal}
use Rattle.std.specs.Prelude.{codes, flat_map}
use Rattle.std.specs.List.{enumerate_from}
use Rattle.journal_model.specs.scripts.Words.{line}
use Rattle.journal_model.specs.reports.EntryText.{entry_line}
use Rattle.report_text.proofs.Parts.{first_of_three, second_of_three, last_of_three}
use Rattle.report_text.proofs.report.write_journal.Goals as goal

pub returns-in_err-write_count-clause-text : goal.returns-in_err-write_count-clause-text
returns-in_err-write_count-clause-text g c =
    let script = c.args.script.now in
    let journal = c.args.journal.now in
    first_of_three c.from_residual.result _ _
    (line (codes "report" ∷ decimal script.version ∷ [])) (line (codes "journal" ∷ decimal (length journal) ∷ [])) (flat_map (entry_line script) (enumerate_from 1 journal))
    c.from_residual.ensures.0 c.in_err-write_count.ensures.text

pub returns-in_err-write_count-2-clause-text : goal.returns-in_err-write_count-2-clause-text
returns-in_err-write_count-2-clause-text g c =
    let script = c.args.script.now in
    let journal = c.args.journal.now in
    second_of_three c.from_residual-in_err-write_count-2.result _ _ _
    (line (codes "report" ∷ decimal script.version ∷ [])) (line (codes "journal" ∷ decimal (length journal) ∷ [])) (flat_map (entry_line script) (enumerate_from 1 journal))
    c.from_residual-in_err-write_count-2.ensures.0 c.in_ok-write_count.ensures.text c.in_err-write_count-2.ensures.text

pub returns-clause-text : goal.returns-clause-text
returns-clause-text g c =
    let script = c.args.script.now in
    let journal = c.args.journal.now in
    last_of_three c.write_entries.result _ _ _ _
    (line (codes "report" ∷ decimal script.version ∷ [])) (line (codes "journal" ∷ decimal (length journal) ∷ [])) (flat_map (entry_line script) (enumerate_from 1 journal))
    c.in_ok-write_count.ensures.text c.in_ok-write_count-2.ensures.text c.write_entries.ensures.text
