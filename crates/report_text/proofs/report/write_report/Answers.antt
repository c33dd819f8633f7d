use Rattle.std.proofs.Common.{[], ◌∷◌, sym, subst}
use Rattle.std.specs.Prelude.{codes}
use Rattle.io_edge.specs.Written.{Writes}
use Rattle.journal_model.specs.scripts.Words.{Text, line}
use Rattle.report_text.specs.Parts.{journal_part, mappings_part, outcome_part}
use Rattle.report_text.proofs.Parts.{first_of_four, second_of_four, third_of_four, last_of_four, report_by_parts}
use Rattle.report_text.proofs.report.write_report.Goals as goal

pub returns-in_err-write_journal-clause-text : goal.returns-in_err-write_journal-clause-text
returns-in_err-write_journal-clause-text g c =
    let whole = report_by_parts c.args.script.now c.args.journal.now c.args.accounts.now c.requires.accounts in
    subst (λ (t : Text). Writes c.from_residual.result (g.K.Sink.written c.args.sink.now) (g.K.Sink.written c.write_journal.new.sink) t) (sym whole) (
    first_of_four c.from_residual.result _ _
    (journal_part c.args.script.now c.args.journal.now) (outcome_part c.args.script.now c.args.journal.now c.args.accounts.now) (mappings_part c.args.script.now c.args.journal.now) (line (codes "end" ∷ []))
    c.from_residual.ensures.0 c.in_err-write_journal.ensures.text)

pub returns-in_err-write_outcome-clause-text : goal.returns-in_err-write_outcome-clause-text
returns-in_err-write_outcome-clause-text g c =
    let whole = report_by_parts c.args.script.now c.args.journal.now c.args.accounts.now c.requires.accounts in
    subst (λ (t : Text). Writes c.from_residual-in_err-write_outcome.result (g.K.Sink.written c.args.sink.now) (g.K.Sink.written c.write_outcome.new.sink) t) (sym whole) (
    second_of_four c.from_residual-in_err-write_outcome.result _ _ _
    (journal_part c.args.script.now c.args.journal.now) (outcome_part c.args.script.now c.args.journal.now c.args.accounts.now) (mappings_part c.args.script.now c.args.journal.now) (line (codes "end" ∷ []))
    c.from_residual-in_err-write_outcome.ensures.0 c.in_ok-write_journal.ensures.text c.in_err-write_outcome.ensures.text)

pub returns-in_err-write_mappings-clause-text : goal.returns-in_err-write_mappings-clause-text
returns-in_err-write_mappings-clause-text g c =
    let whole = report_by_parts c.args.script.now c.args.journal.now c.args.accounts.now c.requires.accounts in
    subst (λ (t : Text). Writes c.from_residual-in_err-write_mappings.result (g.K.Sink.written c.args.sink.now) (g.K.Sink.written c.write_mappings.new.sink) t) (sym whole) (
    third_of_four c.from_residual-in_err-write_mappings.result _ _ _ _
    (journal_part c.args.script.now c.args.journal.now) (outcome_part c.args.script.now c.args.journal.now c.args.accounts.now) (mappings_part c.args.script.now c.args.journal.now) (line (codes "end" ∷ []))
    c.from_residual-in_err-write_mappings.ensures.0 c.in_ok-write_journal.ensures.text c.in_ok-write_outcome.ensures.text c.in_err-write_mappings.ensures.text)

pub returns-clause-text : goal.returns-clause-text
returns-clause-text g c =
    let whole = report_by_parts c.args.script.now c.args.journal.now c.args.accounts.now c.requires.accounts in
    subst (λ (t : Text). Writes c.write_heading.result (g.K.Sink.written c.args.sink.now) (g.K.Sink.written c.write_heading.new.sink) t) (sym whole) (
    last_of_four c.write_heading.result _ _ _ _ _
    (journal_part c.args.script.now c.args.journal.now) (outcome_part c.args.script.now c.args.journal.now c.args.accounts.now) (mappings_part c.args.script.now c.args.journal.now) (line (codes "end" ∷ []))
    c.in_ok-write_journal.ensures.text c.in_ok-write_outcome.ensures.text c.in_ok-write_mappings.ensures.text c.write_heading.ensures.text)
