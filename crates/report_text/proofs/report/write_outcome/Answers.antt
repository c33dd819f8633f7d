use Rattle.std.proofs.Common.{[], ◌∷◌}
use Rattle.std.specs.Prelude.{codes, flat_map}
use Rattle.journal_model.specs.statements.Complete.{thread_numbers}
use Rattle.journal_model.specs.scripts.Words.{line}
use Rattle.journal_model.specs.reports.ReportText.{thread_results}
use Rattle.report_text.specs.Parts.{four_lines}
use Rattle.report_text.proofs.Parts.{first_of_four, second_of_four, third_of_four, last_of_four}
use Rattle.report_text.proofs.report.write_outcome.Goals as goal

pub returns-in_err-write_heading-clause-text : goal.returns-in_err-write_heading-clause-text
returns-in_err-write_heading-clause-text g c =
    first_of_four c.from_residual.result _ _
    (line (codes "results" ∷ [])) (flat_map (thread_results c.args.journal.now) (thread_numbers c.args.script.now)) (line (codes "accounts" ∷ []))
    (four_lines c.args.script.now.sizes c.args.accounts.now)
    c.from_residual.ensures.0 c.in_err-write_heading.ensures.text

pub returns-in_err-write_results-clause-text : goal.returns-in_err-write_results-clause-text
returns-in_err-write_results-clause-text g c =
    second_of_four c.from_residual-in_err-write_results.result _ _ _
    (line (codes "results" ∷ [])) (flat_map (thread_results c.args.journal.now) (thread_numbers c.args.script.now)) (line (codes "accounts" ∷ []))
    (four_lines c.args.script.now.sizes c.args.accounts.now)
    c.from_residual-in_err-write_results.ensures.0 c.in_ok-write_heading.ensures.text c.in_err-write_results.ensures.text

pub returns-in_err-write_heading-2-clause-text : goal.returns-in_err-write_heading-2-clause-text
returns-in_err-write_heading-2-clause-text g c =
    third_of_four c.from_residual-in_err-write_heading-2.result _ _ _ _
    (line (codes "results" ∷ [])) (flat_map (thread_results c.args.journal.now) (thread_numbers c.args.script.now)) (line (codes "accounts" ∷ []))
    (four_lines c.args.script.now.sizes c.args.accounts.now)
    c.from_residual-in_err-write_heading-2.ensures.0 c.in_ok-write_heading.ensures.text c.in_ok-write_results.ensures.text c.in_err-write_heading-2.ensures.text

pub returns-clause-text : goal.returns-clause-text
returns-clause-text g c =
    last_of_four c.write_accounts.result _ _ _ _ _
    (line (codes "results" ∷ [])) (flat_map (thread_results c.args.journal.now) (thread_numbers c.args.script.now)) (line (codes "accounts" ∷ []))
    (four_lines c.args.script.now.sizes c.args.accounts.now)
    c.in_ok-write_heading.ensures.text c.in_ok-write_results.ensures.text c.in_ok-write_heading-2.ensures.text c.write_accounts.ensures.text
