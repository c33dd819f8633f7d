use Rattle.std.proofs.lemmas.Result.{on_ok_weaker}
use Rattle.journal_model.specs.reports.EntryText.{cause_row_word}
use Rattle.report_mappings.proofs.SpacedLaws.{listed_after}
use Rattle.report_text.proofs.entry.put_causes.Goals as goal

pub returns-in_ok-put_cause-in-Some : goal.returns-in_ok-put_cause-in-Some
returns-in_ok-put_cause-in-Some c =
    on_ok_weaker c.put_more_causes.result
    (λ more. listed_after (cause_row_word c.args.script.now) c.args.line.now c.put_cause.new.line c.put_more_causes.new.line c.args.rows.now c.in-Some.first.now c.in-Some.rest.now
    c.in-Some.ensures.cases.0 c.in_ok-put_cause-in-Some.ensures more)
    c.put_more_causes.ensures
