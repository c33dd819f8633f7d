use Rattle.std.proofs.Common.{◌++◌, ◌∙◌, ap}
use Rattle.journal_model.specs.scripts.Words.{Text}
use Rattle.journal_model.specs.reports.ReportText.{report}
use Rattle.report_text.specs.Parts.{journal_part}
use Rattle.report_mappings.proofs.Fits.{fits_spaces}
use Rattle.report_check.proofs.TailLaws.{same_tail}
use Rattle.report_check.proofs.tail.tail_is.Goals as goal

pub tail_of-requires-clause-requests : goal.tail_of-requires-clause-requests
tail_of-requires-clause-requests c = fits_spaces c.args.script.now c.requires.fits

pub tail_of-requires-clause-legal : goal.tail_of-requires-clause-legal
tail_of-requires-clause-legal c = λ _. c.requires.legal

pub returns : goal.returns
returns c =
    same_tail (journal_part c.args.script.now c.args.journal.now) c.as_slice.result.now c.args.tail.now (report c.args.script.now c.args.journal.now) c.same_bytes.result
    c.same_bytes.ensures (ap (λ (x : Text). journal_part c.args.script.now c.args.journal.now ++ x) c.as_slice.ensures.value ∙ c.in_ok-right.ensures)
