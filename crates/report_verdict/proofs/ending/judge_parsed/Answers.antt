use Rattle.std.proofs.Common.{◌≡◌, ◌++◌, List, Option, true, false, sym, subst}
use Rattle.std.specs.Prelude.{drop, length, ◌+◌}
use Rattle.journal_model.specs.declared.entry.Entry.{Entry}
use Rattle.journal_model.specs.scripts.Words.{Text}
use Rattle.journal_model.specs.statements.Complete.{is_complete}
use Rattle.journal_model.specs.rules.Legal.{IsLegal}
use Rattle.journal_model.specs.reports.ReportText.{report}
use Rattle.journal_model.specs.reports.Verdict.{IsRejected}
use Rattle.entry_reader.specs.declared.report.ReportBad.{ReportBad}
use Rattle.entry_reader.specs.Parsing.{IsReadTo}
use Rattle.entry_reader.specs.Rules.{number_of}
use Rattle.report_text.specs.Parts.{journal_part}
use Rattle.report_check.specs.declared.judge.Verdict.{Verdict}
use Rattle.report_check.specs.Judged.{IsBadAt, Judges}
use Rattle.report_verdict.proofs.EndLaws.{accepted, bad_entry, bad_line, complete_unless_incomplete, incomplete, legal_unless_bad, other_end}
use Rattle.report_verdict.proofs.ending.judge_parsed.Goals as goal

pub returns-in-Bad : goal.returns-in-Bad
returns-in-Bad c =
    let script = c.args.script.now in
    let p = c.args.parsed.now in
    let bad = subst (λ (v : Verdict). Judges script c.items-journal.result.now v) c.in-Bad.is c.in_ok-verdict.ensures in
    let here = subst (λ (es : List Entry). IsBadAt script es c.in-Bad.entry c.in-Bad.rule) c.items-journal.ensures bad in
    bad_entry script c.args.text.now p.rest p.entries p.bad c.requires.read.read c.in-Bad.entry c.in-Bad.rule here

pub returns-in-Some : goal.returns-in-Some
returns-in-Some c =
    let script = c.args.script.now in
    let p = c.args.parsed.now in
    let legal = legal_unless_bad script c.items-journal.result.now c.in_ok-verdict.verdict c.in_default.not-Bad c.in_ok-verdict.ensures in
    let read = subst (λ (o : Option ReportBad). IsReadTo script c.args.text.now p.rest p.entries o) c.in-Some.is c.requires.read.read in
    subst (λ (b : ReportBad). IsRejected script c.args.text.now b.entry (number_of b.rule)) (sym c.in-Some.field-0-is)
    (bad_line script c.args.text.now p.rest p.entries c.in-Some.field-0.entry c.in-Some.field-0.rule read (subst (λ (es : List Entry). IsLegal script es) c.items-journal.ensures legal))

pub returns-in-Incomplete : goal.returns-in-Incomplete
returns-in-Incomplete c =
    let script = c.args.script.now in
    let p = c.args.parsed.now in
    let whole = subst (λ (o : Option ReportBad). IsReadTo script c.args.text.now p.rest p.entries o) c.in_default-bad.is c.requires.read.read in
    let judged = subst (λ (v : Verdict). Judges script c.items-journal.result.now v) c.in-Incomplete.is c.in_ok-verdict.ensures in
    subst (λ (es : List Entry). IsRejected script c.args.text.now (length es + 1) 5) (sym c.items-journal.ensures)
    (incomplete script c.args.text.now p.rest p.entries whole (subst (λ (es : List Entry). IsLegal script es × (is_complete script es ≡ false)) c.items-journal.ensures judged))

pub split_at-requires : goal.split_at-requires
split_at-requires c = c.requires.read.within

pub tail_is-requires-clause-legal : goal.tail_is-requires-clause-legal
tail_is-requires-clause-legal c =
    legal_unless_bad c.args.script.now c.items-journal.result.now c.in_ok-verdict.verdict c.in_default.not-Bad c.in_ok-verdict.ensures

pub returns-then-branch : goal.returns-then-branch
returns-then-branch c =
    let script = c.args.script.now in
    let p = c.args.parsed.now in
    let j = c.items-journal.result.now in
    let v = c.in_ok-verdict.verdict in
    let tail = drop p.rest c.args.text.now in
    let whole = subst (λ (o : Option ReportBad). IsReadTo script c.args.text.now p.rest p.entries o) c.in_default-bad.is c.requires.read.read in
    let legal = legal_unless_bad script j v c.in_default.not-Bad c.in_ok-verdict.ensures in
    let complete = complete_unless_incomplete script j v c.in_default.not-Bad c.in_default-verdict.not-Incomplete c.in_ok-verdict.ensures in
    let same : journal_part script j ++ tail ≡ report script j = subst (λ (t : Text). journal_part script j ++ t ≡ report script j) c.split_at.ensures.back (c.in_ok-tail_is.ensures.0 c.if-branch.true) in
    accepted script c.args.text.now p.rest p.entries c.requires.fits whole
    (subst (λ (es : List Entry). IsLegal script es) c.items-journal.ensures legal)
    (subst (λ (es : List Entry). is_complete script es ≡ true) c.items-journal.ensures complete)
    (subst (λ (es : List Entry). journal_part script es ++ tail ≡ report script es) c.items-journal.ensures same)

pub returns-else-branch : goal.returns-else-branch
returns-else-branch c =
    let script = c.args.script.now in
    let p = c.args.parsed.now in
    let j = c.items-journal.result.now in
    let v = c.in_ok-verdict.verdict in
    let tail = drop p.rest c.args.text.now in
    let whole = subst (λ (o : Option ReportBad). IsReadTo script c.args.text.now p.rest p.entries o) c.in_default-bad.is c.requires.read.read in
    let legal = legal_unless_bad script j v c.in_default.not-Bad c.in_ok-verdict.ensures in
    let complete = complete_unless_incomplete script j v c.in_default.not-Bad c.in_default-verdict.not-Incomplete c.in_ok-verdict.ensures in
    let other : journal_part script p.entries ++ tail ≡ report script p.entries → ⊥ = λ same.
    let here : journal_part script j ++ tail ≡ report script j = subst (λ (es : List Entry). journal_part script es ++ tail ≡ report script es) (sym c.items-journal.ensures) same in
    let told : journal_part script j ++ c.split_at.result.1.now ≡ report script j = subst (λ (t : Text). journal_part script j ++ t ≡ report script j) (sym c.split_at.ensures.back) here in
    let yes : c.in_ok-tail_is.field-0 ≡ true = c.in_ok-tail_is.ensures.1 told in
    let no : c.in_ok-tail_is.field-0 ≡ false = c.if-branch.false in
    cc in
    subst (λ (es : List Entry). IsRejected script c.args.text.now (length es + 1) 6) (sym c.items-journal.ensures)
    (other_end script c.args.text.now p.rest p.entries whole
    (subst (λ (es : List Entry). IsLegal script es) c.items-journal.ensures legal)
    (subst (λ (es : List Entry). is_complete script es ≡ true) c.items-journal.ensures complete) other)
