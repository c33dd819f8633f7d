-- A report has one verdict.
use Rattle.std.proofs.Common.{◌+◌, length, sym, subst, refl, arith}
use Rattle.journal_model.specs.declared.script.Script.{Script}
use Rattle.journal_model.specs.scripts.Words.{Text}
use Rattle.journal_model.specs.scripts.Cut.{lines_of}
use Rattle.journal_model.specs.scripts.ScriptRules.{IsScript}
use Rattle.journal_model.specs.reports.ReportText.{report}
use Rattle.journal_model.specs.reports.Verdict.{IsAccepted, IsRightTo}
use Rattle.laws.proofs.law_limit.Limits.{limit_fits}
use Rattle.law_legal.proofs.All.{keeps_laws}
use Rattle.law_legal.specs.law_verdict.VerdictLaws.{AcceptedIsNotRejected, CutReportsAreAccepted, RejectedOnce, ReportsAreAccepted}
use Rattle.law_legal.proofs.law_verdict.Actors.{have_actors}
use Rattle.law_legal.proofs.law_verdict.Lines.{one_entry}
use Rattle.law_legal.proofs.law_verdict.Reports.{behind_entries, right_to_end}
use Rattle.law_legal.proofs.law_verdict.ScriptLines.{scripts_are_cut_off}
use Rattle.law_legal.proofs.law_verdict.Stops as stops
use Rattle.law_legal.proofs.law_verdict.Stops.{Stop}

-- what is accepted is right to its end
accepted_stop : (bytes text : Text) (script : Script) → IsScript bytes script → (a : IsAccepted script text) → Stop script text (length a.journal + 1) 0
accepted_stop bytes text script is a =
    let laws = keeps_laws script a.journal is.fits a.legal in
    let short = laws.short in
    let limit = limit_fits bytes script is in
    let right = right_to_end script is.fits a.journal (omega (arith, short, limit)) laws.readable (have_actors script is.fits a.journal a.legal) a.legal in
    record {
      count = length a.journal;
      journal = a.journal;
      texts = lines_of (behind_entries script a.journal);
      right = subst (λ (t : Text). IsRightTo script t (length a.journal) a.journal (lines_of (behind_entries script a.journal))) (sym a.says) right;
      cause = stops.ended refl (stops.whole refl a.complete a.says);
      place = refl;
    }

pub accepted_is_not_rejected : AcceptedIsNotRejected
accepted_is_not_rejected bytes text script entry rule is a h =
    stops.not_rejected script (one_entry script is.fits) text (length a.journal + 1) entry rule (accepted_stop bytes text script is a) h

pub rejected_once : RejectedOnce
rejected_once script text entry rule other_entry other_rule fits h k = stops.rejected_once script (one_entry script fits) text entry other_entry rule other_rule h k

pub reports_are_accepted : ReportsAreAccepted
reports_are_accepted script journal fits legal complete =
    record { journal = journal; legal = legal; complete = complete; transparent = (keeps_laws script journal fits legal).transparent; says = refl }

pub cut_reports_are_accepted : CutReportsAreAccepted
cut_reports_are_accepted bytes script journal is legal complete =
    subst (λ (t : Text). IsAccepted script t) (sym (scripts_are_cut_off bytes (report script journal) script is).1) (reports_are_accepted script journal is.fits legal complete)
