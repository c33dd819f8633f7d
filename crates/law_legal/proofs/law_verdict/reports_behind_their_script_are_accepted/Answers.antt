use Rattle.law_legal.proofs.law_verdict.Law.{cut_reports_are_accepted}
use Rattle.law_legal.proofs.law_verdict.ScriptLines.{scripts_are_cut_off}
use Rattle.law_legal.proofs.law_verdict.reports_behind_their_script_are_accepted.Goals as goal

pub returns : goal.returns
returns c = record { cut = scripts_are_cut_off; accepted = cut_reports_are_accepted }
