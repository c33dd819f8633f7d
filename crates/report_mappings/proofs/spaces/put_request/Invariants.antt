use Rattle.std.proofs.Common.{◌≡◌, ◌++◌, take}
use Rattle.journal_model.specs.reports.ReportText.{request_lines}
use Rattle.report_mappings.proofs.spaces.put_request.Given as goal

abbrev pub invariant-loop-step : goal.invariant-loop-step
invariant-loop-step l = l.line ≡ l.fn.line ++ request_lines l.script l.thread (l.number, take l.step-index l.steps)
