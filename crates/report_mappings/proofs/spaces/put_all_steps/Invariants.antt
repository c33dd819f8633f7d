use Rattle.std.proofs.Common.{◌≡◌, ◌++◌, take}
use Rattle.std.specs.Prelude.{flat_map}
use Rattle.journal_model.specs.statements.Complete.{thread_numbers}
use Rattle.journal_model.specs.reports.ReportText.{thread_steps}
use Rattle.report_mappings.proofs.spaces.put_all_steps.Given as goal

abbrev pub invariant-loop-index : goal.invariant-loop-index
invariant-loop-index l = l.line ≡ l.fn.line ++ flat_map (thread_steps l.script) (take l.index (thread_numbers l.script))
