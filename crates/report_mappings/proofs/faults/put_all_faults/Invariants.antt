use Rattle.std.proofs.Common.{◌≡◌, [], ◌++◌, take}
use Rattle.std.specs.Prelude.{flat_map}
use Rattle.journal_model.specs.statements.Complete.{thread_numbers}
use Rattle.journal_model.specs.rules.Legal.{IsLegal, made_of}
use Rattle.journal_model.specs.reports.ReportText.{thread_faults}
use Rattle.report_mappings.proofs.faults.put_all_faults.Given as goal

abbrev pub invariant-loop-index : goal.invariant-loop-index
invariant-loop-index l =
    IsLegal l.script l.journal → l.line ≡ l.fn.line ++ flat_map (λ t. thread_faults l.script t [] (made_of l.script l.journal)) (take l.index (thread_numbers l.script))
