use Rattle.std.proofs.Common.{◌≡◌, ◌+◌, [], ◌++◌, subst, arith}
use Rattle.journal_model.specs.declared.script.Script.{Script}
use Rattle.journal_model.specs.rules.Legal.{IsLegal, made_of}
use Rattle.journal_model.specs.reports.ReportText.{thread_faults}
use Rattle.report_mappings.proofs.Threads.{thread_on, threads_done}
use Rattle.report_mappings.proofs.faults.put_all_faults.Goals as goal

pub loop-index-preserved : goal.loop-index-preserved
loop-index-preserved c = λ legal.
    thread_on c.args.script.now (λ t. thread_faults c.args.script.now t [] (made_of c.args.script.now c.args.journal.now)) c.loop-index.index c.args.line.now c.loop-index.line
    c.put_thread_faults.new.line (omega arith) (c.loop-index.invariant legal)
    (subst
    (λ (s : Script). IsLegal s c.args.journal.now → c.put_thread_faults.new.line ≡ c.loop-index.line ++ thread_faults s (c.loop-index.index + 1) [] (made_of s c.args.journal.now)) c.new-search.ensures
    c.in_ok-put_thread_faults.ensures legal)

pub returns : goal.returns
returns c = λ legal.
    threads_done c.args.script.now (λ t. thread_faults c.args.script.now t [] (made_of c.args.script.now c.args.journal.now)) c.loop-index.index c.args.line.now c.loop-index.line
    (omega arith) (c.loop-index.invariant legal)
