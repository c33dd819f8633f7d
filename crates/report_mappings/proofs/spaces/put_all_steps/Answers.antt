use Rattle.std.proofs.Common.{arith}
use Rattle.journal_model.specs.reports.ReportText.{thread_steps}
use Rattle.report_mappings.proofs.Threads.{thread_on, threads_done}
use Rattle.report_mappings.proofs.spaces.put_all_steps.Goals as goal

pub loop-index-preserved : goal.loop-index-preserved
loop-index-preserved c =
    thread_on c.args.script.now (thread_steps c.args.script.now) c.loop-index.index c.args.line.now c.loop-index.line c.put_thread_steps.new.line
    (omega arith) c.loop-index.invariant c.in_ok-put_thread_steps.ensures

pub returns : goal.returns
returns c =
    threads_done c.args.script.now (thread_steps c.args.script.now) c.loop-index.index c.args.line.now c.loop-index.line (omega arith) c.loop-index.invariant
