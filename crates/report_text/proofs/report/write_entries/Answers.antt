use Rattle.std.proofs.Common.{◌+◌, arith}
use Rattle.std.specs.List.{enumerate_from}
use Rattle.std.proofs.lemmas.List.FromFn.{length-enumerate_from}
use Rattle.journal_model.specs.reports.EntryText.{entry_line}
use Rattle.report_text.proofs.WrittenLines.{loop_ends, loop_goes_on, loop_stops, read_numbered}
use Rattle.report_text.proofs.report.write_entries.Goals as goal

pub returns-in_err-write_entry-clause-text : goal.returns-in_err-write_entry-clause-text
returns-in_err-write_entry-clause-text g c =
    loop_stops (entry_line c.args.script.now) (enumerate_from 1 c.args.journal.now) c.loop-i.i (c.loop-i.i + 1, c.index-journal-i.result) c.from_residual.result _ _ _
    (read_numbered c.args.journal.now c.loop-i.i c.index-journal-i.result (omega arith) c.index-journal-i.is)
    c.from_residual.ensures.0 c.loop-i.invariant.text c.in_err-write_entry.ensures.text

pub loop-i-preserved : goal.loop-i-preserved
loop-i-preserved g c = record {
  text =
      loop_goes_on (entry_line c.args.script.now) (enumerate_from 1 c.args.journal.now) c.loop-i.i (c.loop-i.i + 1, c.index-journal-i.result) _ _ _
      (read_numbered c.args.journal.now c.loop-i.i c.index-journal-i.result (omega arith) c.index-journal-i.is)
      c.loop-i.invariant.text c.in_ok-write_entry.ensures.text;
  faults = grind arith;
  lines = grind arith;
}

pub returns-clause-text : goal.returns-clause-text
returns-clause-text g c =
    loop_ends (entry_line c.args.script.now) (enumerate_from 1 c.args.journal.now) c.loop-i.i _ _
    (let e = length-enumerate_from 1 c.args.journal.now in omega (arith, e)) c.loop-i.invariant.text
