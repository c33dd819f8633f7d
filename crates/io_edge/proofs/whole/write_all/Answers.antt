use Rattle.std.proofs.Common.{arith}
use Rattle.std.proofs.lemmas.Grind.{common_steps}
use Rattle.io_edge.proofs.LineEnds.{end_is_line}
use Rattle.io_edge.proofs.Told.{append_known-take}
use Rattle.io_edge.proofs.whole.write_all.Goals as goal

pub loop-at-preserved : goal.loop-at-preserved
loop-at-preserved g c = record {
  within = grind (arith, common_steps);
  written = grind (arith, common_steps, append_known-take);
  faults = grind arith;
  lines = λ h. (let line = end_is_line c.loop-at.at c.args.bytes.now h (omega arith) in grind (arith, common_steps, line, c.loop-at.invariant.lines h));
}

pub returns-in_err-at-clause-lines : goal.returns-in_err-at-clause-lines
returns-in_err-at-clause-lines g c = λ h. (let line = end_is_line c.loop-at.at c.args.bytes.now h (omega arith) in grind (arith, common_steps, line, c.loop-at.invariant.lines h))
