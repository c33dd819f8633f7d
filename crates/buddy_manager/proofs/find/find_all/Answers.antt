use Rattle.std.proofs.Common.{arith}
use Rattle.buddy_manager.proofs.FindingLaws.{finding_done}
use Rattle.buddy_manager.proofs.find.find_all.Goals as goal

pub step-requires-clause-marked : goal.step-requires-clause-marked
step-requires-clause-marked c = c.loop-search.invariant.finding.marks.most

pub step-requires-clause-numbers : goal.step-requires-clause-numbers
step-requires-clause-numbers c = c.loop-search.invariant.finding.numbers

pub loop-search-preserved : goal.loop-search-preserved
loop-search-preserved c = record { finding = c.in_ok-step.ensures.finding c.args.free.now c.args.search.now.left c.loop-search.invariant.finding; count = c.step.ensures.count }

pub returns-in_err-step-clause-marks : goal.returns-in_err-step-clause-marks
returns-in_err-step-clause-marks c = c.in_err-step.ensures.marks c.args.free.now c.args.search.now.left c.loop-search.invariant.finding

pub returns-clause-marks : goal.returns-clause-marks
returns-clause-marks c = c.loop-search.invariant.finding.marks

pub returns-clause-ok : goal.returns-clause-ok
returns-clause-ok c = λ test h.
    let e = c.loop-search-test.false in
    finding_done c.args.free.now c.loop-search.free c.args.range c.args.topdown c.args.search.now.left c.loop-search.out c.loop-search.search c.loop-search.invariant.finding (omega (arith, e)) test h
