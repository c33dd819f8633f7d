use Rattle.std.proofs.Common.{◌<◌, ◌∙◌, sym, length, arith}
use Rattle.check_program.proofs.SplitLaws.{goes_on, line_is, longer, report_is, script_is}
use Rattle.check_program.proofs.split.len_of_script.Goals as goal

pub returns-then-is-clause-script : goal.returns-then-is-clause-script
returns-then-is-clause-script c =
    let less : c.loop-place.place < length c.args.bytes.now = omega arith in
    let at = line_is c.args.bytes.now c.loop-place.place c.line_at-line.result.now less c.line_at-line.ensures in
    script_is c.args.bytes.now c.loop-place.place c.line_at-line.result.now c.loop-place.invariant at (sym c.is.ensures ∙ c.if-is.true)

pub returns-then-is-clause-report : goal.returns-then-is-clause-report
returns-then-is-clause-report c =
    let less : c.loop-place.place < length c.args.bytes.now = omega arith in
    let at = line_is c.args.bytes.now c.loop-place.place c.line_at-line.result.now less c.line_at-line.ensures in
    report_is c.args.bytes.now c.loop-place.place c.line_at-line.result.now c.loop-place.invariant at (sym c.is.ensures ∙ c.if-is.true)

pub loop-place-smaller : goal.loop-place-smaller
loop-place-smaller c =
    let less : c.loop-place.place < length c.args.bytes.now = omega arith in
    let at = line_is c.args.bytes.now c.loop-place.place c.line_at-line.result.now less c.line_at-line.ensures in
    let l = longer c.args.bytes.now c.loop-place.place c.line_at-line.result.now at in
    let some = l.0 in
    let within = l.1 in
    omega (arith, some, within)

pub loop-place-preserved : goal.loop-place-preserved
loop-place-preserved c =
    let less : c.loop-place.place < length c.args.bytes.now = omega arith in
    let at = line_is c.args.bytes.now c.loop-place.place c.line_at-line.result.now less c.line_at-line.ensures in
    goes_on c.args.bytes.now c.loop-place.place c.line_at-line.result.now c.loop-place.invariant at (sym c.is.ensures ∙ c.if-is.false)
