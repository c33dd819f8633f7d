use Rattle.std.proofs.Common.{◌+◌, sym, ◌∙◌, arith}
use Rattle.turn_order.proofs.OrderLaws.{other_found, other_passed}
use Rattle.turn_order.proofs.asked.other_after.Goals as goal

pub returns-then-has_no_ticket : goal.returns-then-has_no_ticket
returns-then-has_no_ticket c =
    c.loop-i.invariant
    ∙ other_found c.args.script.now c.args.courses.now (c.loop-i.i + 1) (omega arith) (sym c.has_no_ticket.ensures ∙ c.if-has_no_ticket.true)

pub loop-i-preserved : goal.loop-i-preserved
loop-i-preserved c =
    c.loop-i.invariant
    ∙ other_passed c.args.script.now c.args.courses.now (c.loop-i.i + 1) (omega arith) (sym c.has_no_ticket.ensures ∙ c.if-has_no_ticket.false)
