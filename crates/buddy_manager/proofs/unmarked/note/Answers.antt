use Rattle.std.proofs.Common.{subst}
use Rattle.buddy_manager.specs.Finding.{IsFoundBy}
use Rattle.buddy_manager.proofs.KnownLaws.{noted_half}
use Rattle.buddy_manager.proofs.unmarked.note.Goals as goal

pub returns-in-Free-clause-known : goal.returns-in-Free-clause-known
returns-in-Free-clause-known c = λ f range is. c.note_free.ensures.known f range (subst (λ o. IsFoundBy f c.args.size range c.args.topdown c.args.order c.args.rests.now c.args.half.now o c.args.found.block) c.in-Free.is is)

pub returns-in-Spare-clause-known : goal.returns-in-Spare-clause-known
returns-in-Spare-clause-known c = λ f range is e g kn.
    noted_half g f c.args.size range c.args.topdown c.args.rests.now c.args.half.now _ c.half_beside.result c.args.order c.args.found.block kn
    (subst (λ o. IsFoundBy f c.args.size range c.args.topdown c.args.order c.args.rests.now c.args.half.now o c.args.found.block) c.in-Spare.is is) c.half_beside.ensures.order c.half_beside.ensures.number
