use Rattle.std.proofs.Common.{◌∙◌, sym, ap}
use Rattle.validate_list.proofs.Waits.{locks_other}
use Rattle.validate_list.proofs.locks.next_of_lock.Goals as goal

pub wait_die-requires-clause-other : goal.wait_die-requires-clause-other
wait_die-requires-clause-other c =
    λ own. locks_other c.args.rooms.now c.args.thread c.args.b c.requires c.journal-legal.ensures.fits c.journal-legal.ensures.legal c.in-Some.mine (ap (λ x. x.stamp) (sym c.course-course.ensures) ∙ c.in-Some.is) (sym c.holder_of.ensures ∙ own)
