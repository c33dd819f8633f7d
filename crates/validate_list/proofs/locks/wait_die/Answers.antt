use Rattle.std.proofs.Common.{refl}
use Rattle.validate_list.proofs.Waits.{backs, stays}
use Rattle.validate_list.proofs.locks.wait_die.Goals as goal

pub returns-in-Backoff : goal.returns-in-Backoff
returns-in-Backoff c =
    let why = (c.in-Backoff.ensures.backoff c.in-Backoff.s).0 refl in
    backs c.args.course.now c.args.mine c.len.result c.args.b c.args.holder c.in-Backoff.s c.requires.ticket c.len.ensures why.0 why.1 why.2

pub returns-in-Wait : goal.returns-in-Wait
returns-in-Wait c =
    let why = (c.in-Wait.ensures.wait c.in-Wait.s).0 refl in
    stays c.args.course.now c.args.mine c.len.result c.args.b c.args.holder c.in-Wait.s c.requires.ticket c.len.ensures why.0 why.1
