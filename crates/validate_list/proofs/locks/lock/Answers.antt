use Rattle.std.proofs.Common.{◌≡◌, IfOk, sym, subst}
use Rattle.validate_list.proofs.Waits.{lock_awaits}
use Rattle.validate_list.proofs.locks.lock.Goals as goal

pub returns-clause-waits : goal.returns-clause-waits
returns-clause-waits c = subst (λ x. IfOk c.lock_buffer.result (λ step. step ≡ x)) (lock_awaits c.args.rooms.now c.args.thread c.in-Lock.b (sym c.in-Lock.ensures)) c.lock_buffer.ensures.step
