use Rattle.room_state.proofs.ThemeLaws.{lock_has}
use Rattle.room_state.proofs.threads.make_lock.Goals as goal

pub unreachable-requires : goal.unreachable-requires
unreachable-requires g c = lock_has c.args.entry.now.kind c.requires.1.1.1.0 c.in_default.not-Ticket c.in_default.not-Reserve c.in_default.not-Backoff
