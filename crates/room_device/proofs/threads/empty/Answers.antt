use Rattle.std.proofs.Common.{sym}
use Rattle.room_device.proofs.Emptied.{empty_lets_go}
use Rattle.room_device.proofs.threads.empty.Goals as goal

pub release_victim-requires-clause-goes : goal.release_victim-requires-clause-goes
release_victim-requires-clause-goes c = empty_lets_go c.args.rooms.now c.args.thread c.args.b c.requires (sym c.if-is_victim_due.ensures.due)
