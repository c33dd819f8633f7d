use Rattle.evict_core.proofs.Entries.{entry_looses}
use Rattle.evict_core.proofs.turns.release_victim.Goals as goal

pub make-requires : goal.make-requires
make-requires c = entry_looses c.args.rooms.now c.args.thread c.args.b c.requires.task c.requires.goes
