use Rattle.evict_core.proofs.Entries.{entry_skips}
use Rattle.evict_core.proofs.turns.skip_victim.Goals as goal

pub make-requires : goal.make-requires
make-requires c = entry_skips c.args.rooms.now c.args.thread c.args.b c.requires
