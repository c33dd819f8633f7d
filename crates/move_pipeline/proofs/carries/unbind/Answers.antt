use Rattle.move_pipeline.proofs.Carried.{unbound_declared}
use Rattle.move_pipeline.proofs.carries.unbind.Goals as goal

pub need-requires : goal.need-requires
need-requires c = unbound_declared c.args.rooms.now c.args.thread c.args.b c.requires c.journal-legal.ensures.fits c.journal-legal.ensures.legal
