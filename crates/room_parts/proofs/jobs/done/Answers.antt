use Rattle.room_parts.proofs.Ran.{done_ring, done_head, done_over, done_known, done_some, done_held}
use Rattle.room_parts.proofs.jobs.done.Goals as goal

pub finish-requires-clause-known : goal.finish-requires-clause-known
finish-requires-clause-known g c = done_ring g.w.script g.w.before c.args.parts.now g.w.entry c.args.ctx c.args.num c.requires.0 c.requires.1.0 c.requires.1.1

pub finish-requires-clause-head : goal.finish-requires-clause-head
finish-requires-clause-head g c = done_head g.w.script g.w.before c.args.parts.now g.w.entry c.args.ctx c.args.num c.requires.0 c.requires.1.0 c.requires.1.1

pub finish-requires-clause-over : goal.finish-requires-clause-over
finish-requires-clause-over g c = done_over g.w.script g.w.before c.args.parts.now g.w.entry c.args.ctx c.args.num c.requires.0 c.requires.1.0 c.requires.1.1

pub done-requires-clause-known : goal.done-requires-clause-known
done-requires-clause-known g c = done_known g.w.script g.w.before c.args.parts.now g.w.entry c.args.ctx c.args.num c.requires.0 c.requires.1.0 c.requires.1.1

pub done-requires-clause-some : goal.done-requires-clause-some
done-requires-clause-some g c = done_some g.w.script g.w.before c.args.parts.now g.w.entry c.args.ctx c.args.num c.requires.0 c.requires.1.0 c.requires.1.1

pub returns : goal.returns
returns g c = done_held g.w.script g.w.before c.args.parts.now g.w.entry c.args.ctx c.args.num c.requires.0 c.requires.1.0 c.requires.1.1 c.finish.new.self c.done.new.self c.finish.ensures c.done.ensures
