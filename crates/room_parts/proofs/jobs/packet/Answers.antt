use Rattle.room_parts.proofs.Ran.{packet_ring, packet_left, packet_can, packet_held}
use Rattle.room_parts.proofs.jobs.packet.Goals as goal

pub run_next-requires-clause-known : goal.run_next-requires-clause-known
run_next-requires-clause-known g c = packet_ring g.w.script g.w.before c.args.parts.now g.w.entry c.args.ctx c.args.num c.args.k c.args.piece.now c.requires.0 c.requires.1.0 c.requires.1.1

pub run_next-requires-clause-left : goal.run_next-requires-clause-left
run_next-requires-clause-left g c = packet_left g.w.script g.w.before c.args.parts.now g.w.entry c.args.ctx c.args.num c.args.k c.args.piece.now c.requires.0 c.requires.1.0 c.requires.1.1

pub run_next-requires-clause-can : goal.run_next-requires-clause-can
run_next-requires-clause-can g c = packet_can g.w.script g.w.before c.args.parts.now g.w.entry c.args.ctx c.args.num c.args.k c.args.piece.now c.requires.0 c.requires.1.0 c.requires.1.1

pub returns-clause-ok : goal.returns-clause-ok
returns-clause-ok g c = packet_held g.w.script g.w.before c.args.parts.now g.w.entry c.args.ctx c.args.num c.args.k c.args.piece.now c.requires.0 c.requires.1.0 c.requires.1.1 c.run_next.new.self c.run_next.new.stores c.run_next.ensures.ran c.run_next.ensures.stores
