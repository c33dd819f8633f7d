use Rattle.room_parts.proofs.Made.{make_there, make_declared, make_known, make_absent, make_prio, make_group, make_held}
use Rattle.room_parts.proofs.buffers.make.Goals as goal

pub get-decl-requires : goal.get-decl-requires
get-decl-requires g c = make_declared c.args.script.now g.w.before c.args.parts.now g.w.entry c.args.thread c.args.b c.requires.0 c.requires.1.0 c.requires.1.1

pub add-requires-clause-known : goal.add-requires-clause-known
add-requires-clause-known g c = make_known c.args.script.now g.w.before c.args.parts.now g.w.entry c.args.thread c.args.b c.requires.0 c.requires.1.0 c.requires.1.1

pub add-requires-clause-absent : goal.add-requires-clause-absent
add-requires-clause-absent g c = make_absent c.args.script.now g.w.before c.args.parts.now g.w.entry c.args.thread c.args.b c.requires.0 c.requires.1.0 c.requires.1.1

pub add-requires-clause-prio : goal.add-requires-clause-prio
add-requires-clause-prio g c = make_prio c.args.script.now g.w.before c.args.parts.now g.w.entry c.args.thread c.args.b c.requires.0 c.requires.1.0 c.requires.1.1 _ c.get-decl.ensures

pub add-requires-clause-group : goal.add-requires-clause-group
add-requires-clause-group g c = make_group c.args.script.now g.w.before c.args.parts.now g.w.entry c.args.thread c.args.b c.requires.0 c.requires.1.0 c.requires.1.1 _ c.get-decl.ensures

pub has_made-requires : goal.has_made-requires
has_made-requires g c = make_there c.args.script.now g.w.before c.args.parts.now g.w.entry c.args.thread c.args.b c.requires.0 c.requires.1.0 c.requires.1.1

pub returns-clause-ok : goal.returns-clause-ok
returns-clause-ok g c =
    make_held c.args.script.now g.w.before c.args.parts.now g.w.entry c.args.thread c.args.b c.requires.0 c.requires.1.0 c.requires.1.1 c.has_made.new.courses c.make.new.self c.add.new.self _ c.get-decl.ensures c.has_made.ensures c.make.ensures c.in_ok-add.ensures.ok c.members_stand_once.ensures.listed
