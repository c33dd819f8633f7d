use Rattle.room_parts.proofs.Caught.{skip_there, skip_held}
use Rattle.room_parts.proofs.victims.skip.Goals as goal

pub skip_victim-requires : goal.skip_victim-requires
skip_victim-requires g c = skip_there g.w.script g.w.before c.args.parts.now g.w.entry c.args.thread c.args.b c.requires.0 c.requires.1.0 c.requires.1.1

pub returns-clause-ok : goal.returns-clause-ok
returns-clause-ok g c = skip_held g.w.script g.w.before c.args.parts.now g.w.entry c.args.thread c.args.b c.requires.0 c.requires.1.0 c.requires.1.1 c.skip_victim.new.courses c.release.new.self c.in_ok-skip_victim.ensures.ok c.release.ensures
