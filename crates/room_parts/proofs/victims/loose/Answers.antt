use Rattle.room_parts.proofs.Caught.{loose_there, loose_held}
use Rattle.room_parts.proofs.victims.loose.Goals as goal

pub forget_victim-requires : goal.forget_victim-requires
forget_victim-requires g c = loose_there g.w.script g.w.before c.args.parts.now g.w.entry c.args.thread c.args.b c.requires.0 c.requires.1.0 c.requires.1.1

pub returns : goal.returns
returns g c = loose_held g.w.script g.w.before c.args.parts.now g.w.entry c.args.thread c.args.b c.requires.0 c.requires.1.0 c.requires.1.1 c.forget_victim.new.courses c.release.new.self c.touch.new.lru c.forget_victim.ensures c.release.ensures c.touch.ensures c.members_stand_once.ensures.listed
