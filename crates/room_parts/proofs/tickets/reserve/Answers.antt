use Rattle.room_parts.proofs.Ticketed.{reserve_there, reserve_free, reserve_held}
use Rattle.room_parts.proofs.tickets.reserve.Goals as goal

pub stamp_of-stamp-requires : goal.stamp_of-stamp-requires
stamp_of-stamp-requires g c = reserve_there g.w.script g.w.before c.args.parts.now g.w.entry c.args.thread c.args.b c.requires.0 c.requires.1.0 c.requires.1.1

pub hold_for-requires : goal.hold_for-requires
hold_for-requires g c = reserve_free g.w.script g.w.before c.args.parts.now g.w.entry c.args.thread c.args.b c.requires.0 c.requires.1.0 c.requires.1.1

pub returns-clause-ok : goal.returns-clause-ok
returns-clause-ok g c = reserve_held g.w.script g.w.before c.args.parts.now g.w.entry c.args.thread c.args.b c.requires.0 c.requires.1.0 c.requires.1.1 c.hold.new.courses c.hold_for.new.bos _ c.in_ok-hold.ensures.ok c.stamp_of-stamp.ensures c.hold_for.ensures
