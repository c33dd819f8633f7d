use Rattle.room_parts.proofs.Caught.{catch_there, catch_free, catch_held}
use Rattle.room_parts.proofs.victims.catch.Goals as goal

pub stamp_of-stamp-requires : goal.stamp_of-stamp-requires
stamp_of-stamp-requires g c = catch_there g.w.script g.w.before c.args.parts.now g.w.entry c.args.thread c.args.b c.args.why c.requires.0 c.requires.1.0 c.requires.1.1

pub hold_for-requires : goal.hold_for-requires
hold_for-requires g c = catch_free g.w.script g.w.before c.args.parts.now g.w.entry c.args.thread c.args.b c.args.why c.requires.0 c.requires.1.0 c.requires.1.1 c.leave_tt.new.self c.leave_tt.ensures

pub returns-clause-ok : goal.returns-clause-ok
returns-clause-ok g c =
    catch_held g.w.script g.w.before c.args.parts.now g.w.entry c.args.thread c.args.b c.args.why c.requires.0 c.requires.1.0 c.requires.1.1 c.add_victim.new.courses c.leave_tt.new.self c.hold_for.new.bos _ c.in_ok-add_victim.ensures.ok c.stamp_of-stamp.ensures c.leave_tt.ensures c.hold_for.ensures
