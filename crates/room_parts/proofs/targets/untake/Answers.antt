use Rattle.room_parts.proofs.Untaken.{untake_held}
use Rattle.room_parts.proofs.targets.untake.Goals as goal

pub returns : goal.returns
returns g c = untake_held g.w.script g.w.before c.args.parts.now g.w.entry c.args.thread c.args.b c.args.mem c.requires.0 c.requires.1.0 c.requires.1.1 c.give_vram.new.room c.give_tt.new.room c.set_target.new.self c.give_vram.ensures.held c.give_vram.ensures.rule c.give_tt.ensures c.set_target.ensures
