use Rattle.room_state.proofs.ThemeLaws.{act_has}
use Rattle.room_state.proofs.threads.make_act.Goals as goal

pub unreachable-requires : goal.unreachable-requires
unreachable-requires g c = act_has c.args.entry.now.kind c.requires.1.1.1.1.0 c.in_default.not-New c.in_default.not-Free c.in_default.not-Arm c.in_default.not-Bulk c.in_default.not-Result c.in_default.not-Refused
