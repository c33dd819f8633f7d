use Rattle.room_state.proofs.ThemeLaws.{carry_has}
use Rattle.room_state.proofs.threads.make_carry.Goals as goal

pub unreachable-requires : goal.unreachable-requires
unreachable-requires g c = carry_has c.args.entry.now.kind c.requires.1.1.1.0 c.in_default.not-Bind c.in_default.not-Unbind c.in_default.not-Move
