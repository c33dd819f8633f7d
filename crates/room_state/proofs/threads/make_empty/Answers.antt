use Rattle.room_state.proofs.ThemeLaws.{empty_has}
use Rattle.room_state.proofs.threads.make_empty.Goals as goal

pub unreachable-requires : goal.unreachable-requires
unreachable-requires g c = empty_has c.args.entry.now.kind c.requires.1.1.1.0 c.in_default.not-Depopulate c.in_default.not-SwapOut c.in_default.not-Loose c.in_default.not-Skip
