use Rattle.room_state.proofs.ThemeLaws.{fill_has}
use Rattle.room_state.proofs.threads.make_fill.Goals as goal

pub unreachable-requires : goal.unreachable-requires
unreachable-requires g c = fill_has c.args.entry.now.kind c.requires.1.1.1.0 c.in_default.not-Populate c.in_default.not-SwapIn c.in_default.not-NoPages
