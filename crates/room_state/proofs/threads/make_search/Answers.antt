use Rattle.room_state.proofs.ThemeLaws.{search_has}
use Rattle.room_state.proofs.threads.make_search.Goals as goal

pub unreachable-requires : goal.unreachable-requires
unreachable-requires g c = search_has c.args.entry.now.kind c.requires.1.1.1.1.0 c.in_default.not-Take c.in_default.not-Untake c.in_default.not-Catch c.in_default.not-Dry
