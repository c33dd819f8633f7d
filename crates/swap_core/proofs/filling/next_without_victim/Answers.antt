use Rattle.std.proofs.Common.{Some, None}
use Rattle.room_state.specs.turns.Turns.{state_behind}
use Rattle.swap_core.proofs.FillLaws.{without_victim}
use Rattle.swap_core.proofs.filling.next_without_victim.Goals as goal

pub returns-in-Some : goal.returns-in-Some
returns-in-Some c = without_victim (state_behind c.args.rooms.now) c.args.b c.ghosts.result.now c.ghosts.ensures (Some c.in-Some.g) c.in-Some.ensures

pub returns-in-None : goal.returns-in-None
returns-in-None c = without_victim (state_behind c.args.rooms.now) c.args.b c.ghosts.result.now c.ghosts.ensures None c.in-None.ensures
