use Rattle.room_representation.proofs.steps.Lent.{lent_below, lent_is}
use Rattle.room_state.proofs.rooms.Rooms.lent.Goals as goal

pub get-requires : goal.get-requires
get-requires c = lent_below c.args.self.now.script c.args.self.now.journal c.parts.result.now c.parts.ensures c.args.b c.requires

pub returns : goal.returns
returns c = lent_is c.args.self.now.script c.args.self.now.journal c.parts.result.now c.parts.ensures c.args.b c.requires c.get.result.now c.get.ensures
