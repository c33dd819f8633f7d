use Rattle.std.proofs.Common.{◌≡◌, true, sym, ◌∙◌, arith}
use Rattle.std.proofs.lemmas.Grind.{common_steps}
use Rattle.rules_search.proofs.RoomLaws.{room_of_tests, tests_of_room}
use Rattle.rules_search.proofs.room.has_room.Goals as goal

pub returns : goal.returns
returns c = (
  λ h. let passed : c.tests_room.result ≡ true = grind (arith, common_steps, h) in room_of_tests c.args.script.now c.args.state.now (sym c.tests_room.ensures ∙ passed),
  λ r. let passed : c.tests_room.result ≡ true = c.tests_room.ensures ∙ tests_of_room c.args.script.now c.args.state.now r in grind (arith, common_steps, passed),
)
