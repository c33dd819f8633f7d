use Rattle.std.proofs.Common.{◌≡◌, IfOk, ◌∙◌, ap, subst}
use Rattle.room_state.specs.turns.Turns.{state_behind}
use Rattle.room_state.specs.turns.Turns.{step_by}
use Rattle.swap_core.proofs.FillLaws.{fill_needs}
use Rattle.swap_core.proofs.filling.fill_buffer.Goals as goal

pub returns-clause-waits : goal.returns-clause-waits
returns-clause-waits c =
    let waits = ap step_by c.next_of_fill-next.ensures ∙ fill_needs c.args.rooms.now.script (state_behind c.args.rooms.now) c.args.b in
    subst (λ told. IfOk c.turn.result (λ step. step ≡ told)) waits c.turn.ensures.told
