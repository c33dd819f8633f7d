use Rattle.std.proofs.Common.{sym, ◌∙◌}
use Rattle.room_state.specs.turns.Turns.{state_behind}
use Rattle.swap_core.proofs.VictimLaws.{victim_first, victim_second}
use Rattle.swap_core.proofs.buffers.swap_victim.Goals as goal

pub returns-then-is_some : goal.returns-then-is_some
returns-then-is_some c =
    victim_first (state_behind c.args.rooms.now) c.lru-lru.result.now.lists c.lru-lru.ensures.lists_are c.first_passing-first.result c.first_passing-first.ensures (sym c.is_some.ensures ∙ c.if-is_some.true)

pub returns : goal.returns
returns c =
    victim_second (state_behind c.args.rooms.now) c.lru-lru.result.now.lists c.lru-lru.ensures.lists_are c.first_passing-first.result c.first_passing.result c.first_passing-first.ensures
    (sym c.is_some.ensures ∙ c.if-is_some.false) c.first_passing.ensures
