use Rattle.std.proofs.Common.{◌<◌, sym, ◌∙◌, arith}
use Rattle.room_state.proofs.turns.RestLaws.{found_here, found_behind}
use Rattle.room_state.proofs.turns.walk.first_passing.Goals as goal

pub returns-then-is_some : goal.returns-then-is_some
returns-then-is_some g c =
    let low : c.loop-prio.prio < 4 = omega arith in
    found_here (g.T.BufferTest.accepts c.args.test.now) c.args.mem c.args.lru.now.lists c.members_stand_once.ensures.twelve c.loop-prio.prio low c.first_on_list-found.result c.first_on_list-found.ensures (sym c.is_some.ensures ∙ c.if-is_some.true)
    ∙ c.loop-prio.invariant

pub loop-prio-preserved : goal.loop-prio-preserved
loop-prio-preserved g c =
    let low : c.loop-prio.prio < 4 = omega arith in
    found_behind (g.T.BufferTest.accepts c.args.test.now) c.args.mem c.args.lru.now.lists c.members_stand_once.ensures.twelve c.loop-prio.prio low c.first_on_list-found.result c.first_on_list-found.ensures (sym c.is_some.ensures ∙ c.if-is_some.false)
    ∙ c.loop-prio.invariant
