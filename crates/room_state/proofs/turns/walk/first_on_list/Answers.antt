use Rattle.std.proofs.Common.{None, Some, find, refl, sym, ◌∙◌, ap}
use Rattle.lru_bulk.specs.Lists.{list_number}
use Rattle.room_state.proofs.turns.RestLaws.{AreSound, first_left, first_on, next_left, next_on, one_longer, find_here, find_past}
use Rattle.room_state.proofs.turns.walk.first_on_list.Goals as goal

pub returns-in_err-b : goal.returns-in_err-b
returns-in_err-b g c =
    let sound : AreSound c.args.lru.now = record {
      listed = c.members_stand_once.ensures.listed;
      once = c.members_stand_once.ensures.once;
      distinct = c.members_stand_once.ensures.distinct;
    } in
    c.from_residual.ensures
    ∙ ap (find (g.T.BufferTest.accepts c.args.test.now)) (first_left c.args.lru.now (list_number c.args.mem c.args.prio) sound None (sym c.in_err-b.was ∙ c.first.ensures))

pub loop-b-init : goal.loop-b-init
loop-b-init g c =
    let sound : AreSound c.args.lru.now = record {
      listed = c.members_stand_once.ensures.listed;
      once = c.members_stand_once.ensures.once;
      distinct = c.members_stand_once.ensures.distinct;
    } in
    let i = list_number c.args.mem c.args.prio in
    let first = sym c.in_ok-b.was ∙ c.first.ensures in
    (ap (find (g.T.BufferTest.accepts c.args.test.now)) (first_left c.args.lru.now i sound (Some c.in_ok-b.b) first), first_on c.args.lru.now i sound (Some c.in_ok-b.b) first c.in_ok-b.b refl)

pub returns-then-passes : goal.returns-then-passes
returns-then-passes g c =
    let sound : AreSound c.args.lru.now = record {
      listed = c.members_stand_once.ensures.listed;
      once = c.members_stand_once.ensures.once;
      distinct = c.members_stand_once.ensures.distinct;
    } in
    let goes = next_left c.args.lru.now (list_number c.args.mem c.args.prio) sound c.loop-b.b c.loop-b.invariant.1 _ refl in
    sym (find_here (g.T.BufferTest.accepts c.args.test.now) _ _ c.loop-b.b goes (sym c.passes.ensures ∙ c.if-passes.true)) ∙ c.loop-b.invariant.0

pub returns-in_err-b-2 : goal.returns-in_err-b-2
returns-in_err-b-2 g c =
    let sound : AreSound c.args.lru.now = record {
      listed = c.members_stand_once.ensures.listed;
      once = c.members_stand_once.ensures.once;
      distinct = c.members_stand_once.ensures.distinct;
    } in
    let goes = next_left c.args.lru.now (list_number c.args.mem c.args.prio) sound c.loop-b.b c.loop-b.invariant.1 None (sym c.in_err-b-2.was ∙ c.next.ensures) in
    c.from_residual-in_err-b-2.ensures ∙ find_past (g.T.BufferTest.accepts c.args.test.now) _ _ c.loop-b.b goes (sym c.passes.ensures ∙ c.if-passes.false) ∙ c.loop-b.invariant.0

pub loop-b-smaller : goal.loop-b-smaller
loop-b-smaller g c =
    let sound : AreSound c.args.lru.now = record {
      listed = c.members_stand_once.ensures.listed;
      once = c.members_stand_once.ensures.once;
      distinct = c.members_stand_once.ensures.distinct;
    } in
    one_longer _ _ c.loop-b.b (next_left c.args.lru.now (list_number c.args.mem c.args.prio) sound c.loop-b.b c.loop-b.invariant.1 (Some c.in_ok-b-2.b) (sym c.in_ok-b-2.was ∙ c.next.ensures))

pub loop-b-preserved : goal.loop-b-preserved
loop-b-preserved g c =
    let sound : AreSound c.args.lru.now = record {
      listed = c.members_stand_once.ensures.listed;
      once = c.members_stand_once.ensures.once;
      distinct = c.members_stand_once.ensures.distinct;
    } in
    let i = list_number c.args.mem c.args.prio in
    let next = sym c.in_ok-b-2.was ∙ c.next.ensures in
    let goes = next_left c.args.lru.now i sound c.loop-b.b c.loop-b.invariant.1 (Some c.in_ok-b-2.b) next in (
      find_past (g.T.BufferTest.accepts c.args.test.now) _ _ c.loop-b.b goes (sym c.passes.ensures ∙ c.if-passes.false) ∙ c.loop-b.invariant.0,
      next_on c.args.lru.now i sound c.loop-b.b c.loop-b.invariant.1 (Some c.in_ok-b-2.b) next c.in_ok-b-2.b refl,
    )
