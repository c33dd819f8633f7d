use denote.Param.Send.{sendable}
use Rattle.std.proofs.Crossing.{crosses}
use Rattle.std.proofs.Common.{◌≡◌, ◌<◌, ◌≤◌, List, length, Some, sym, ◌∙◌, ap, subst}
use Rattle.ttm_base.specs.declared.Actor.{Actor}
use Rattle.lemma_room_sends.proofs.Sends.{mappings, rooms}
use Rattle.simulator.specs.Ends.{Kept}
use Rattle.thread_program.proofs.ThreadLaws.{at_ok, few_actors, finished}
use Rattle.thread_program.proofs.crowd.run_threads.Goals as goal

pub work_all-answer-requires-clause-actors : goal.work_all-answer-requires-clause-actors
work_all-answer-requires-clause-actors g c = λ κs lives.
    subst (λ (xs : List Actor). (1 ≤ length xs) × (length xs < 4294967296)) (sym (c.items.ensures ∙ c.in_ok-actors.ensures)) (few_actors c.args.script c.requires)

pub work_all-answer-requires-send-V : goal.work_all-answer-requires-send-V
work_all-answer-requires-send-V g c κs within = search (sendable, crosses, rooms, mappings) depth 60 fits 20000

pub returns-in-Ok : goal.returns-in-Ok
returns-in-Ok g c =
    let first : c.in_ok-turns.pass.me.0.root ≡ Some c.args.script =
    ap (λ m. m.0.root) c.in_ok-turns.ensures.1 ∙ ap (λ (d : Kept). Some d.script) c.in_ok-device.ensures in
    let seen = c.work_all-answer.ensures.onward.root c.args.script first in
    finished c.args.script c.close-device.result c.work_all-answer.result.1.me.0.seen c.work_all-answer.result.1.me.0.root c.requires
    (at_ok _ c.work_all-answer.result.0 _ c.in-Ok.is c.work_all-answer.ensures.over)
    seen c.close-device.ensures.before (c.close-device.ensures.root c.args.script seen) c.journal-legal.ensures.legal
