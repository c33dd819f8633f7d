use Rattle.std.proofs.Common.{◌+◌, List, ◌++◌, None, ap, ◌∙◌, arith}
use Rattle.ttm_base.specs.declared.Actor.{Actor}
use Rattle.turn_order.specs.Left.{left_after, threads_after}
use Rattle.turn_order.proofs.OrderLaws.{engine_next}
use Rattle.turn_order.proofs.asked.Asked.next.Goals as goal

pub returns-in-Reaper : goal.returns-in-Reaper
returns-in-Reaper c =
    ap (left_after c.args.script.now c.args.courses.now) c.in-Reaper.is
    ∙ ap (λ (es : List Actor). es ++ threads_after c.args.script.now c.args.courses.now None) (engine_next c.args.script.now 0 (omega arith))

pub returns-in-Engine : goal.returns-in-Engine
returns-in-Engine c =
    ap (left_after c.args.script.now c.args.courses.now) c.in-Engine.is
    ∙ ap (λ (es : List Actor). es ++ threads_after c.args.script.now c.args.courses.now None) (engine_next c.args.script.now (c.in-Engine.e + 1) (omega arith))
