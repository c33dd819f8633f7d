use Rattle.std.proofs.Common.{◌≡◌, List, ap, ◌∙◌, arith, subst}
use Rattle.journal_model.specs.declared.script.Decl.{Decl}
use Rattle.generated_load.specs.Buffers.{load_buffers}
use Rattle.generated_load.proofs.DrawnLaws.{no_buffers, one_buffer}
use Rattle.generated_load.proofs.buffers.draw_buffers.Goals as goal

pub loop-number-init : goal.loop-number-init
loop-number-init c = ap (λ (ds : List Decl). (ds, c.args.draws.now)) c.new-buffers.ensures ∙ no_buffers c.args.draws.now

pub loop-number-preserved : goal.loop-number-preserved
loop-number-preserved c =
    one_buffer c.loop-number.number c.draw-prio.result c.args.draws.now c.loop-number.draws c.draw-prio.new.self c.loop-number.buffers c.push.new.self c.in_ok-buffer.field-0
    c.loop-number.invariant c.draw-prio.ensures.drawn c.in_ok-buffer.ensures c.in_ok-push.ensures.ok

pub returns : goal.returns
returns c =
    let all : c.loop-number.number ≡ 24 = omega arith in
    subst (λ n. (c.loop-number.buffers, c.loop-number.draws) ≡ load_buffers n c.args.draws.now) all c.loop-number.invariant
