use Rattle.std.proofs.Common.{◌≡◌, ◌+◌, List, length, length-set, get_or, drop, sym, subst, ap, ◌∙◌, arith}
use Rattle.ttm_base.specs.declared.Span.{Span}
use Rattle.buddy_manager.specs.Held.{held_from, without, without_all, AreHeld}
use Rattle.buddy_manager.proofs.ManagedLaws.{let_go_one, held_at, next_of}
use Rattle.buddy_manager.proofs.ends.let_go.Goals as goal

pub replace-requires : goal.replace-requires
replace-requires c =
    let b : Span = get_or c.args.blocks.now c.loop-block.block-index (record { start = 0; end = 0 }) in
    let next = next_of c.args.blocks.now c.loop-block.block-index (omega arith) in
    let h = subst (λ bs. AreHeld bs (held_from 0 c.loop-block.ends)) next c.loop-block.invariant.held in
    let a = held_at c.loop-block.ends b h.0 in
    let e = a.end in
    let s = a.some in
    omega (arith, e, s)

pub loop-block-preserved : goal.loop-block-preserved
loop-block-preserved c =
    let b : Span = get_or c.args.blocks.now c.loop-block.block-index (record { start = 0; end = 0 }) in
    let rest : List Span = drop (c.loop-block.block-index + 1) c.args.blocks.now in
    let next = next_of c.args.blocks.now c.loop-block.block-index (omega arith) in
    let h = subst (λ bs. AreHeld bs (held_from 0 c.loop-block.ends)) next c.loop-block.invariant.held in
    let one : held_from 0 c.replace.new.self ≡ without b (held_from 0 c.loop-block.ends) = ap (held_from 0) c.replace.ensures ∙ let_go_one c.loop-block.ends b h.0 in
    record {
      len = ap length c.replace.ensures ∙ length-set c.loop-block.ends b.start 0 ∙ c.loop-block.invariant.len;
      held = subst (AreHeld rest) (sym one) h.1;
      same = ap (without_all rest) one ∙ sym (ap (λ bs. without_all bs (held_from 0 c.loop-block.ends)) next) ∙ c.loop-block.invariant.same;
    }
