use Rattle.std.proofs.Common.{length, get_or, take, sym, subst, arith}
use Rattle.std.proofs.lemmas.List.{take_more}
use Rattle.ttm_base.specs.declared.Span.{Span}
use Rattle.block_tree.specs.FreeSet.{is_free}
use Rattle.buddy_manager.specs.Taking.{IsTakenBy}
use Rattle.buddy_manager.proofs.TakingLaws.{none_taken, taken_at, can_take_now, took_more}
use Rattle.buddy_manager.proofs.choice.take_spans.Goals as goal

pub mark-requires : goal.mark-requires
mark-requires c =
    let can = taken_at (is_free c.args.free.now) (length c.args.free.now) c.args.spans.now c.loop-span.span-index (record { start = 0; end = 0 }) c.requires (omega arith) in
    let w = can.within in
    let s = c.loop-span.invariant.size in
    omega (arith, w, s)

pub loop-span-init : goal.loop-span-init
loop-span-init c = none_taken c.args.free.now

pub loop-span-preserved : goal.loop-span-preserved
loop-span-preserved c =
    let none : Span = record { start = 0; end = 0 } in
    let span : Span = get_or c.args.spans.now c.loop-span.span-index none in
    let can = taken_at (is_free c.args.free.now) (length c.args.free.now) c.args.spans.now c.loop-span.span-index none c.requires (omega arith) in
    let now = can_take_now c.args.free.now c.loop-span.free (take c.loop-span.span-index c.args.spans.now) span c.loop-span.invariant can in
    subst (λ xs. IsTakenBy c.args.free.now xs c.mark.new.self) (sym (take_more c.args.spans.now c.loop-span.span-index none (omega arith)))
    (took_more c.args.free.now c.loop-span.free c.mark.new.self (take c.loop-span.span-index c.args.spans.now) span c.loop-span.invariant now c.mark.ensures.size c.mark.ensures.marked)
