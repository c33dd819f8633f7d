use Rattle.std.proofs.Common.{false, get_or, take, ap, sym, ◌∙◌, arith}
use Rattle.std.proofs.lemmas.List.{take_more}
use Rattle.ttm_base.specs.declared.Span.{Span}
use Rattle.block_tree.specs.FreeSet.{is_free}
use Rattle.block_tree.specs.Masks.{is_marked}
use Rattle.buddy_manager.specs.Taking.{beside}
use Rattle.buddy_manager.proofs.TakingLaws.{beside_more, marked_less}
use Rattle.buddy_manager.proofs.FindingLaws.{marked_there}
use Rattle.buddy_manager.proofs.find.mark_held.Goals as goal

pub mark-requires : goal.mark-requires
mark-requires c =
    let s = c.loop-block.invariant.size in
    let m = c.min-end.ensures in
    let v = c.size-size.ensures.value in
    omega (arith, s, m, v)

pub loop-block-preserved : goal.loop-block-preserved
loop-block-preserved c =
    let none : Span = record { start = 0; end = 0 } in
    let block : Span = get_or c.args.blocks.now c.loop-block.block-index none in
    record {
      size = c.mark.ensures.size ∙ c.loop-block.invariant.size;
      held = λ page.
          c.mark.ensures.marked page
          ∙ marked_there c.loop-block.free block.start block.end c.min-end.result page (let s = c.loop-block.invariant.size in let m = c.min-end.ensures in let v = c.size-size.ensures.value in omega (arith, s, m, v))
          ∙ ap (λ x. is_marked block false x page) (c.loop-block.invariant.held page)
          ∙ marked_less (beside (is_free c.args.free.now) (take c.loop-block.block-index c.args.blocks.now)) block page
          ∙ sym (ap (λ f. f page) (beside_more (is_free c.args.free.now) (take c.loop-block.block-index c.args.blocks.now) block))
          ∙ ap (λ bs. beside (is_free c.args.free.now) bs page) (sym (take_more c.args.blocks.now c.loop-block.block-index none (omega arith)));
    }
