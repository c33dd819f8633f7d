use Rattle.std.proofs.Common.{◌||◌, length, get_or, take, ap, sym, ◌∙◌, arith}
use Rattle.std.specs.List.{list_any}
use Rattle.std.proofs.Math.Bool.{or_assoc}
use Rattle.ttm_base.specs.declared.Span.{Span}
use Rattle.ttm_base.specs.Holes.{has_page}
use Rattle.block_tree.specs.FreeSet.{is_free}
use Rattle.buddy_manager.proofs.TakingLaws.{any_more, given_at, marked_more}
use Rattle.buddy_manager.proofs.choice.free_spans.Goals as goal

pub give-requires : goal.give-requires
give-requires c =
    let can = given_at (is_free c.args.free.now) (length c.args.free.now) c.args.spans.now c.loop-span.span-index (record { start = 0; end = 0 }) c.requires (omega arith) in
    let within = can.within in
    let size = c.loop-span.invariant.size in
    record {
      end = omega (arith, within, size);
      held = λ page t. c.loop-span.invariant.freed page ∙ can.held page t;
    }

pub loop-span-preserved : goal.loop-span-preserved
loop-span-preserved c =
    let none : Span = record { start = 0; end = 0 } in
    let span : Span = get_or c.args.spans.now c.loop-span.span-index none in
    let so_far = c.loop-span.invariant in
    record {
      size = c.give.ensures.size ∙ so_far.size;
      freed = λ page.
          c.give.ensures.marked page
          ∙ marked_more span (is_free c.loop-span.free page) page
          ∙ ap (λ t. t || has_page page span) (so_far.freed page)
          ∙ or_assoc (is_free c.args.free.now page) (list_any (has_page page) (take c.loop-span.span-index c.args.spans.now)) (has_page page span)
          ∙ ap (λ t. is_free c.args.free.now page || t) (sym (any_more page c.args.spans.now c.loop-span.span-index none (omega arith)));
    }
