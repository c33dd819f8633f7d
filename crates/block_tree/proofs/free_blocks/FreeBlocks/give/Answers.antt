use Rattle.std.proofs.Common.{true, ◌+◌, refl, ap, sym, ◌∙◌, arith}
use Rattle.block_tree.specs.FreeSet.{is_free}
use Rattle.block_tree.specs.Masks.{is_marked}
use Rattle.block_tree.specs.Searching.{numbered}
use Rattle.block_tree.proofs.SpanLaws.{span, marked_more, marked_none, marked_all, still_held}
use Rattle.block_tree.proofs.free_blocks.FreeBlocks.give.Goals as goal

pub give_block-requires : goal.give_block-requires
give_block-requires c =
    let s = c.largest_at-block.ensures.start in
    let e = c.largest_at-block.ensures.end in
    let z = c.loop-start.invariant.size in
    let q = c.requires.end in
    record {
      end = omega (arith, s, e, z, q);
      held = λ p i. still_held c.args.span.start c.loop-start.start c.args.span.end c.largest_at-block.result.order c.largest_at-block.result.number p (is_free c.loop-start.self p) (is_free c.args.self.now p) c.loop-start.invariant.from s e (c.loop-start.invariant.marked p) (c.requires.held p) i;
    }

pub loop-start-init : goal.loop-start-init
loop-start-init c = record { size = refl; from = omega arith; to = omega arith; marked = λ p. sym (marked_none c.args.span.start p true (is_free c.args.self.now p)) }

pub loop-start-preserved : goal.loop-start-preserved
loop-start-preserved c =
    let e = c.largest_at-block.ensures.end in
    let l = c.block_len-start.ensures.value in
    let f = c.loop-start.invariant.from in
    let t = c.loop-start.invariant.to in
    record {
      size = c.give_block.ensures.size ∙ c.loop-start.invariant.size;
      from = omega (arith, f);
      to = omega (arith, e, l, t);
      marked = λ p. c.give_block.ensures.marked p
          ∙ ap (λ b. is_marked (numbered c.largest_at-block.result.order c.largest_at-block.result.number) true b p) (c.loop-start.invariant.marked p)
          ∙ marked_more c.args.span.start c.loop-start.start c.largest_at-block.result.order c.largest_at-block.result.number p true (is_free c.args.self.now p) f c.largest_at-block.ensures.start
          ∙ ap (λ n. is_marked (span c.args.span.start (c.loop-start.start + n)) true (is_free c.args.self.now p) p) (sym l);
    }

pub returns-clause-size : goal.returns-clause-size
returns-clause-size c = c.loop-start.invariant.size

pub returns-clause-marked : goal.returns-clause-marked
returns-clause-marked c = λ p. c.loop-start.invariant.marked p ∙ marked_all c.args.span.start c.loop-start.start c.args.span.end p true (is_free c.args.self.now p) c.loop-start.invariant.from c.loop-start.invariant.to c.loop-start-test.false
