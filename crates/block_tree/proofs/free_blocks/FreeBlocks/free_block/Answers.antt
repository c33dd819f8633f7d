use Rattle.std.proofs.Common.{true, length, ap, ◌∙◌, arith}
use Rattle.block_tree.specs.FreeSet.{is_free}
use Rattle.block_tree.specs.Masks.{is_marked}
use Rattle.block_tree.specs.Searching.{numbered}
use Rattle.block_tree.proofs.MarkingLaws.{around_marked, marked_again, marked_held}
use Rattle.block_tree.proofs.free_blocks.FreeBlocks.free_block.Goals as goal

pub around-requires : goal.around-requires
around-requires c = c.requires

pub clear_inside-requires : goal.clear_inside-requires
clear_inside-requires c = record { end = c.requires; small = c.around.ensures.size; held = c.in-None.ensures.around }

pub give_block-requires : goal.give_block-requires
give_block-requires c =
    let z = c.clear_inside.ensures.size in
    let l = c.requires in
    record {
      end = omega (arith, z, l);
      held = λ p x. c.clear_inside.ensures.marked p ∙ marked_held c.args.block.order c.args.block.number p (is_free c.args.self.now p) x;
    }

pub returns-in-Some-clause-marked : goal.returns-in-Some-clause-marked
returns-in-Some-clause-marked c = around_marked (is_free c.args.self.now) (length c.args.self.now) c.args.block.order c.args.block.number c.in-Some.field-0 c.in-Some.ensures.around

pub returns-in-None-clause-size : goal.returns-in-None-clause-size
returns-in-None-clause-size c = c.give_block.ensures.size ∙ c.clear_inside.ensures.size

pub returns-in-None-clause-marked : goal.returns-in-None-clause-marked
returns-in-None-clause-marked c = λ p.
    c.give_block.ensures.marked p
    ∙ ap (λ b. is_marked (numbered c.args.block.order c.args.block.number) true b p) (c.clear_inside.ensures.marked p)
    ∙ marked_again c.args.block.order c.args.block.number p (is_free c.args.self.now p)
