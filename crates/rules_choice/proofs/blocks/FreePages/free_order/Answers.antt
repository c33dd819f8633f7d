use Rattle.std.proofs.Common.{◌∙◌, length, sym, arith}
use Rattle.rules_choice.specs.Marks.{marked}
use Rattle.rules_choice.proofs.OrderLaws.{free_order_on, free_order_ends}
use Rattle.rules_choice.proofs.blocks.FreePages.free_order.Goals as goal

pub loop-left-preserved : goal.loop-left-preserved
loop-left-preserved c =
    record {
      sum = omega arith;
      same =
          free_order_on (marked c.args.self.now.marks.items) (length c.args.self.now.marks.items) c.args.page c.loop-left.whole c.loop-left.left
          c.loop-left-test.true
          (sym c.if-is_free_block.ensures)
          ∙ c.loop-left.invariant.same;
    }

pub returns-else-is_free_block-clause-order : goal.returns-else-is_free_block-clause-order
returns-else-is_free_block-clause-order c =
    free_order_ends (marked c.args.self.now.marks.items) (length c.args.self.now.marks.items) c.args.page c.loop-left.whole c.loop-left.left
    (sym c.if-is_free_block.ensures)
    ∙ c.loop-left.invariant.same
