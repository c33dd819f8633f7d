use Rattle.std.proofs.Common.{◌≡◌, ℕ, sym, subst}
use Rattle.block_tree.specs.FreeSet.{is_free}
use Rattle.block_tree.specs.Masks.{is_marked}
use Rattle.block_tree.specs.Searching.{numbered}
use Rattle.block_tree.proofs.free_blocks.FreeBlocks.mark_block.Goals as goal

pub returns-then-free-clause-marked : goal.returns-then-free-clause-marked
returns-then-free-clause-marked c = subst (λ t. (page : ℕ) → is_free c.free_block.new.self page ≡ is_marked (numbered c.args.block.order c.args.block.number) t (is_free c.args.self.now page) page) (sym c.if-free.true) c.free_block.ensures.marked

pub returns-else-free-clause-marked : goal.returns-else-free-clause-marked
returns-else-free-clause-marked c = subst (λ t. (page : ℕ) → is_free c.hold_block.new.self page ≡ is_marked (numbered c.args.block.order c.args.block.number) t (is_free c.args.self.now page) page) (sym c.if-free.false) c.hold_block.ensures.marked
