use Rattle.std.proofs.Common.{length, sym, subst}
use Rattle.block_tree.specs.FreeSet.{is_free}
use Rattle.buddy_manager.specs.Taking.{AreTaken, IsTakenBy}
use Rattle.buddy_manager.proofs.TakingLaws.{none_taken}
use Rattle.buddy_manager.proofs.choice.contiguous.Goals as goal

pub take_spans-requires : goal.take_spans-requires
take_spans-requires c = subst (AreTaken (is_free c.args.free.now) (length c.args.free.now)) (sym c.items.ensures) c.in_ok-find_block.ensures.can

pub returns-in_err-find_block-clause-taken : goal.returns-in_err-find_block-clause-taken
returns-in_err-find_block-clause-taken c = subst (λ xs. IsTakenBy c.args.free.now xs c.args.free.now) (sym c.in_err-find_block.ensures.empty) (none_taken c.args.free.now)

pub returns-clause-taken : goal.returns-clause-taken
returns-clause-taken c = subst (λ xs. IsTakenBy c.args.free.now xs c.take_spans.new.free) c.items.ensures c.take_spans.ensures
