use Rattle.std.proofs.Common.{◌||◌, length, ap, sym, subst, ◌∙◌}
use Rattle.std.specs.List.{list_any}
use Rattle.ttm_base.specs.Holes.{has_page}
use Rattle.block_tree.specs.FreeSet.{is_free}
use Rattle.buddy_manager.specs.Taking.{AreGiven}
use Rattle.buddy_manager.proofs.TakingLaws.{given_back, given_now}
use Rattle.buddy_manager.proofs.choice.take_choice.Goals as goal

pub free_spans-requires : goal.free_spans-requires
free_spans-requires c =
    subst (AreGiven (is_free c.take_blocks.new.free) (length c.take_blocks.new.free)) (sym c.items.ensures)
    (given_now c.args.free.now c.take_blocks.new.free c.take_blocks.new.out c.take_blocks.ensures.taken)

pub returns-in-Err-clause-same : goal.returns-in-Err-clause-same
returns-in-Err-clause-same c =
    given_back c.args.free.now c.take_blocks.new.free c.free_spans.new.free c.take_blocks.new.out c.take_blocks.ensures.taken c.free_spans.ensures.size
    (λ page. c.free_spans.ensures.freed page ∙ ap (λ xs. is_free c.take_blocks.new.free page || list_any (has_page page) xs) c.items.ensures)
