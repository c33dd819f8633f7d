use Rattle.std.proofs.Common.{◌-◌, length, take, drop, ap, ◌∙◌}
use Rattle.block_tree.specs.FreeSet.{is_free}
use Rattle.buddy_manager.specs.Taking.{beside}
use Rattle.buddy_manager.proofs.FindingLaws.{from_number}
use Rattle.buddy_manager.proofs.find.mark_all.Goals as goal

pub returns-clause-held : goal.returns-clause-held
returns-clause-held c = λ page.
    c.mark_held.ensures.held page
    ∙ ap (λ xs. beside (is_free c.args.free.now) (take (length xs - c.args.search.now.marked) (drop c.args.search.now.marked xs)) page) c.items.ensures
    ∙ ap (λ bs. beside (is_free c.args.free.now) bs page) (from_number c.args.search.now.marked c.args.blocks.now)
