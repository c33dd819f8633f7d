use Rattle.std.proofs.Common.{◌≤◌, ◌+◌, ◌∷◌, ◌++◌, [], length, ap, sym, subst, ◌∙◌, arith}
use Rattle.ttm_base.specs.declared.Span.{Span}
use Rattle.block_tree.specs.FreeSet.{is_free}
use Rattle.buddy_manager.specs.Taking.{AreTaken}
use Rattle.buddy_manager.proofs.TakingLaws.{can_take_first}
use Rattle.buddy_manager.proofs.choice.find_block.Goals as goal
use Rattle.buddy_manager.proofs.choice.find_block.Goals.{In-Some}

fits : (c : In-Some) → c.in-Some.block.start + c.args.pages ≤ c.in-Some.block.end
fits c =
    let len = c.in-Some.ensures.len in
    let enough = c.order_of.ensures.enough in
    omega (arith, len, enough)

pub overflow_add-span : goal.overflow_add-span
overflow_add-span c =
    let f = fits (goal.at.overflow_add-span c).In-Some in
    let s = c.in-Some.ensures.small in
    omega (arith, f, s)

pub returns-clause-can : goal.returns-clause-can
returns-clause-can c =
    let span : Span = record { start = c.in-Some.block.start; end = c.in-Some.block.start + c.args.pages } in
    let can = can_take_first (is_free c.args.free.now) (length c.args.free.now) c.in-Some.block c.args.pages c.in-Some.ensures.within c.in-Some.ensures.free c.requires.some (fits (goal.at.returns-clause-can c).In-Some) in
    subst (AreTaken (is_free c.args.free.now) (length c.args.free.now)) (sym (c.in-Ok.ensures.ok ∙ ap (λ xs. xs ++ span ∷ []) c.requires.empty)) (can, tt)
