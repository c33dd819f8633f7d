use Rattle.std.proofs.Common.{ℕ, Some, ap, sym, ◌∙◌, arith}
use Rattle.ttm_base.specs.declared.Span.{Span}
use Rattle.buddy_manager.proofs.EndLaws.{block_begins, none_begins}
use Rattle.buddy_manager.proofs.ends.block_from.Goals as goal

pub returns-then-start-end : goal.returns-then-start-end
returns-then-start-end c =
    let e = c.get-end.ensures in
    ap (λ (n : ℕ). let b : Span = record { start = c.args.start; end = n } in Some b) e ∙ sym (block_begins c.args.ends.now c.args.start (omega (arith, e)))

pub returns-else-start-end : goal.returns-else-start-end
returns-else-start-end c = let e = c.get-end.ensures in sym (none_begins c.args.ends.now c.args.start (omega (arith, e)))
