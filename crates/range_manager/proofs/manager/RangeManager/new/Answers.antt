use Rattle.std.proofs.Common.{ap, sym, subst, ◌∙◌, arith}
use Rattle.range_manager.specs.Held.{held_spans}
use Rattle.range_manager.specs.Kept.{IsManaged}
use Rattle.range_manager.proofs.EndLaws.{none_held}
use Rattle.range_manager.proofs.ManagedLaws.{managed_new}
use Rattle.range_manager.proofs.manager.RangeManager.new.Goals as goal

pub invariant_of-result : goal.invariant_of-result
invariant_of-result c =
    subst (λ es. IsManaged c.in_ok-holes.holes es 0 0) (sym c.in_ok-ends.ensures)
    (managed_new c.in_ok-holes.holes c.args.pages (omega arith) c.in_ok-holes.ensures.spaced c.in_ok-holes.ensures.pages)

pub returns-clause-held : goal.returns-clause-held
returns-clause-held c = ap (held_spans 0) c.in_ok-ends.ensures ∙ none_held c.args.pages 0
