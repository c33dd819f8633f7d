use Rattle.std.proofs.Common.{◌<◌, ◌^◌, ap, sym, subst, ◌∙◌, arith}
use Rattle.buddy_manager.specs.Held.{held_from}
use Rattle.buddy_manager.specs.Taking.{IsManaged}
use Rattle.buddy_manager.proofs.HeldLaws.{none_held}
use Rattle.buddy_manager.proofs.ManagedLaws.{managed_new}
use Rattle.buddy_manager.proofs.manager.BuddyManager.new.Goals as goal

pub invariant_of-result : goal.invariant_of-result
invariant_of-result c =
    let small : c.args.pages < 2 ^ 31 = omega arith in
    subst (λ es. IsManaged c.in_ok-free.free es 0) (sym c.in_ok-ends.ensures)
    (managed_new c.in_ok-free.free c.args.pages c.in_ok-free.ensures.size small c.in_ok-free.ensures.free)

pub returns-clause-held : goal.returns-clause-held
returns-clause-held c = ap (held_from 0) c.in_ok-ends.ensures ∙ none_held c.args.pages 0
