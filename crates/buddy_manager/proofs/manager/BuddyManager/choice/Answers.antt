use Rattle.std.proofs.Common.{subst}
use Rattle.ttm_base.specs.Holes.{is_free_beside}
use Rattle.buddy_manager.specs.Held.{Managed}
use Rattle.buddy_manager.specs.Taking.{AreTaken}
use Rattle.buddy_manager.proofs.ManagedLaws.{managed_same, can_hold_all}
use Rattle.buddy_manager.proofs.manager.BuddyManager.choice.Goals as goal

pub invariant_of-self : goal.invariant_of-self
invariant_of-self c = managed_same c.self.inside.free c.find_choice.new.free c.self.inside.ends c.self.inside.used c.self.invariant c.find_choice.ensures.same

pub invariant_of-self-2 : goal.invariant_of-self-2
invariant_of-self-2 c = managed_same c.self.inside.free c.find_choice.new.free c.self.inside.ends c.self.inside.used c.self.invariant c.find_choice.ensures.same

pub returns-clause-free : goal.returns-clause-free
returns-clause-free c =
    subst (λ (m : Managed). AreTaken (is_free_beside m.held) m.size c.find_choice.new.out) c.self.view_is
    (can_hold_all c.self.inside.free c.self.inside.ends c.self.inside.used c.find_choice.new.out c.self.invariant c.in_ok-find_choice.ensures.can)
