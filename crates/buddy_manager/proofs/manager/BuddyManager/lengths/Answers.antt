use Rattle.std.proofs.Common.{ap, arith}
use Rattle.buddy_manager.specs.Held.{Managed}
use Rattle.buddy_manager.proofs.ManagedLaws.{used_within}
use Rattle.buddy_manager.proofs.manager.BuddyManager.lengths.Goals as goal

pub overflow_sub-result : goal.overflow_sub-result
overflow_sub-result c =
    let u = used_within c.self.inside.free c.self.inside.ends c.self.inside.used c.self.invariant in
    let v = c.size.ensures.value in
    omega (arith, u, v)

pub returns-clause-sum : goal.returns-clause-sum
returns-clause-sum c =
    let u = used_within c.self.inside.free c.self.inside.ends c.self.inside.used c.self.invariant in
    let v = c.size.ensures.value in
    let s = ap (λ (m : Managed). m.size) c.self.view_is in
    omega (arith, u, v, s)
