use Rattle.std.proofs.Common.{ap, arith}
use Rattle.range_manager.specs.Held.{Managed}
use Rattle.range_manager.proofs.ManagedLaws.{used_within}
use Rattle.range_manager.proofs.manager.RangeManager.lengths.Goals as goal

pub overflow_sub-result : goal.overflow_sub-result
overflow_sub-result c =
    let u = used_within c.self.inside.holes c.self.inside.ends c.self.inside.used c.self.inside.count c.self.invariant in
    let v = c.len.ensures in
    omega (arith, u, v)

pub returns-clause-sum : goal.returns-clause-sum
returns-clause-sum c =
    let u = used_within c.self.inside.holes c.self.inside.ends c.self.inside.used c.self.inside.count c.self.invariant in
    let v = c.len.ensures in
    let s = ap (λ (m : Managed). m.size) c.self.view_is in
    omega (arith, u, v, s)
