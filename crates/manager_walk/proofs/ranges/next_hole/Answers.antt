use Rattle.std.proofs.Common.{arith}
use Rattle.manager_walk.proofs.OpenLaws.{hole_at, held_begins}
use Rattle.manager_walk.proofs.ranges.next_hole.Goals as goal

pub returns-in-Some-clause-some : goal.returns-in-Some-clause-some
returns-in-Some-clause-some c =
    let s = c.in_ok-start.ensures in let n = c.in-Some.ensures.some in let w = c.in-Some.ensures.within in let a = n.above in
    hole_at c.args.manager.now.held c.args.size c.args.from c.in_ok-start.start c.in-Some.span.start s.from s.open s.first (omega (arith, a)) (omega (arith, w)) n.first (λ _. held_begins c.args.manager.now.held c.in-Some.span n.is_held)

pub returns-in-None-clause-some : goal.returns-in-None-clause-some
returns-in-None-clause-some c =
    let s = c.in_ok-start.ensures in let l = s.some in
    hole_at c.args.manager.now.held c.args.size c.args.from c.in_ok-start.start c.args.size s.from s.open s.first l (omega arith) c.in-None.ensures.none (λ b. let n : ⊥ = omega (arith, b) in absurd n)
