use Rattle.std.proofs.Common.{ℕ, ap, ◌∙◌, is_some, arith, if◌then◌else◌}
use Rattle.resource_core.proofs.holdings.take_out.Goals as goal

pub returns-clause-each : goal.returns-clause-each
returns-clause-each c = λ other. c.remove.ensures.updates.0 other

pub returns-clause-len : goal.returns-clause-len
returns-clause-len c =
    let e = ap is_some c.remove.ensures.value ∙ c.requires in
    let f = ap {B = ℕ} (λ t. if t then 1 else 0) e in
    let l = c.remove.ensures.len in
    omega (arith, l, f)
