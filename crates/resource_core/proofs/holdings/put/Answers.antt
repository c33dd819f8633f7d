use Rattle.resource_core.proofs.holdings.put.Goals as goal

pub returns-clause-each : goal.returns-clause-each
returns-clause-each c = λ other. c.in-Ok.ensures.updates.0 other
