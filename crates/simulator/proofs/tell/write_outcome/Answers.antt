use Rattle.std.proofs.Common.{sym, subst}
use Rattle.io_edge.specs.Written.{Writes}
use Rattle.simulator.specs.declared.outcome.Outcome.{Outcome}
use Rattle.simulator.specs.Outcomes.{text_of}
use Rattle.simulator.proofs.tell.write_outcome.Goals as goal

pub returns-in-Help-clause-text : goal.returns-in-Help-clause-text
returns-in-Help-clause-text g c =
    subst (λ (o : Outcome). Writes c.write_text-in-Help.result (g.K.Sink.written c.args.sink.now) (g.K.Sink.written c.write_text-in-Help.new.sink) (text_of o)) (sym c.in-Help.is) c.write_text-in-Help.ensures.text
