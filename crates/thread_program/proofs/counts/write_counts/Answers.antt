use Rattle.io_edge.proofs.Told.{front_is_nothing, writes_refused}
use Rattle.thread_program.specs.Counted.{counts_text, load_counts}
use Rattle.thread_program.proofs.CountLaws.{counts_some}
use Rattle.thread_program.proofs.counts.write_counts.Goals as goal

pub returns-in_err-counts-clause-text : goal.returns-in_err-counts-clause-text
returns-in_err-counts-clause-text g c =
    writes_refused c.from_residual.result (g.K.Sink.written c.args.sink.now) (g.K.Sink.written c.args.sink.now) (counts_text c.args.number load_counts) c.from_residual.ensures.0
    (front_is_nothing (g.K.Sink.written c.args.sink.now) (counts_text c.args.number load_counts) (counts_some c.args.number load_counts))

pub returns-in_err-text-clause-text : goal.returns-in_err-text-clause-text
returns-in_err-text-clause-text g c =
    writes_refused c.from_residual-in_err-text.result (g.K.Sink.written c.args.sink.now) (g.K.Sink.written c.args.sink.now) (counts_text c.args.number load_counts) c.from_residual-in_err-text.ensures.0
    (front_is_nothing (g.K.Sink.written c.args.sink.now) (counts_text c.args.number load_counts) (counts_some c.args.number load_counts))
