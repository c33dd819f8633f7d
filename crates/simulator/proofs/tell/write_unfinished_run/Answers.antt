use Rattle.std.proofs.Common.{[], ◌∷◌, ◌++◌}
use Rattle.std.specs.Prelude.{codes, decimal}
use Rattle.io_edge.proofs.Told.{front_of_first, writes_next, writes_refused}
use Rattle.journal_model.specs.scripts.Words.{line}
use Rattle.journal_model.specs.reports.ReportText.{report}
use Rattle.simulator.proofs.tell.write_unfinished_run.Goals as goal

pub returns-in_err-write_unfinished-clause-text : goal.returns-in_err-write_unfinished-clause-text
returns-in_err-write_unfinished-clause-text g c =
    writes_refused c.from_residual.result (g.K.Sink.written c.args.sink.now) (g.K.Sink.written c.write_unfinished.new.sink)
    (line (codes "unfinished" ∷ decimal c.args.turns ∷ []) ++ report c.args.device.now.script c.args.device.now.journal) c.from_residual.ensures.0
    (front_of_first (report c.args.device.now.script c.args.device.now.journal) c.in_err-write_unfinished.ensures.text)

pub returns-clause-text : goal.returns-clause-text
returns-clause-text g c =
    writes_next c.write_device.result (g.K.Sink.written c.args.sink.now) (g.K.Sink.written c.write_unfinished.new.sink) (g.K.Sink.written c.write_device.new.sink)
    (line (codes "unfinished" ∷ decimal c.args.turns ∷ [])) (report c.args.device.now.script c.args.device.now.journal) c.in_ok-write_unfinished.ensures.text c.write_device.ensures.text
