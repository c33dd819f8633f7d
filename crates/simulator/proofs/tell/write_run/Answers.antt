use Rattle.std.proofs.Common.{◌≡◌, ◌++◌, ◌∷◌, [], Bool, false, sym, subst, arith}
use Rattle.std.specs.Prelude.{codes, decimal, if◌then◌else◌}
use Rattle.io_edge.specs.Written.{Writes}
use Rattle.journal_model.specs.scripts.Words.{line}
use Rattle.journal_model.specs.statements.Complete.{is_complete}
use Rattle.journal_model.specs.reports.ReportText.{report}
use Rattle.simulator.proofs.tell.write_run.Goals as goal

pub returns-else-over-clause-text : goal.returns-else-over-clause-text
returns-else-over-clause-text g c =
    let k = c.args.device.now in
    let goes_on : is_complete k.script k.journal ≡ false = grind (arith, c.over.ensures.complete, c.if-over.false) in
    subst (λ (b : Bool). Writes c.write_unfinished_run.result (g.K.Sink.written c.args.sink.now) (g.K.Sink.written c.write_unfinished_run.new.sink)
    (if b then report k.script k.journal else line (codes "unfinished" ∷ decimal c.args.turns ∷ []) ++ report k.script k.journal))
    (sym goes_on) c.write_unfinished_run.ensures.text
