use Rattle.std.proofs.Common.{sym, ◌∙◌, ap, subst}
use Rattle.program_edges.specs.declared.status.Status.{Status}
use Rattle.program_edges.specs.Edges.{Edge}
use Rattle.simulator.specs.Ends.{EndsWith, nothing}
use Rattle.program_edges.specs.Written.{status_after}
use Rattle.simulator.proofs.EndLaws.{ends_after}
use Rattle.thread_program.specs.Threaded.{ComesThreaded}
use Rattle.thread_program.proofs.top.run_top.Goals as goal

pub returns-in-Ok : goal.returns-in-Ok
returns-in-Ok g c =
    let source : Edge = record { before = g.S.Source.left c.args.source.now; after = g.S.Source.left c.tell_run.new.source; faults_before = g.S.Source.faults c.args.source.now; faults_after = g.S.Source.faults c.tell_run.new.source } in
    let sink : Edge = record { before = g.K.Sink.written c.args.sink.now; after = g.K.Sink.written c.tell_run.new.sink; faults_before = g.K.Sink.faults c.args.sink.now; faults_after = g.K.Sink.faults c.tell_run.new.sink } in
    subst (λ (s : Status). EndsWith (ComesThreaded source) source sink s)
    (sym (c.status_after.ensures ∙ ap (λ s. status_after s c.in-Ok.field-0.written) c.status.ensures))
    (ends_after (ComesThreaded source) source sink _ c.in-Ok.field-0.written c.in-Ok.ensures.comes c.in-Ok.ensures.text c.in-Ok.ensures.faults)

pub returns-in-Err : goal.returns-in-Err
returns-in-Err g c = nothing c.in-Err.ensures.source c.in-Err.ensures.nothing
