use Rattle.std.proofs.Common.{sym, subst}
use Rattle.program_edges.specs.declared.status.Status.{Status}
use Rattle.program_edges.specs.Edges.{Edge}
use Rattle.thread_program.specs.Counted.{EndsCounted, nothing}
use Rattle.thread_program.proofs.CountLaws.{ends_counted}
use Rattle.thread_program.proofs.top.gen_top.Goals as goal

pub returns-in-Ok : goal.returns-in-Ok
returns-in-Ok g c =
    let sink : Edge = record { before = g.K.Sink.written c.args.sink.now; after = g.K.Sink.written c.tell_counts.new.sink; faults_before = g.K.Sink.faults c.args.sink.now; faults_after = g.K.Sink.faults c.tell_counts.new.sink } in
    subst (λ (s : Status). EndsCounted c.args.number sink s) (sym c.status_after.ensures)
    (ends_counted c.args.number sink _ c.in-Ok.field-0.written c.in-Ok.ensures.ran c.in-Ok.ensures.text c.in-Ok.ensures.faults)

pub returns-in-Err : goal.returns-in-Err
returns-in-Err g c = nothing c.in-Err.ensures.nothing
