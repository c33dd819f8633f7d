use Rattle.std.proofs.Common.{sym, ◌∙◌, ap, subst}
use Rattle.command_words.specs.Forms.{form_of}
use Rattle.program_edges.specs.declared.status.Status.{Status}
use Rattle.program_edges.specs.Edges.{Edge}
use Rattle.simulator.specs.Ends.{ComesWell, Ends, nothing}
use Rattle.program_edges.specs.Written.{status_after}
use Rattle.simulator.proofs.EndLaws.{ends_after}
use Rattle.simulator.proofs.RunLaws.{well, ends_well}
use Rattle.simulator.proofs.top.sim_top.Goals as goal

pub returns-in-Ok : goal.returns-in-Ok
returns-in-Ok g c =
    let source : Edge = record { before = g.S.Source.left c.args.source.now; after = g.S.Source.left c.tell_outcome.new.source; faults_before = g.S.Source.faults c.args.source.now; faults_after = g.S.Source.faults c.tell_outcome.new.source } in
    let sink : Edge = record { before = g.K.Sink.written c.args.sink.now; after = g.K.Sink.written c.tell_outcome.new.sink; faults_before = g.K.Sink.faults c.args.sink.now; faults_after = g.K.Sink.faults c.tell_outcome.new.sink } in
    subst (λ (s : Status). Ends (form_of c.args.words.now) source sink s)
    (sym (c.status_after.ensures ∙ ap (λ s. status_after s c.in-Ok.field-0.written) c.status-status.ensures))
    (ends_well (form_of c.args.words.now) source sink _
    (ends_after (ComesWell (form_of c.args.words.now) source) source sink _ c.in-Ok.field-0.written
    (c.in-Ok.ensures.comes, well (form_of c.args.words.now) source _ c.in-Ok.ensures.comes) c.in-Ok.ensures.text c.in-Ok.ensures.faults))

pub returns-in-Err : goal.returns-in-Err
returns-in-Err g c = ends_well _ _ _ _ (nothing c.in-Err.ensures.source c.in-Err.ensures.nothing)
