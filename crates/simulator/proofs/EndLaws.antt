-- The program's promise, by what was written.
use Rattle.std.proofs.Common.{◌≡◌, Ok, Err, Result}
use Rattle.io_edge.specs.Written.{Writes}
use Rattle.report_text.specs.declared.report.WriteFault.{WriteFault}
use Rattle.report_text.specs.declared.report.WriteFault.TheVariants as fault
use Rattle.report_text.specs.WriteFault.{faults_after_writing}
use Rattle.simulator.specs.declared.outcome.Outcome.{Outcome}
use Rattle.program_edges.specs.Edges.{Edge}
use Rattle.simulator.specs.Outcomes.{status_of, text_of}
use Rattle.program_edges.specs.Written.{status_after}
use Rattle.simulator.specs.Ends.{EndsWith, told, broken, cut}

pub ends_after : {T : Type 0} (comes : Outcome → Type 0) (source sink : Edge) (o : Outcome) (r : Result T WriteFault) → comes o
    → Writes r sink.before sink.after (text_of o) → sink.faults_after ≡ faults_after_writing r sink.faults_before
    → EndsWith comes source sink (status_after (status_of o) r)
ends_after comes source sink o (Ok x) came text faults = told o came (record { whole = text; faultless = faults })
ends_after comes source sink o (Err fault.Failed) came text faults = broken o came (record { front = text; fault = faults })
ends_after comes source sink o (Err fault.NoMemory) came text faults = cut o came (record { front = text; faultless = faults })
