-- The status once the text of an outcome was written.
use Rattle.std.specs.Prelude.{Result, Ok, Err}
use Rattle.report_text.specs.declared.report.WriteFault.{WriteFault}
use Rattle.report_text.specs.declared.report.WriteFault.TheVariants as fault
use Rattle.program_edges.specs.declared.status.Status.{Status}
use Rattle.program_edges.specs.declared.status.Status.TheVariants as status

-- the status after writing
abbrev pub status_after : {T : Type 0} → Status → Result T WriteFault → Status
status_after s (Ok r) = s
status_after s (Err fault.Failed) = status.WriteFault
status_after s (Err fault.NoMemory) = status.NoMemory
