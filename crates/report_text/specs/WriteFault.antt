-- How the count of the sink's faults goes on.
use Rattle.std.specs.Prelude.{ℕ, Result, Err}
use Rattle.io_edge.specs.Faults.{one_more}
use Rattle.report_text.specs.declared.report.WriteFault.{WriteFault}
use Rattle.report_text.specs.declared.report.WriteFault.TheVariants.{Failed}

-- the count of faults after writing: a failed sink counts one more; lack of memory is no fault
abbrev pub faults_after_writing : {T : Type 0} → Result T WriteFault → ℕ → ℕ
faults_after_writing (Err Failed) faults = one_more faults
faults_after_writing r faults = faults
