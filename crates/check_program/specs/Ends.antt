-- What the word `check` promises, for all sources and sinks.
use Rattle.program_edges.specs.declared.status.Status.{Status}
use Rattle.program_edges.specs.declared.status.Status.TheVariants as status
use Rattle.program_edges.specs.Edges.{Edge, IsUntouched, IsFaultless, IsWritten, IsBroken, IsCut}
use Rattle.check_program.specs.declared.finding.Finding.{Finding}
use Rattle.check_program.specs.Finds.{Finds, status_of, text_of}

-- The status: that of what was found, where its text was written whole; else a write failed or memory ran out, and a prefix of the text was
-- written, or nothing where memory ran out before.
pub data EndsChecked (source sink : Edge) : Status → Type 0 where
  whole : (f : Finding) → Finds source f → IsWritten sink (text_of f) → EndsChecked source sink (status_of f)
  broken : (f : Finding) → Finds source f → IsBroken sink (text_of f) → EndsChecked source sink status.WriteFault
  cut : (f : Finding) → Finds source f → IsCut sink (text_of f) → EndsChecked source sink status.NoMemory
  nothing : IsFaultless source → IsUntouched sink → EndsChecked source sink status.NoMemory
