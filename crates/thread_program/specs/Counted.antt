-- What is counted of a run of a script that was drawn from a number, and how such a run ends.
use Rattle.std.specs.Prelude.{◌≡◌, ℕ, [], ◌∷◌, ◌++◌, codes, decimal}
use Rattle.journal_model.specs.scripts.Words.{Text, line}
use Rattle.simulator.specs.Ends.{Kept}
use Rattle.generated_load.specs.Loads.{IsLoad, load_script}
use Rattle.program_edges.specs.declared.status.Status.{Status}
use Rattle.program_edges.specs.declared.status.Status.TheVariants as status
use Rattle.program_edges.specs.Edges.{Edge, IsUntouched, IsWritten, IsBroken, IsCut}
use Rattle.thread_program.specs.declared.counts.Counts.{Counts}
use Rattle.thread_program.specs.Ran.{IsThreaded}

-- the counts of a run: three threads, their commands and as many results and refusals, and no read that shows other bytes than the plain memory has
abbrev pub load_counts : Counts
load_counts = record {
  threads = 3;
  commands = 648;
  results = 648;
  mismatches = 0;
}

-- the text of the counts, with a line for each number
abbrev pub counts_text : ℕ → Counts → Text
counts_text n counts =
    line (codes "gen" ∷ decimal n ∷ [])
    ++ line (codes "threads" ∷ decimal counts.threads ∷ [])
    ++ line (codes "commands" ∷ decimal counts.commands ∷ [])
    ++ line (codes "results" ∷ decimal counts.results ∷ [])
    ++ line (codes "mismatches" ∷ decimal counts.mismatches ∷ [])

-- the device has a legal, complete journal of the script drawn from `n`
pub record HasRunLoad (n : ℕ) (k : Kept) : Type 0 where
  pub of : k.script ≡ load_script n
  pub load : IsLoad k.script
  pub ran : IsThreaded k.script k

-- The status is done where the counts of a run were written whole; else a write failed or memory ran out, and a front of them was written, or
-- nothing where memory ran out before.
pub data EndsCounted (n : ℕ) (sink : Edge) : Status → Type 0 where
  told : (k : Kept) → HasRunLoad n k → IsWritten sink (counts_text n load_counts) → EndsCounted n sink status.Done
  broken : (k : Kept) → HasRunLoad n k → IsBroken sink (counts_text n load_counts) → EndsCounted n sink status.WriteFault
  cut : (k : Kept) → HasRunLoad n k → IsCut sink (counts_text n load_counts) → EndsCounted n sink status.NoMemory
  nothing : IsUntouched sink → EndsCounted n sink status.NoMemory
