-- How the program ends.
use Rattle.std.specs.Prelude.{ℕ}
use Rattle.program_edges.specs.declared.status.Status.{Status}
use Rattle.program_edges.specs.declared.status.Status.TheVariants as status

-- the exit status of the process
abbrev pub code_of : Status → ℕ
code_of status.Done = 0
code_of status.Usage = 2
code_of status.BadScript = 3
code_of status.ReadFault = 4
code_of status.WriteFault = 5
code_of status.NoMemory = 6
code_of status.Unfinished = 7
code_of status.Rejected = 8
