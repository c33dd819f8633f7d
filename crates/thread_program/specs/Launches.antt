-- The words that ask for threads.
use Rattle.std.specs.Prelude.{List, [], ◌∷◌, Option, Some, None, option_map, bytes_eq, codes, if◌then◌else◌}
use Rattle.journal_model.specs.scripts.Words.{Text}
use Rattle.journal_model.specs.scripts.Reading.{number_in}
use Rattle.thread_program.specs.declared.launch.Launch.{Launch}
use Rattle.thread_program.specs.declared.launch.Launch.TheVariants as launch

-- the request of the words: `run`; or `gen` and a plain number that 64 bits hold
abbrev pub launch_of : List Text → Option Launch
launch_of (w ∷ []) = if bytes_eq w (codes "run") then Some launch.Run else None
launch_of (w ∷ n ∷ []) = if bytes_eq w (codes "gen") then option_map launch.Gen (number_in 0 18446744073709551615 n) else None
launch_of _ = None
