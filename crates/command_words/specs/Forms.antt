-- The words that the program knows.
use Rattle.std.specs.Prelude.{List, [], ◌∷◌, Option, Some, None, option_map, bytes_eq, codes, ◌&&◌, if◌then◌else◌}
use Rattle.journal_model.specs.scripts.Words.{Text}
use Rattle.journal_model.specs.scripts.Reading.{number_in}
use Rattle.command_words.specs.declared.Form.{Form}
use Rattle.command_words.specs.declared.Form.TheVariants as form

-- what one word alone asks for
abbrev pub form_of_word : Text → Option Form
form_of_word w =
    if bytes_eq w (codes "sim") then Some (form.Sim None)
    else if bytes_eq w (codes "check") then Some form.Check
    else if bytes_eq w (codes "--help") then Some form.Help
    else if bytes_eq w (codes "--version") then Some form.Version
    else None

-- what the words ask for: one word alone, or sim and a limit of turns, which is a plain number of 64 bits
abbrev pub form_of : List Text → Option Form
form_of (w ∷ []) = form_of_word w
form_of (w ∷ x ∷ n ∷ []) =
    if bytes_eq w (codes "sim") && bytes_eq x (codes "--turns")
    then option_map (λ turns. form.Sim (Some turns)) (number_in 0 18446744073709551615 n)
    else None
form_of _ = None
