-- The line for what is no script.
use Rattle.std.specs.Prelude.{ℕ, [], ◌∷◌, ◌++◌, codes, decimal}
use Rattle.journal_model.specs.scripts.Words.{Text}

-- the text that names the first broken line, and on it the least broken rule
abbrev pub bad_script_text : ℕ → ℕ → Text
bad_script_text n rule = codes "bad script: line " ++ decimal n ++ codes ", rule " ++ decimal rule ++ 10 ∷ []
