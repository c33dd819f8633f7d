-- Texts of lines.
use Rattle.std.specs.Prelude.{Bool, true, [], ◌∷◌, ◌==◌}
use Rattle.std.specs.List.{list_any}
use Rattle.journal_model.specs.declared.script.Script.{Script}
use Rattle.journal_model.specs.scripts.Words.{Text}

-- the text is empty, or ends with a line feed
abbrev pub are_lines : Text → Bool
are_lines [] = true
are_lines (b ∷ []) = b == 10
are_lines (b ∷ c ∷ bs) = are_lines (c ∷ bs)

-- whether the text has a line feed
abbrev pub breaks : Text → Bool
breaks t = list_any (λ b. b == 10) t

-- whether a declared name has one, as none has that was read
abbrev pub names_break : Script → Bool
names_break script = list_any (λ d. breaks d.name) script.buffers
