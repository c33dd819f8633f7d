-- A list cut at each item that separates, and a text cut into its lines.
use Rattle.std.specs.Prelude.{ℕ, Bool, List, [], ◌∷◌, ◌==◌, bytes_eq, codes, if◌then◌else◌}
use Rattle.journal_model.specs.scripts.Words.{Text}

-- an item before the first of the parts
abbrev pub onto : {X : Type 0} → X → List (List X) → List (List X)
onto x [] = (x ∷ []) ∷ []
onto x (part ∷ parts) = (x ∷ part) ∷ parts

-- the parts between the separators, empty ones too
abbrev pub cut_by : {X : Type 0} → (X → Bool) → List X → List (List X)
cut_by separates [] = [] ∷ []
cut_by separates (x ∷ xs) = if separates x then [] ∷ cut_by separates xs else onto x (cut_by separates xs)

-- a text, cut at each of these bytes
abbrev pub cut_at : ℕ → Text → List Text
cut_at separator text = cut_by (λ b. b == separator) text

-- the word that stands between operations
abbrev pub is_semicolon : Text → Bool
is_semicolon word = bytes_eq word (codes ";")

-- the lines, each with its line feed; the last may have none
abbrev pub lines_of : Text → List Text
lines_of [] = []
lines_of (b ∷ bs) = if b == 10 then (b ∷ []) ∷ lines_of bs else onto b (lines_of bs)
