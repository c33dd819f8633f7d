-- Lists and lines as they are put after others.
use Rattle.std.proofs.Common.{◌≡◌, List, [], ◌∷◌, ◌++◌, map, ap, ◌∙◌, sym, append_assoc}
use Rattle.journal_model.specs.scripts.Words.{Text, line, listed, spaced}
use Rattle.text_line.specs.Spaced.{behind_each, spaced_out}
use Rattle.text_line.proofs.SpacedLaws.{join_with_byte-cons}

-- a list of items: the first, and then the others after a comma
pub listed_after : {X : Type 0} (word : X → Text) (old mid new : Text) (xs : List X) (x : X) (more : List X) → xs ≡ x ∷ more → mid ≡ old ++ word x
    → new ≡ mid ++ behind_each 44 (map word more) → new ≡ old ++ listed (map word xs)
listed_after word old mid new xs x more whole first rest =
    rest ∙ ap (λ t. t ++ behind_each 44 (map word more)) first
    ∙ append_assoc old (word x) (behind_each 44 (map word more))
    ∙ ap (λ t. old ++ t) (sym (join_with_byte-cons 44 (word x) (map word more)))
    ∙ ap (λ ys. old ++ listed (map word ys)) (sym whole)

-- a line: its first word, the others after spaces, and its end
pub line_after : (old a b c : Text) (w : Text) (ws : List Text) → a ≡ old ++ w → b ≡ a ++ spaced_out ws → c ≡ b ++ 10 ∷ [] → c ≡ old ++ line (w ∷ ws)
line_after old a b c w ws one two three =
    three ∙ ap (λ t. t ++ 10 ∷ []) (two ∙ ap (λ t. t ++ spaced_out ws) one ∙ append_assoc old w (spaced_out ws) ∙ ap (λ t. old ++ t) (sym (join_with_byte-cons 32 w ws)))
    ∙ append_assoc old (spaced (w ∷ ws)) (10 ∷ [])
