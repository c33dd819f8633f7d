-- Lines as they are put: two words, and then the others.
use Rattle.std.proofs.Common.{◌≡◌, List, [], ◌∷◌, ◌++◌, ap, ◌∙◌, sym, append_assoc}
use Rattle.journal_model.specs.scripts.Words.{Text, line, spaced}
use Rattle.text_line.specs.Spaced.{spaced_out}
use Rattle.text_line.proofs.SpacedLaws.{join_with_byte-cons}

-- a line of two words and then others
pub line_of_two : (n a t t' t'' : Text) (ws : List Text) → t ≡ (n ++ 32 ∷ []) ++ a → t' ≡ t ++ spaced_out ws → t'' ≡ t' ++ 10 ∷ [] → t'' ≡ line (n ∷ a ∷ ws)
line_of_two n a t t' t'' ws e e' e'' =
    e'' ∙ ap (λ s. s ++ 10 ∷ []) (
    e' ∙ ap (λ s. s ++ spaced_out ws) e
    ∙ append_assoc (n ++ 32 ∷ []) a (spaced_out ws)
    ∙ ap (λ s. (n ++ 32 ∷ []) ++ s) (sym (join_with_byte-cons 32 a ws))
    ∙ append_assoc n (32 ∷ []) (spaced (a ∷ ws)))
