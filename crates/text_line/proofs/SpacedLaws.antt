-- Words with a separator between each two are the first, and each other one after a separator.
use Rattle.std.proofs.Common.{◌≡◌, ℕ, List, [], ◌∷◌, ◌++◌, ap, sym, append-nil}
use Rattle.std.specs.List.{join_with_byte}
use Rattle.journal_model.specs.scripts.Words.{Text}
use Rattle.text_line.specs.Spaced.{behind_each}

pub join_with_byte-cons : (c : ℕ) (w : Text) (ws : List Text) → join_with_byte c (w ∷ ws) ≡ w ++ behind_each c ws
join_with_byte-cons c w [] = sym (append-nil w)
join_with_byte-cons c w (v ∷ ws) = ap (λ t. w ++ (c ∷ t)) (join_with_byte-cons c v ws)
