-- Lines and words as they grow.
use Rattle.std.proofs.Common.{◌≡◌, List, [], ◌∷◌, ◌++◌, map, ap, ◌∙◌, sym, append-nil, append_assoc}
use Rattle.std.specs.Prelude.{codes}
use Rattle.std.proofs.lemmas.List.Concat.{flat_map-cons}
use Rattle.std.proofs.lemmas.Grind.{flat_map-append}
use Rattle.journal_model.specs.scripts.Words.{Text, line, spaced}
use Rattle.journal_model.specs.scripts.Spelling.{parted}
use Rattle.script_spelling.specs.Parts.{parted_out}
use Rattle.text_line.specs.Spaced.{spaced_out}
use Rattle.text_line.proofs.SpacedLaws.{join_with_byte-cons}

-- a line as it grows: its first word, the others, and its end
pub line_grows : (old a b new w : Text) (ws : List Text) → a ≡ old ++ w → b ≡ a ++ spaced_out ws → new ≡ b ++ 10 ∷ [] → new ≡ old ++ line (w ∷ ws)
line_grows old a b new w ws first rest end =
    end ∙ ap (λ t. t ++ 10 ∷ []) (rest ∙ ap (λ t. t ++ spaced_out ws) first ∙ append_assoc old w (spaced_out ws) ∙ ap (λ t. old ++ t) (sym (join_with_byte-cons 32 w ws)))
    ∙ append_assoc old (spaced (w ∷ ws)) (10 ∷ [])

-- one more word before the rest
pub words_grow : (old a new w : Text) (ws : List Text) → a ≡ old ++ 32 ∷ w → new ≡ a ++ spaced_out ws → new ≡ old ++ spaced_out (w ∷ ws)
words_grow old a new w ws first rest =
    rest ∙ ap (λ t. t ++ spaced_out ws) first ∙ append_assoc old (32 ∷ w) (spaced_out ws) ∙ ap (λ t. old ++ t) (sym (flat_map-cons (λ u. 32 ∷ u) w ws))

-- words and then words
pub words_join : (old a new : Text) (vs ws : List Text) → a ≡ old ++ spaced_out vs → new ≡ a ++ spaced_out ws → new ≡ old ++ spaced_out (vs ++ ws)
words_join old a new vs ws first rest =
    rest ∙ ap (λ t. t ++ spaced_out ws) first ∙ append_assoc old (spaced_out vs) (spaced_out ws) ∙ ap (λ t. old ++ t) (sym (flat_map-append (λ u. 32 ∷ u) vs ws))

-- operations after the first
pub parted-cons : (ws : List Text) (rest : List (List Text)) → parted (ws ∷ rest) ≡ ws ++ parted_out rest
parted-cons ws [] = sym (append-nil ws)
parted-cons ws (vs ∷ rest) =
    ap (λ t. ws ++ codes ";" ∷ t) (parted-cons vs rest) ∙ ap (λ t. ws ++ t) (sym (flat_map-cons (λ us. codes ";" ∷ us) vs rest))

-- operations as they grow
pub ops_grow : {X : Type 0} (words : X → List Text) (old mid new : Text) (xs : List X) (x : X) (more : List X) → xs ≡ x ∷ more
    → mid ≡ old ++ spaced_out (words x) → new ≡ mid ++ spaced_out (parted_out (map words more)) → new ≡ old ++ spaced_out (parted (map words xs))
ops_grow words old mid new xs x more whole first rest =
    words_join old mid new (words x) (parted_out (map words more)) first rest
    ∙ ap (λ ws. old ++ spaced_out ws) (sym (parted-cons (words x) (map words more)) ∙ ap (λ ys. parted (map words ys)) (sym whole))

-- a last word
words_last : (old new w : Text) → new ≡ old ++ 32 ∷ w → new ≡ old ++ spaced_out (w ∷ [])
words_last old new w last = last ∙ ap (λ t. old ++ t) (sym (flat_map-cons (λ u. 32 ∷ u) w [] ∙ append-nil (32 ∷ w)))

-- eight words, one after the other
pub eight_words : (a b c d e f g h i s t u v w x y z : Text) → b ≡ a ++ 32 ∷ s → c ≡ b ++ 32 ∷ t → d ≡ c ++ 32 ∷ u → e ≡ d ++ 32 ∷ v
    → f ≡ e ++ 32 ∷ w → g ≡ f ++ 32 ∷ x → h ≡ g ++ 32 ∷ y → i ≡ h ++ 32 ∷ z → i ≡ a ++ spaced_out (s ∷ t ∷ u ∷ v ∷ w ∷ x ∷ y ∷ z ∷ [])
eight_words a b c d e f g h i s t u v w x y z k l m n o p q r =
    words_grow a b i s (t ∷ u ∷ v ∷ w ∷ x ∷ y ∷ z ∷ []) k (words_grow b c i t (u ∷ v ∷ w ∷ x ∷ y ∷ z ∷ []) l
    (words_grow c d i u (v ∷ w ∷ x ∷ y ∷ z ∷ []) m (words_grow d e i v (w ∷ x ∷ y ∷ z ∷ []) n (words_grow e f i w (x ∷ y ∷ z ∷ []) o
    (words_grow f g i x (y ∷ z ∷ []) p (words_grow g h i y (z ∷ []) q (words_last h i z r)))))))
