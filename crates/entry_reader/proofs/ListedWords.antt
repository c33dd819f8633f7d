-- The words of a list that is so long, by what reading each of them answers.
use Rattle.std.proofs.Common.{◌≡◌, ◌≤◌, ◌<◌, List, [], ◌∷◌, length, refl, ap, ◌∙◌, arith}
use Rattle.std.specs.Prelude.{get_or}
use Rattle.journal_model.specs.scripts.Words.{Text}

cons : {a b : Text} {xs ys : List Text} → a ≡ b → xs ≡ ys → a ∷ xs ≡ b ∷ ys
cons {b = b} {xs = xs} e f = ap (λ x. x ∷ xs) e ∙ ap (λ x. b ∷ x) f

pub two_are : (ws : List Text) {v a w x : Text} → 2 ≤ length ws → length ws < 3 → v ≡ get_or ws 0 v → w ≡ v → a ≡ get_or ws 1 a → x ≡ a → w ∷ x ∷ [] ≡ ws
two_are [] l m e f g h = absurd (omega (arith, l))
two_are (p ∷ []) l m e f g h = absurd (omega (arith, l))
two_are (p ∷ q ∷ []) l m e f g h = cons (f ∙ e) (cons (h ∙ g) refl)
two_are (p ∷ q ∷ r ∷ ws) l m e f g h = absurd (omega (arith, m))

pub three_are : (ws : List Text) {v a b w x y : Text} → 3 ≤ length ws → length ws < 4 → v ≡ get_or ws 0 v → w ≡ v → a ≡ get_or ws 1 a → x ≡ a → b ≡ get_or ws 2 b → y ≡ b
    → w ∷ x ∷ y ∷ [] ≡ ws
three_are [] l m e f g h i j = absurd (omega (arith, l))
three_are (p ∷ ws) l m e f g h i j = cons (f ∙ e) (two_are ws (omega (arith, l)) (omega (arith, m)) g h i j)

pub four_are : (ws : List Text) {v a b c w x y z : Text} → 4 ≤ length ws → length ws < 5 → v ≡ get_or ws 0 v → w ≡ v → a ≡ get_or ws 1 a → x ≡ a → b ≡ get_or ws 2 b → y ≡ b
    → c ≡ get_or ws 3 c → z ≡ c → w ∷ x ∷ y ∷ z ∷ [] ≡ ws
four_are [] l m e f g h i j n o = absurd (omega (arith, l))
four_are (p ∷ ws) l m e f g h i j n o = cons (f ∙ e) (three_are ws (omega (arith, l)) (omega (arith, m)) g h i j n o)

pub five_are : (ws : List Text) {v a b c d w x y z u : Text} → 5 ≤ length ws → length ws < 6 → v ≡ get_or ws 0 v → w ≡ v → a ≡ get_or ws 1 a → x ≡ a → b ≡ get_or ws 2 b → y ≡ b
    → c ≡ get_or ws 3 c → z ≡ c → d ≡ get_or ws 4 d → u ≡ d → w ∷ x ∷ y ∷ z ∷ u ∷ [] ≡ ws
five_are [] l m e f g h i j n o q r = absurd (omega (arith, l))
five_are (p ∷ ws) l m e f g h i j n o q r = cons (f ∙ e) (four_are ws (omega (arith, l)) (omega (arith, m)) g h i j n o q r)
