-- The list that a pattern on a slice names part by part.
use Rattle.std.proofs.Common.{◌≡◌, refl, List, [], ◌∷◌, length, get_or, ap, ◌∙◌, arith}

-- the first one, where the pattern doesn't name it
pub first_again : {X : Type 0} (xs : List X) (d : X) → get_or xs 0 d ≡ get_or xs 0 (get_or xs 0 d)
first_again [] d = refl
first_again (x ∷ xs) d = refl

one_is : {X : Type 0} (xs : List X) (a : X) → length xs ≡ 1 → a ≡ get_or xs 0 a → a ∷ [] ≡ xs
one_is [] a h p = absurd (omega (arith, h))
one_is (x ∷ []) a h p = ap (λ t. t ∷ []) p
one_is (x ∷ y ∷ ys) a h p = absurd (omega (arith, h))

two_are : {X : Type 0} (xs : List X) (a b : X) → length xs ≡ 2 → a ≡ get_or xs 0 a → b ≡ get_or xs 1 b → a ∷ b ∷ [] ≡ xs
two_are [] a b h p q = absurd (omega (arith, h))
two_are (x ∷ xs) a b h p q = ap (λ t. t ∷ b ∷ []) p ∙ ap (λ t. x ∷ t) (one_is xs b (omega (arith, h)) q)

pub three_are : {X : Type 0} (xs : List X) (a b c : X) → length xs ≡ 3 → a ≡ get_or xs 0 a → b ≡ get_or xs 1 b → c ≡ get_or xs 2 c → a ∷ b ∷ c ∷ [] ≡ xs
three_are [] a b c h p q r = absurd (omega (arith, h))
three_are (x ∷ xs) a b c h p q r = ap (λ t. t ∷ b ∷ c ∷ []) p ∙ ap (λ t. x ∷ t) (two_are xs b c (omega (arith, h)) q r)

pub four_are : {X : Type 0} (xs : List X) (a b c d : X) → length xs ≡ 4 → a ≡ get_or xs 0 a → b ≡ get_or xs 1 b → c ≡ get_or xs 2 c → d ≡ get_or xs 3 d → a ∷ b ∷ c ∷ d ∷ [] ≡ xs
four_are [] a b c d h p q r s = absurd (omega (arith, h))
four_are (x ∷ xs) a b c d h p q r s = ap (λ t. t ∷ b ∷ c ∷ d ∷ []) p ∙ ap (λ t. x ∷ t) (three_are xs b c d (omega (arith, h)) q r s)

pub five_are : {X : Type 0} (xs : List X) (a b c d e : X) → length xs ≡ 5 → a ≡ get_or xs 0 a → b ≡ get_or xs 1 b → c ≡ get_or xs 2 c → d ≡ get_or xs 3 d → e ≡ get_or xs 4 e
    → a ∷ b ∷ c ∷ d ∷ e ∷ [] ≡ xs
five_are [] a b c d e h p q r s t = absurd (omega (arith, h))
five_are (x ∷ xs) a b c d e h p q r s t = ap (λ y. y ∷ b ∷ c ∷ d ∷ e ∷ []) p ∙ ap (λ y. x ∷ y) (four_are xs b c d e (omega (arith, h)) q r s t)

pub six_are : {X : Type 0} (xs : List X) (a b c d e f : X) → length xs ≡ 6 → a ≡ get_or xs 0 a → b ≡ get_or xs 1 b → c ≡ get_or xs 2 c → d ≡ get_or xs 3 d → e ≡ get_or xs 4 e → f ≡ get_or xs 5 f
    → a ∷ b ∷ c ∷ d ∷ e ∷ f ∷ [] ≡ xs
six_are [] a b c d e f h p q r s t u = absurd (omega (arith, h))
six_are (x ∷ xs) a b c d e f h p q r s t u = ap (λ y. y ∷ b ∷ c ∷ d ∷ e ∷ f ∷ []) p ∙ ap (λ y. x ∷ y) (five_are xs b c d e f (omega (arith, h)) q r s t u)
