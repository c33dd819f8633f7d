-- Joined words are cut again.
use Rattle.std.proofs.Common.{◌≡◌, ℕ, Bool, true, false, cond, eqb, List, [], ◌∷◌, ◌++◌, refl, ap, ◌∙◌, arith}
use Rattle.std.specs.Prelude.{not, ◌&&◌}
use Rattle.std.specs.List.{join_with_byte, list_all}
use Rattle.std.proofs.lemmas.Bool.Decides.{nat_tests}
use Rattle.journal_model.specs.scripts.Words.{Text}

-- ---- tests

pub both : (a b : Bool) → (a && b) ≡ true → (a ≡ true) × (b ≡ true)
both true true h = (refl, refl)
both true false h = absurd cc
both false b h = absurd cc

pub joint : (a b : Bool) → a ≡ true → b ≡ true → (a && b) ≡ true
joint true true p q = refl
joint true false p q = absurd cc
joint false b p q = absurd cc

-- ---- cuts

-- the byte in front of the first part
abbrev pub onto : ℕ → List Text → List Text
onto x [] = (x ∷ []) ∷ []
onto x (p ∷ parts) = (x ∷ p) ∷ parts

-- the parts between the separators
abbrev pub cut_at : ℕ → Text → List Text
cut_at c [] = [] ∷ []
cut_at c (x ∷ xs) = cond (eqb x c) ([] ∷ cut_at c xs) (onto x (cut_at c xs))

-- the word has no such byte
abbrev pub lacks : ℕ → Text → Bool
lacks c word = list_all (λ b. not (eqb b c)) word

differs : (b : Bool) → not b ≡ true → b ≡ false
differs true h = absurd cc
differs false h = refl

same_byte : (c : ℕ) → eqb c c ≡ true
same_byte c = grind (arith, nat_tests)

cut_free : (c : ℕ) (a : Text) → lacks c a ≡ true → cut_at c a ≡ a ∷ []
cut_free c [] h = refl
cut_free c (x ∷ a) h =
    let f = both (not (eqb x c)) (lacks c a) h in
    ap (λ b. cond b ([] ∷ cut_at c a) (onto x (cut_at c a))) (differs (eqb x c) f.0) ∙ ap (onto x) (cut_free c a f.1)

cut_append : (c : ℕ) (a b : Text) → lacks c a ≡ true → cut_at c (a ++ c ∷ b) ≡ a ∷ cut_at c b
cut_append c [] b h = ap (λ v. cond v ([] ∷ cut_at c b) (onto c (cut_at c b))) (same_byte c)
cut_append c (y ∷ a) b h =
    let f = both (not (eqb y c)) (lacks c a) h in
    ap (λ v. cond v ([] ∷ cut_at c (a ++ c ∷ b)) (onto y (cut_at c (a ++ c ∷ b)))) (differs (eqb y c) f.0) ∙ ap (onto y) (cut_append c a b f.1)

-- words without the separator come back
pub cut_again : (c : ℕ) (w : Text) (ws : List Text) → list_all (lacks c) (w ∷ ws) ≡ true → cut_at c (join_with_byte c (w ∷ ws)) ≡ w ∷ ws
cut_again c w [] h = cut_free c w (both (lacks c w) true h).0
cut_again c w (v ∷ ws) h =
    let f = both (lacks c w) (list_all (lacks c) (v ∷ ws)) h in
    cut_append c w (join_with_byte c (v ∷ ws)) f.0 ∙ ap (λ vs. w ∷ vs) (cut_again c v ws f.1)

-- a text up to its first separator, and what follows it
pub front_again : (c : ℕ) (t u x y : Text) → lacks c t ≡ true → lacks c u ≡ true → t ++ c ∷ x ≡ u ++ c ∷ y → (t ≡ u) × (x ≡ y)
front_again c [] [] x y p q e = (refl, cc)
front_again c [] (b ∷ u) x y p q e =
    let f = differs (eqb b c) (both (not (eqb b c)) (lacks c u) q).0 in
    let same : c ≡ b = cc in absurd (grind (arith, nat_tests))
front_again c (a ∷ t) [] x y p q e =
    let f = differs (eqb a c) (both (not (eqb a c)) (lacks c t) p).0 in
    let same : a ≡ c = cc in absurd (grind (arith, nat_tests))
front_again c (a ∷ t) (b ∷ u) x y p q e =
    let first : a ≡ b = cc in
    let rest : t ++ c ∷ x ≡ u ++ c ∷ y = cc in
    let r = front_again c t u x y (both (not (eqb a c)) (lacks c t) p).1 (both (not (eqb b c)) (lacks c u) q).1 rest in
    (ap (λ z. z ∷ t) first ∙ ap (λ z. b ∷ z) r.0, r.1)
