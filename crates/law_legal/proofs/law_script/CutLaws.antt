-- A text is its parts joined, and joined parts are cut again.
use Rattle.std.proofs.Common.{◌≡◌, ℕ, ◌<◌, Bool, true, false, cond, eqb, List, [], ◌∷◌, ◌++◌, length, refl, sym, ap, ◌∙◌, arith}
use Rattle.std.specs.Prelude.{not}
use Rattle.std.specs.List.{join_with_byte, list_any, list_all}
use Rattle.std.proofs.lemmas.Bool.{eqb-true}
use Rattle.std.proofs.lemmas.Bool.Decides.{nat_tests}
use Rattle.journal_model.specs.scripts.Words.{Text}
use Rattle.journal_model.specs.scripts.Cut.{onto, cut_by, cut_at}
use Rattle.law_legal.proofs.law_items.Tests.{not_true, either, both}

onto_some : {X : Type 0} (x : X) (parts : List (List X)) → 0 < length (onto x parts)
onto_some x [] = omega arith
onto_some x (p ∷ parts) = omega arith

cond_some : {X : Type 0} (b : Bool) (x : X) (parts : List (List X)) → 0 < length (cond b ([] ∷ parts) (onto x parts))
cond_some true x parts = omega arith
cond_some false x parts = onto_some x parts

-- a cut has a part at least
pub cut_some : {X : Type 0} (t : X → Bool) (xs : List X) → 0 < length (cut_by t xs)
cut_some t [] = omega arith
cut_some t (x ∷ xs) = cond_some (t x) x (cut_by t xs)

join_onto : (c x : ℕ) (parts : List Text) → join_with_byte c (onto x parts) ≡ x ∷ join_with_byte c parts
join_onto c x [] = refl
join_onto c x (p ∷ []) = refl
join_onto c x (p ∷ q ∷ ps) = refl

join_after : (c : ℕ) (parts : List Text) → 0 < length parts → join_with_byte c ([] ∷ parts) ≡ c ∷ join_with_byte c parts
join_after c [] h = absurd (omega (arith, h))
join_after c (p ∷ ps) h = refl

join_step : (b : Bool) (c x : ℕ) (parts : List Text) → (b ≡ true → x ≡ c) → 0 < length parts → join_with_byte c (cond b ([] ∷ parts) (onto x parts)) ≡ x ∷ join_with_byte c parts
join_step true c x parts same some = join_after c parts some ∙ ap (λ y. y ∷ join_with_byte c parts) (sym (same refl))
join_step false c x parts same some = join_onto c x parts

-- a text is its parts joined
pub joined : (c : ℕ) (text : Text) → join_with_byte c (cut_at c text) ≡ text
joined c [] = refl
joined c (x ∷ xs) = join_step (eqb x c) c x (cut_at c xs) (eqb-true x c) (cut_some (λ b. eqb b c) xs) ∙ ap (λ ys. x ∷ ys) (joined c xs)

-- without a separator there is one part
pub cut_free : {X : Type 0} (t : X → Bool) (a : List X) → list_any t a ≡ false → cut_by t a ≡ a ∷ []
cut_free t [] h = refl
cut_free t (x ∷ a) h =
    let f = either (t x) (list_any t a) h in
    ap (λ b. cond b ([] ∷ cut_by t a) (onto x (cut_by t a))) f.0 ∙ ap (onto x) (cut_free t a f.1)

-- a part ends at the separator
pub cut_append : {X : Type 0} (t : X → Bool) (a : List X) (x : X) (b : List X) → list_any t a ≡ false → t x ≡ true → cut_by t (a ++ x ∷ b) ≡ a ∷ cut_by t b
cut_append t [] x b h s = ap (λ v. cond v ([] ∷ cut_by t b) (onto x (cut_by t b))) s
cut_append t (y ∷ a) x b h s =
    let f = either (t y) (list_any t a) h in
    ap (λ v. cond v ([] ∷ cut_by t (a ++ x ∷ b)) (onto y (cut_by t (a ++ x ∷ b)))) f.0 ∙ ap (onto y) (cut_append t a x b f.1 s)

-- the word has no such byte
abbrev pub lacks : ℕ → Text → Bool
lacks c word = not (list_any (λ b. eqb b c) word)

same_byte : (c : ℕ) → eqb c c ≡ true
same_byte c = grind (arith, nat_tests)

-- words without the separator come back
pub cut_again : (c : ℕ) (w : Text) (ws : List Text) → list_all (lacks c) (w ∷ ws) ≡ true → cut_at c (join_with_byte c (w ∷ ws)) ≡ w ∷ ws
cut_again c w [] h = cut_free (λ b. eqb b c) w (not_true _ (both (lacks c w) true h).0)
cut_again c w (v ∷ ws) h =
    let f = both (lacks c w) (list_all (lacks c) (v ∷ ws)) h in
    cut_append (λ b. eqb b c) w c (join_with_byte c (v ∷ ws)) (not_true _ f.0) (same_byte c) ∙ ap (λ vs. w ∷ vs) (cut_again c v ws f.1)
