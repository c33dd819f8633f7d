-- What follows the first @ of a place.
use Rattle.std.proofs.Common.{◌≡◌, ℕ, ◌+◌, ◌≤◌, Bool, cond, eqb, List, [], ◌∷◌, ◌++◌, length, drop, refl, sym, ap, get_or, Option, Some, ◌∙◌, arith}
use Rattle.std.specs.List.{join_with_byte, slice_split, onto_first}
use Rattle.std.proofs.Math.Seq.{drop-append-add}
use Rattle.std.proofs.lemmas.List.{length-append}
use Rattle.std.proofs.lemmas.List.Splits.{join_with_byte-slice_split}
use Rattle.journal_model.specs.declared.line.Flags.{Flags}
use Rattle.journal_model.specs.scripts.Words.{Text}
use Rattle.journal_model.specs.scripts.Reading.{mem_of, based_place, at_place}
use Rattle.journal_model.specs.scripts.Cut.{onto, cut_by, cut_at}

onto_is : {X : Type 0} (x : X) (parts : List (List X)) → onto x parts ≡ onto_first x parts
onto_is x [] = refl
onto_is x (part ∷ parts) = refl

cut_is : {X : Type 0} (t : X → Bool) (xs : List X) → cut_by t xs ≡ slice_split t xs
cut_is t [] = refl
cut_is t (x ∷ xs) =
    ap (λ parts. cond (t x) ([] ∷ parts) (onto x parts)) (cut_is t xs)
    ∙ ap (λ parts. cond (t x) ([] ∷ slice_split t xs) parts) (onto_is x (slice_split t xs))

joined : (c : ℕ) (text : Text) → join_with_byte c (cut_at c text) ≡ text
joined c text = ap (join_with_byte c) (cut_is (λ b. eqb b c) text) ∙ join_with_byte-slice_split c text

whole : (c : ℕ) (text word next : Text) (words : List Text) → word ∷ next ∷ words ≡ cut_at c text → word ++ c ∷ join_with_byte c (next ∷ words) ≡ text
whole c text word next words h = ap (join_with_byte c) h ∙ joined c text

-- the first word and what cuts it off stand in the text
pub first_in : (c : ℕ) (text w : Text) (words : List Text) → words ≡ cut_at c text → 2 ≤ length words → length (get_or words 0 w) + 1 ≤ length text
first_in c text w [] h two = absurd (omega (arith, two))
first_in c text w (word ∷ []) h two = absurd (omega (arith, two))
first_in c text w (word ∷ next ∷ words) h two =
    let all = ap length (sym (whole c text word next words h)) ∙ length-append word (c ∷ join_with_byte c (next ∷ words)) in
    omega (arith, all)

-- after them stands the reach
pub at_first : (text w : Text) (words : List Text) (f : Option Flags) → words ≡ cut_at 64 text → 2 ≤ length words
    → based_place (mem_of (get_or words 0 w)) (Some (drop (length (get_or words 0 w) + 1) text)) f ≡ at_place words f
at_first text w [] f h two = absurd (omega (arith, two))
at_first text w (word ∷ []) f h two = absurd (omega (arith, two))
at_first text w (word ∷ next ∷ words) f h two =
    ap (λ reach. based_place (mem_of word) (Some reach) f)
    (ap (drop (length word + 1)) (sym (whole 64 text word next words h)) ∙ drop-append-add word (64 ∷ join_with_byte 64 (next ∷ words)) 1)
