-- A line is its words and a line feed.
use Rattle.std.proofs.Common.{◌≡◌, ℕ, zero, suc, ◌+◌, ◌-◌, true, [], ◌∷◌, ◌++◌, length, take, Option, Some, None, sym, ap, ◌∙◌, arith}
use Rattle.std.specs.Prelude.{slice_get}
use Rattle.std.proofs.lemmas.Bool.{eqb-true}
use Rattle.journal_model.specs.scripts.Words.{Text, line}
use Rattle.journal_model.specs.scripts.Cut.{cut_at}
use Rattle.journal_model.specs.scripts.FirstFault.{without_end, ends_line, is_line_feed}
use Rattle.law_legal.proofs.law_script.CutLaws.{joined}

feed : (o : Option ℕ) → is_line_feed o ≡ true → o ≡ Some 10
feed None h = absurd cc
feed (Some b) h = ap (λ x. Some x) (eqb-true b 10 h)

last_of : (xs : Text) (n : ℕ) → slice_get xs n ≡ Some 10 → n + 1 ≡ length xs → xs ≡ take n xs ++ 10 ∷ []
last_of [] n h e = absurd cc
last_of (x ∷ []) zero h e = let same : x ≡ 10 = cc in ap (λ y. y ∷ []) same
last_of (x ∷ y ∷ xs) zero h e = absurd (omega (arith, e))
last_of (x ∷ xs) (suc n) h e = ap (λ ys. x ∷ ys) (last_of xs n h (omega (arith, e)))

some_length : (text : Text) → slice_get text (length text - 1) ≡ Some 10 → length text - 1 + 1 ≡ length text
some_length [] h = absurd cc
some_length (b ∷ bs) h = omega arith

-- a text that ends is a line of its words
pub text_is_line : (text : Text) → ends_line text ≡ true → text ≡ line (cut_at 32 (without_end text))
text_is_line text h =
    let last = feed (slice_get text (length text - 1)) h in
    last_of text (length text - 1) last (some_length text last) ∙ ap (λ t. t ++ 10 ∷ []) (sym (joined 32 (without_end text)))
