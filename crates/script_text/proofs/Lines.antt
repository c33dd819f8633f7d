-- The lines of a text, one by one.
use Rattle.std.proofs.Common.{◌≡◌, ℕ, suc, ◌+◌, ◌≤◌, ◌<◌, Bool, true, false, cond, eqb, List, [], ◌∷◌, length, take, drop, Result, Ok, Err, refl, sym, ap, ◌∙◌, arith, add-one}
use Rattle.journal_model.specs.scripts.Cut.{onto, lines_of}
use Rattle.script_words.specs.Lines.{line_len}
use Rattle.journal_model.specs.scripts.Words.{Text}
use Rattle.journal_model.specs.declared.script.Script.{Script}
use Rattle.journal_model.specs.declared.line.Progress.{Progress}
use Rattle.journal_model.specs.scripts.FirstFault.{after_line, script_from}

within : (t : Bool) (n m : ℕ) → n ≤ m → cond t 1 (n + 1) ≤ suc m
within true n m h = omega arith
within false n m h = omega arith

pub line_len-within : (text : Text) → line_len text ≤ length text
line_len-within [] = omega arith
line_len-within (b ∷ bs) = within (eqb b 10) (line_len bs) (length bs) (line_len-within bs)

some_len : (t : Bool) (n : ℕ) → 0 < cond t 1 (n + 1)
some_len true n = omega arith
some_len false n = omega arith

pub line_len-some : (text : Text) → 0 < length text → 0 < line_len text
line_len-some [] h = absurd (omega (arith, h))
line_len-some (b ∷ bs) h = some_len (eqb b 10) (line_len bs)

abbrev IsFirst : List Text → ℕ → Text → Type 0
IsFirst lines n text = lines ≡ take n text ∷ lines_of (drop n text)

first_more : (t : Bool) (b : ℕ) (bs : Text) (lines : List Text) (n : ℕ) → (0 < length bs → IsFirst lines n bs) → (bs ≡ [] → (lines ≡ []) × (n ≡ 0)) → lines ≡ lines_of bs
    → IsFirst (cond t ((b ∷ []) ∷ lines) (onto b lines)) (cond t 1 (n + 1)) (b ∷ bs)
first_more true b bs lines n some none same = ap (λ ls. (b ∷ []) ∷ ls) same
first_more false b [] lines n some none same =
    let e = none refl in
    rw (e.0, e.1) refl
first_more false b (c ∷ cs) lines n some none same =
    let e = some (omega arith) in
    rw add-one (ap (onto b) e)

pub first_line : (text : Text) → 0 < length text → IsFirst (lines_of text) (line_len text) text
first_line [] h = absurd (omega (arith, h))
first_line (b ∷ bs) h = first_more (eqb b 10) b bs (lines_of bs) (line_len bs) (first_line bs) (λ e. (ap lines_of e, ap line_len e)) refl

abbrev led : Result Progress ℕ → ℕ → List Text → Result Script (ℕ × ℕ)
led after n texts = elim after [ Ok next ↦ script_from next (n + 1) texts | Err rule ↦ Err (n + 1, rule) ]

-- one line more
pub goes_on : (p next : Progress) (n : ℕ) (text : Text) (all : Result Script (ℕ × ℕ)) → 0 < length text → after_line p (take (line_len text) text) ≡ Ok next
    → script_from p n (lines_of text) ≡ all → script_from next (n + 1) (lines_of (drop (line_len text) text)) ≡ all
goes_on p next n text all some leads so_far =
    let now : led (after_line p (take (line_len text) text)) n (lines_of (drop (line_len text) text)) ≡ all = sym (ap (script_from p n) (first_line text some)) ∙ so_far in
    sym (ap (λ r. led r n (lines_of (drop (line_len text) text))) leads) ∙ now

pub stops : (p : Progress) (n rule : ℕ) (text : Text) (all : Result Script (ℕ × ℕ)) → 0 < length text → after_line p (take (line_len text) text) ≡ Err rule
    → script_from p n (lines_of text) ≡ all → all ≡ Err (n + 1, rule)
stops p n rule text all some breaks so_far =
    let now : led (after_line p (take (line_len text) text)) n (lines_of (drop (line_len text) text)) ≡ all = sym (ap (script_from p n) (first_line text some)) ∙ so_far in
    sym now ∙ ap (λ r. led r n (lines_of (drop (line_len text) text))) breaks

pub nonempty : (text : Text) → false ≡ eqb (length text) 0 → 0 < length text
nonempty [] h = absurd cc
nonempty (b ∷ bs) h = omega arith
