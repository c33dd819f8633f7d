-- A text has the first two lines of one report at most.
use Rattle.std.proofs.Common.{◌≡◌, ℕ, ◌<◌, ◌^◌, true, List, [], ◌∷◌, ◌++◌, sym, ◌∙◌, arith}
use Rattle.std.specs.Prelude.{codes, decimal}
use Rattle.std.proofs.lemmas.Bool.Decides.{nat_tests}
use Rattle.std.proofs.lemmas.Fmt.{decimal_injective}
use Rattle.std.proofs.lemmas.List.{append_cancel_left, append_cancel_right}
use Rattle.journal_model.specs.declared.script.Script.{Script}
use Rattle.journal_model.specs.scripts.Words.{Text, line}
use Rattle.journal_model.specs.scripts.Readable.{is_u64}
use Rattle.journal_model.specs.reports.ReportText.{report_head}
use Rattle.journal_model.specs.reports.Verdict.{HasHead}

pub fits : (n : ℕ) → is_u64 n ≡ true → n < 2 ^ 64
fits n h = grind (arith, nat_tests)

pub is_small : (n : ℕ) → n < 2 ^ 64 → is_u64 n ≡ true
is_small n h = grind (arith, nat_tests)

-- the line that tells the count
abbrev pub count_line : ℕ → Text
count_line n = line (codes "journal" ∷ decimal n ∷ [])

one_count : (n m : ℕ) → is_u64 n ≡ true → is_u64 m ≡ true → count_line n ≡ count_line m → n ≡ m
one_count n m h k same =
    decimal_injective n m (fits n h) (fits m k)
    (append_cancel_left (codes "journal ") (decimal n) (decimal m)
    (append_cancel_right (codes "journal " ++ decimal n) (codes "journal " ++ decimal m) (10 ∷ []) same))

two_lines : (t u v : Text) (xs ys : List Text) → t ∷ u ∷ xs ≡ t ∷ v ∷ ys → (u ≡ v) × (xs ≡ ys)
two_lines t u v xs ys h = (cc, cc)

-- both tell the same count, and the same follows them
pub one_head : (script : Script) (text : Text) (c d : ℕ) (xs ys : List Text) → HasHead script text c xs → HasHead script text d ys → (c ≡ d) × (xs ≡ ys)
one_head script text c d xs ys h k =
    let parts = two_lines (report_head script) (count_line c) (count_line d) xs ys (sym h.lines ∙ k.lines) in
    (one_count c d h.fits k.fits parts.0, parts.1)
