-- A place that is spelled is cut into its base and its flags again.
use Rattle.std.proofs.Common.{◌≡◌, ℕ, Bool, true, false, cond, eqb, List, [], ◌∷◌, ◌++◌, Some, refl, sym, ap, ◌∙◌}
use Rattle.std.specs.Prelude.{◌||◌, codes}
use Rattle.std.specs.List.{list_all, list_any}
use Rattle.std.proofs.lemmas.Bool.{eqb-true}
use Rattle.journal_model.specs.declared.line.Flags.{Flags}
use Rattle.journal_model.specs.scripts.Words.{Text}
use Rattle.journal_model.specs.scripts.Cut.{cut_at}
use Rattle.journal_model.specs.scripts.Reading.{flags_of}
use Rattle.law_legal.proofs.law_script.CutLaws.{lacks, cut_again}
use Rattle.law_legal.proofs.law_script.PlaceLaws.{tail, join_tail, all_flags}
use Rattle.law_legal.proofs.law_items.Tests.{both, joint, differ}

-- a byte that passes is none that fails
pub not_same : (p : ℕ → Bool) (x c : ℕ) (b : Bool) → eqb x c ≡ b → p x ≡ true → p c ≡ false → b ≡ false
not_same p x c false e ay nay = refl
not_same p x c true e ay nay = absurd (differ (sym ay ∙ ap p (eqb-true x c e) ∙ nay))

-- what passes a test that the separator fails has no separator
pub lacks_by : (p : ℕ → Bool) (c : ℕ) (w : Text) → p c ≡ false → list_all p w ≡ true → list_any (λ b. eqb b c) w ≡ false
lacks_by p c [] nay h = refl
lacks_by p c (x ∷ xs) nay h =
    let f = both (p x) (list_all p xs) h in
    ap (λ b. b || list_any (λ y. eqb y c) xs) (not_same p x c (eqb x c) refl f.0 nay) ∙ lacks_by p c xs nay f.1

-- a flag that may stand in a list
abbrev pub listed_flag : Bool → Text → List Text → List Text
listed_flag b word words = cond b (word ∷ words) words

-- the flags as words
abbrev pub flag_list : Flags → List Text
flag_list f = listed_flag f.topdown (codes "top") (listed_flag f.contig (codes "contig") (listed_flag f.desired (codes "desired") (listed_flag f.fallback (codes "fallback") [])))

-- flags that are spelled are read, in version 2
pub flags_again : (t c d : Bool) → flags_of true (flag_list (record { topdown = t; contig = c; desired = d; fallback = false })) ≡ Some (record { topdown = t; contig = c; desired = d; fallback = false })
flags_again true true true = refl
flags_again true true false = refl
flags_again true false true = refl
flags_again true false false = refl
flags_again false true true = refl
flags_again false true false = refl
flags_again false false true = refl
flags_again false false false = refl

-- a flag for busy memory is read
pub fallback_again : (t c : Bool) → flags_of true (flag_list (record { topdown = t; contig = c; desired = false; fallback = true })) ≡ Some (record { topdown = t; contig = c; desired = false; fallback = true })
fallback_again true true = refl
fallback_again true false = refl
fallback_again false true = refl
fallback_again false false = refl

-- flags of version 1 are read
pub bare_again : (t c : Bool) → flags_of false (flag_list (record { topdown = t; contig = c; desired = false; fallback = false })) ≡ Some (record { topdown = t; contig = c; desired = false; fallback = false })
bare_again true true = refl
bare_again true false = refl
bare_again false true = refl
bare_again false false = refl

flag_words : (t c d f : Bool) → let x : Flags = record { topdown = t; contig = c; desired = d; fallback = f } in (tail (flag_list x) ≡ all_flags x) × (list_all (lacks 43) (flag_list x) ≡ true)
flag_words true true true true = (refl, refl)
flag_words true true true false = (refl, refl)
flag_words true true false true = (refl, refl)
flag_words true true false false = (refl, refl)
flag_words true false true true = (refl, refl)
flag_words true false true false = (refl, refl)
flag_words true false false true = (refl, refl)
flag_words true false false false = (refl, refl)
flag_words false true true true = (refl, refl)
flag_words false true true false = (refl, refl)
flag_words false true false true = (refl, refl)
flag_words false true false false = (refl, refl)
flag_words false false true true = (refl, refl)
flag_words false false true false = (refl, refl)
flag_words false false false true = (refl, refl)
flag_words false false false false = (refl, refl)

-- a base with its flags after it is cut into both
pub cut_flags : (base : Text) (f : Flags) → lacks 43 base ≡ true → cut_at 43 (base ++ all_flags f) ≡ base ∷ flag_list f
cut_flags base f h =
    let w = flag_words f.topdown f.contig f.desired f.fallback in
    ap (λ t. cut_at 43 (base ++ t)) (sym w.0) ∙ ap (cut_at 43) (sym (join_tail base (flag_list f))) ∙ cut_again 43 base (flag_list f) (joint (lacks 43 base) (list_all (lacks 43) (flag_list f)) h w.1)
