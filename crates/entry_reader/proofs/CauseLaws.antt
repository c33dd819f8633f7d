-- Why a place is dry: what is read is spelled so, and what is spelled is read.
use Rattle.std.proofs.Common.{◌≡◌, ℕ, true, false, cond, eqb, List, [], ◌∷◌, ◌++◌, length, map, Option, Some, None, refl, ap, sym, subst, ◌∙◌, arith, append_assoc, bytes_eq}
use Rattle.std.specs.Prelude.{◌&&◌, not, codes, decimal, nat_le, option_map}
use Rattle.std.specs.List.{join_with_byte, list_all}
use Rattle.std.proofs.lemmas.Bool.Decides.{nat_tests}
use Rattle.ttm_base.specs.declared.BufId.{BufId}
use Rattle.journal_model.specs.declared.script.Script.{Script}
use Rattle.journal_model.specs.declared.entry.DryWhy.{DryWhy}
use Rattle.journal_model.specs.declared.entry.DryWhy.TheVariants as dry
use Rattle.journal_model.specs.declared.entry.CauseRow.{CauseRow}
use Rattle.journal_model.specs.declared.entry.Cause.{Cause}
use Rattle.journal_model.specs.declared.entry.Cause.TheVariants as cause
use Rattle.journal_model.specs.scripts.Words.{Text, listed, name_of}
use Rattle.journal_model.specs.reports.EntryText.{cause_row_word, cause_word, dry_word}
use Rattle.journal_model.specs.scripts.Cut.{cut_at}
use Rattle.journal_model.specs.scripts.CommandRules.{is_declared}
use Rattle.journal_model.specs.scripts.ScriptRules.{is_letter, is_letter_or_digit, is_name, is_script}
use Rattle.journal_model.specs.scripts.Readable.{is_cause, is_cause_row, is_dry_why}
use Rattle.journal_model.specs.scripts.Reading.{known, names_of}
use Rattle.law_legal.proofs.law_items.Tests.{both, joint}
use Rattle.law_legal.proofs.law_script.CutLaws.{cut_again, joined, lacks}
use Rattle.law_legal.proofs.law_script.WordLaws.{bytes_are}
use Rattle.law_legal.proofs.law_script.NamesAgain.{known_again}
use Rattle.law_legal.proofs.law_script.PlaceAgain.{lacks_by}
use Rattle.law_legal.proofs.law_script.BufferSteps.{same_is}
use Rattle.law_legal.proofs.law_report.Names.{declared_name}
use Rattle.law_legal.proofs.law_report.Listed.{rows_not_short}
use Rattle.entry_reader.specs.EntryReading.{cause_of, dry_of, list_of, reserved_of, row_of, row_parts, row_with, u64_of, with_two}
use Rattle.entry_reader.proofs.Wholes.{Told, one_made, one_told, told_at, told_if, two_made, two_told}
use Rattle.entry_reader.proofs.Lists.{IsItem, list_again, list_told, none_append, none_is}
use Rattle.entry_reader.proofs.WordLaws.{below_64, digits_lack, known_told, u64_again, u64_told}
use Rattle.entry_reader.proofs.ScriptFacts.{script_named}

-- ---- causes

-- the words of a cause
abbrev cause_words : Cause → List Text
cause_words cause.Pinned = codes "pinned" ∷ []
cause_words (cause.Reserved s) = codes "reserved" ∷ decimal s.0 ∷ []
cause_words cause.Outside = codes "outside" ∷ []
cause_words cause.Skipped = codes "skipped" ∷ []

abbrev IsCause : List Text → Cause → Type 0
IsCause ws c = (is_cause c ≡ true) × (cause_words c ≡ ws)

cause_told : (w : Text) (c : Cause) → cause_of w ≡ Some c → IsCause (w ∷ []) c
cause_told w c h =
    let P : Cause → Type 0 = λ d. IsCause (w ∷ []) d in
    told_at (cause_of w) c P
    (told_if (bytes_eq w (codes "pinned")) (Some cause.Pinned) _ P (λ e. (refl, ap (λ t. t ∷ []) (sym (bytes_are w (codes "pinned") e))))
    (told_if (bytes_eq w (codes "outside")) (Some cause.Outside) _ P (λ e. (refl, ap (λ t. t ∷ []) (sym (bytes_are w (codes "outside") e))))
    (told_if (bytes_eq w (codes "skipped")) (Some cause.Skipped) None P (λ e. (refl, ap (λ t. t ∷ []) (sym (bytes_are w (codes "skipped") e)))) tt))) h

reserved_told : (w stamp : Text) (c : Cause) → reserved_of w stamp ≡ Some c → IsCause (w ∷ stamp ∷ []) c
reserved_told w stamp c h =
    let P : Cause → Type 0 = λ d. IsCause (w ∷ stamp ∷ []) d in
    told_at (reserved_of w stamp) c P
    (told_if (bytes_eq w (codes "reserved")) (option_map (λ s. cause.Reserved (record { 0 = s })) (u64_of stamp)) None P
    (λ e. one_told (λ s. cause.Reserved (record { 0 = s })) (u64_of stamp) P
    (λ s p.
    let t = u64_told stamp s p in
    (t.0, ap (λ v. v ∷ decimal s ∷ []) (sym (bytes_are w (codes "reserved") e)) ∙ ap (λ v. w ∷ v ∷ []) t.1))) tt) h

-- ---- a buffer with its cause

row_joined : (n : Text) (c : Cause) → (n ++ codes ":") ++ cause_word c ≡ join_with_byte 58 (n ∷ cause_words c)
row_joined n cause.Pinned = append_assoc n (58 ∷ []) (codes "pinned")
row_joined n (cause.Reserved s) = append_assoc n (58 ∷ []) (cause_word (cause.Reserved s))
row_joined n cause.Outside = append_assoc n (58 ∷ []) (codes "outside")
row_joined n cause.Skipped = append_assoc n (58 ∷ []) (codes "skipped")

abbrev IsRow : Script → List Text → CauseRow → Type 0
IsRow script ws row = (is_cause_row script row ≡ true) × (name_of script row.b ∷ cause_words row.cause ≡ ws)

with_cause : (script : Script) (name : Text) (ws : List Text) (o : Option Cause) → ((c : Cause) → o ≡ Some c → IsCause ws c)
    → Told (with_two row_with (known (names_of script.buffers) name) o) (IsRow script (name ∷ ws))
with_cause script name ws o told =
    two_told row_with (known (names_of script.buffers) name) o (IsRow script (name ∷ ws))
    (λ b c p q.
    let n = known_told script name b p in
    let t = told c q in
    (joint (is_declared script b) (is_cause c) n.0 t.0, ap (λ v. v ∷ cause_words c) n.1 ∙ ap (λ vs. name ∷ vs) t.1))

row_parts_told : (script : Script) (ws : List Text) → Told (row_parts (names_of script.buffers) ws) (IsRow script ws)
row_parts_told script [] = tt
row_parts_told script (n ∷ []) = tt
row_parts_told script (n ∷ w ∷ []) = with_cause script n (w ∷ []) (cause_of w) (cause_told w)
row_parts_told script (n ∷ w ∷ s ∷ []) = with_cause script n (w ∷ s ∷ []) (reserved_of w s) (reserved_told w s)
row_parts_told script (n ∷ w ∷ s ∷ x ∷ ws) = tt

row_told : (script : Script) (w : Text) (row : CauseRow) → row_of (names_of script.buffers) w ≡ Some row → (is_cause_row script row ≡ true) × (cause_row_word script row ≡ w)
row_told script w row h =
    let t = told_at (row_of (names_of script.buffers) w) row (IsRow script (cut_at 58 w)) (row_parts_told script (cut_at 58 w)) h in
    (t.0, row_joined (name_of script row.b) row.cause ∙ ap (join_with_byte 58) t.1 ∙ joined 58 w)

-- ---- the other way round

parts_again : (script : Script) (b : BufId) (c : Cause) → known (names_of script.buffers) (name_of script b) ≡ Some b → is_cause c ≡ true
    → row_parts (names_of script.buffers) (name_of script b ∷ cause_words c) ≡ Some (row_with b c)
parts_again script b cause.Pinned k h = ap (λ o. with_two row_with o (Some cause.Pinned)) k
parts_again script b (cause.Reserved s) k h =
    two_made row_with (known (names_of script.buffers) (name_of script b)) (option_map (λ n. cause.Reserved (record { 0 = n })) (u64_of (decimal s.0))) b (cause.Reserved s) k
    (one_made (λ n. cause.Reserved (record { 0 = n })) (u64_of (decimal s.0)) s.0 (u64_again s.0 h))
parts_again script b cause.Outside k h = ap (λ o. with_two row_with o (Some cause.Outside)) k
parts_again script b cause.Skipped k h = ap (λ o. with_two row_with o (Some cause.Skipped)) k

letter_is_one : (c : ℕ) → is_letter c ≡ true → is_letter_or_digit c ≡ true
letter_is_one c h = grind (arith, nat_tests)

name_bytes : (w : Text) → is_name w ≡ true → list_all is_letter_or_digit w ≡ true
name_bytes [] h = cc
name_bytes (c ∷ cs) h =
    let f = both (is_letter c) (list_all is_letter_or_digit cs) (both (is_letter c && list_all is_letter_or_digit cs) (nat_le (length cs) 7) h).0 in
    joint (is_letter_or_digit c) (list_all is_letter_or_digit cs) (letter_is_one c f.0) f.1

name_lacks : (c : ℕ) (w : Text) → is_letter_or_digit c ≡ false → is_name w ≡ true → none_is c w ≡ false
name_lacks c w nay h = lacks_by is_letter_or_digit c w nay (name_bytes w h)

causes_lack : (c : Cause) → is_cause c ≡ true → list_all (lacks 58) (cause_words c) ≡ true
causes_lack cause.Pinned h = refl
causes_lack (cause.Reserved s) h = joint (lacks 58 (decimal s.0)) true (ap not (digits_lack 58 s.0 refl (below_64 s.0 h))) refl
causes_lack cause.Outside h = refl
causes_lack cause.Skipped h = refl

row_again : (script : Script) → is_script script ≡ true → (row : CauseRow) → is_cause_row script row ≡ true → row_of (names_of script.buffers) (cause_row_word script row) ≡ Some row
row_again script is row h =
    let f = both (is_declared script row.b) (is_cause row.cause) h in
    let n = name_of script row.b in
    ap (row_of (names_of script.buffers)) (row_joined n row.cause)
    ∙ ap (row_parts (names_of script.buffers)) (cut_again 58 n (cause_words row.cause)
    (joint (lacks 58 n) (list_all (lacks 58) (cause_words row.cause)) (ap not (name_lacks 58 n refl (declared_name script row.b is f.0))) (causes_lack row.cause f.1)))
    ∙ parts_again script row.b row.cause (known_again script row.b (script_named script is) f.0) f.1

comma_free : (c : Cause) → is_cause c ≡ true → none_is 44 (cause_word c) ≡ false
comma_free cause.Pinned h = refl
comma_free (cause.Reserved s) h = digits_lack 44 s.0 refl (below_64 s.0 h)
comma_free cause.Outside h = refl
comma_free cause.Skipped h = refl

letter_no_dash : (c : ℕ) → is_letter c ≡ true → eqb c 45 ≡ false
letter_no_dash c h = grind (arith, nat_tests)

name_first : (w v : Text) → is_name w ≡ true → none_is 44 (w ++ v) ≡ false → IsItem (w ++ v)
name_first [] v h a = cc
name_first (c ∷ cs) v h a =
    let f = both (is_letter c) (list_all is_letter_or_digit cs) (both (is_letter c && list_all is_letter_or_digit cs) (nat_le (length cs) 7) h).0 in
    (letter_no_dash c f.0, a)

row_item : (script : Script) → is_script script ≡ true → (row : CauseRow) → is_cause_row script row ≡ true → IsItem (cause_row_word script row)
row_item script is row h =
    let f = both (is_declared script row.b) (is_cause row.cause) h in
    let n = name_of script row.b in
    let name = declared_name script row.b is f.0 in
    subst IsItem (sym (append_assoc n (58 ∷ []) (cause_word row.cause)))
    (name_first n (58 ∷ cause_word row.cause) name (none_append 44 n (58 ∷ cause_word row.cause) (name_lacks 44 n refl name) (comma_free row.cause f.1)))

-- ---- why a place is dry

pub dry_told : (script : Script) (w : Text) (x : DryWhy) → dry_of (names_of script.buffers) w ≡ Some x → (is_dry_why script x ≡ true) × (dry_word script x ≡ w)
dry_told script w x h =
    let P : DryWhy → Type 0 = λ y. (is_dry_why script y ≡ true) × (dry_word script y ≡ w) in
    told_at (dry_of (names_of script.buffers) w) x P
    (told_if (bytes_eq w (codes "short")) (Some dry.Short) _ P (λ e. (refl, sym (bytes_are w (codes "short") e)))
    (one_told (λ rows. dry.Of rows) (list_of (row_of (names_of script.buffers)) w) P
    (λ rows p. list_told (row_of (names_of script.buffers)) (cause_row_word script) (is_cause_row script) (row_told script) w rows p))) h

pub dry_again : (script : Script) → is_script script ≡ true → (x : DryWhy) → is_dry_why script x ≡ true → dry_of (names_of script.buffers) (dry_word script x) ≡ Some x
dry_again script is dry.Short h = refl
dry_again script is (dry.Of rows) h =
    let w = listed (map (cause_row_word script) rows) in
    ap (λ b. cond b (Some dry.Short) (option_map (λ rs. dry.Of rs) (list_of (row_of (names_of script.buffers)) w)))
    (sym (same_is w (codes "short")) ∙ rows_not_short script is rows h)
    ∙ one_made (λ rs. dry.Of rs) (list_of (row_of (names_of script.buffers)) w) rows
    (list_again (row_of (names_of script.buffers)) (cause_row_word script) (is_cause_row script) (row_again script is) (row_item script is) rows h)
