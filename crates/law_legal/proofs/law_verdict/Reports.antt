-- The report of a legal journal is right to its end.
use Rattle.std.proofs.Common.{◌≡◌, ℕ, ◌+◌, ◌<◌, ◌≤◌, ◌^◌, Bool, true, false, List, [], ◌∷◌, ◌++◌, length, refl, ap, ◌∙◌, arith, append_assoc}
use Rattle.std.specs.Prelude.{◌&&◌, nat_le, codes, flat_map, sum_by}
use Rattle.std.specs.List.{list_all, enumerate_from}
use Rattle.std.proofs.lemmas.Bool.Decides.{nat_tests}
use Rattle.journal_model.specs.declared.script.Script.{Script}
use Rattle.journal_model.specs.declared.entry.Entry.{Entry}
use Rattle.journal_model.specs.scripts.Words.{Text, line}
use Rattle.journal_model.specs.scripts.Cut.{lines_of}
use Rattle.journal_model.specs.scripts.CommandRules.{command_len, is_between, is_command}
use Rattle.journal_model.specs.scripts.ScriptRules.{has_distinct_names, has_sizes, is_decl, is_script, is_turn_line}
use Rattle.journal_model.specs.scripts.MarkRules.{have_marks}
use Rattle.journal_model.specs.reports.EntryText.{entry_line}
use Rattle.journal_model.specs.rules.Legal.{IsLegal, state_of}
use Rattle.journal_model.specs.statements.Complete.{thread_numbers}
use Rattle.journal_model.specs.scripts.Readable.{is_readable, is_u64}
use Rattle.journal_model.specs.reports.ReportText.{account_lines, maps_part, report, report_head, spaces_part, thread_results}
use Rattle.journal_model.specs.reports.Verdict.{AreEntryTexts, IsRightTo}
use Rattle.law_legal.proofs.law_report.Cuts.{both}
use Rattle.law_legal.proofs.law_verdict.Heads.{count_line, is_small}
use Rattle.law_legal.proofs.law_verdict.Actors.{HaveActors}
use Rattle.law_legal.proofs.law_verdict.Lines.{entry_first, numbered_line}

-- ---- entries

-- their lines
abbrev entry_lines : Script → ℕ → List Entry → List Text
entry_lines script n [] = []
entry_lines script n (e ∷ es) = entry_line script (n, e) ∷ entry_lines script (n + 1) es

entries_first : (script : Script) → is_script script ≡ true → (n : ℕ) (es : List Entry) (rest : Text) → n + length es ≤ 2 ^ 64 → list_all (is_readable script) es ≡ true
    → lines_of (flat_map (entry_line script) (enumerate_from n es) ++ rest) ≡ entry_lines script n es ++ lines_of rest
entries_first script is n [] rest few h = refl
entries_first script is n (e ∷ es) rest few h =
    let f = both (is_readable script e) (list_all (is_readable script) es) h in
    let others = flat_map (entry_line script) (enumerate_from (n + 1) es) in
    ap lines_of (append_assoc (entry_line script (n, e)) others rest)
    ∙ entry_first script is n e (others ++ rest) (is_small n (omega (arith, few))) f.0
    ∙ ap (λ ls. entry_line script (n, e) ∷ ls) (entries_first script is (n + 1) es rest (omega (arith, few)) f.1)

are_texts : (script : Script) (n : ℕ) (es : List Entry) → list_all (is_readable script) es ≡ true → HaveActors script es → AreEntryTexts script n (entry_lines script n es) es
are_texts script n [] h k = tt
are_texts script n (e ∷ es) h k =
    let f = both (is_readable script e) (list_all (is_readable script) es) h in
    (record { readable = f.0; actor = k.0; says = refl }, are_texts script (n + 1) es f.1 k.1)

-- ---- the report

first_of : (a b c d e f g h i j : Bool) → (((((((((a && b) && c) && d) && e) && f) && g) && h) && i) && j) ≡ true → a ≡ true
first_of true b c d e f g h i j all = refl
first_of false b c d e f g h i j all = cc

few_versions : (n : ℕ) → is_between 1 2 n ≡ true → is_u64 n ≡ true
few_versions n h = grind (arith, nat_tests)

small_version : (script : Script) → is_script script ≡ true → is_u64 script.version ≡ true
small_version script is =
    few_versions script.version
    (first_of (is_between 1 2 script.version) (has_sizes script) (nat_le (length script.buffers) 256) (list_all (is_decl script.version) script.buffers)
    (has_distinct_names script.buffers) (nat_le (length script.threads) 16) (list_all (list_all (is_command script)) script.threads)
    (nat_le (sum_by (sum_by command_len) script.threads) 67108864) (list_all (is_turn_line script) script.turns) (have_marks script) is)

-- what follows the entries
abbrev pub behind_entries : Script → List Entry → Text
behind_entries script journal =
    (((((line (codes "results" ∷ []) ++ flat_map (thread_results journal) (thread_numbers script)) ++ line (codes "accounts" ∷ []))
    ++ account_lines script (state_of script journal).core) ++ maps_part script journal) ++ spaces_part script) ++ line (codes "end" ∷ [])

regrouped : (a b c d e f g h i j : Text) → (((((((((a ++ b) ++ c) ++ d) ++ e) ++ f) ++ g) ++ h) ++ i) ++ j) ≡ a ++ (b ++ (c ++ (((((((d ++ e) ++ f) ++ g) ++ h) ++ i) ++ j))))
regrouped a b c d e f g h i j = simp append_assoc

in_parts : (script : Script) (journal : List Entry) → report script journal
    ≡ report_head script ++ (count_line (length journal) ++ (flat_map (entry_line script) (enumerate_from 1 journal) ++ behind_entries script journal))
in_parts script journal =
    regrouped (report_head script) (count_line (length journal)) (flat_map (entry_line script) (enumerate_from 1 journal)) (line (codes "results" ∷ []))
    (flat_map (thread_results journal) (thread_numbers script)) (line (codes "accounts" ∷ [])) (account_lines script (state_of script journal).core)
    (maps_part script journal) (spaces_part script) (line (codes "end" ∷ []))

report_lines : (script : Script) → is_script script ≡ true → (journal : List Entry) → length journal < 2 ^ 64 → list_all (is_readable script) journal ≡ true
    → lines_of (report script journal) ≡ report_head script ∷ count_line (length journal) ∷ (entry_lines script 1 journal ++ lines_of (behind_entries script journal))
report_lines script is journal few readable =
    let behind = behind_entries script journal in
    let entries = flat_map (entry_line script) (enumerate_from 1 journal) in
    ap lines_of (in_parts script journal)
    ∙ numbered_line (codes "report") script.version (count_line (length journal) ++ (entries ++ behind)) refl (small_version script is)
    ∙ ap (λ ls. report_head script ∷ ls) (numbered_line (codes "journal") (length journal) (entries ++ behind) refl (is_small (length journal) few)
    ∙ ap (λ ls. count_line (length journal) ∷ ls) (entries_first script is 1 journal behind (omega (arith, few)) readable))

-- it counts its entries, and they are a legal journal
pub right_to_end : (script : Script) → is_script script ≡ true → (journal : List Entry) → length journal < 2 ^ 64 → list_all (is_readable script) journal ≡ true
    → HaveActors script journal → IsLegal script journal → IsRightTo script (report script journal) (length journal) journal (lines_of (behind_entries script journal))
right_to_end script is journal few readable actors legal =
    record {
      right = entry_lines script 1 journal;
      head = record { lines = report_lines script is journal few readable; fits = is_small (length journal) few };
      within = omega arith;
      entries = are_texts script 1 journal readable actors;
      legal = legal;
    }
