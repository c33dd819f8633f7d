-- The lines of a report, and that the line of an entry is that of no other.
use Rattle.std.proofs.Common.{◌≡◌, ℕ, true, false, cond, eqb, List, [], ◌∷◌, ◌++◌, refl, ap, sym, ◌∙◌, drop, arith}
use Rattle.std.specs.Prelude.{nat_lt, decimal}
use Rattle.std.specs.List.{list_all}
use Rattle.std.proofs.lemmas.Bool.Decides.{nat_tests}
use Rattle.std.proofs.lemmas.List.{append_cancel_right}
use Rattle.journal_model.specs.declared.script.Script.{Script}
use Rattle.journal_model.specs.declared.entry.Entry.{Entry}
use Rattle.journal_model.specs.scripts.Words.{Text, actor_word, line, spaced}
use Rattle.journal_model.specs.scripts.Cut.{lines_of, onto}
use Rattle.journal_model.specs.scripts.ScriptRules.{is_script}
use Rattle.journal_model.specs.reports.EntryText.{entry_line, kind_words}
use Rattle.journal_model.specs.scripts.Readable.{is_kind, is_readable, is_some_actor, is_u64}
use Rattle.journal_model.specs.reports.Verdict.{IsEntryText}
use Rattle.law_legal.proofs.law_report.Cuts.{both, cut_again, cut_at, joint, lacks}
use Rattle.law_legal.proofs.law_report.Items.{above, above_append, above_lower, lacks_it}
use Rattle.law_legal.proofs.law_report.SmallWords.{actor_above, actor_again, un_actor, word_above, word_at}
use Rattle.law_legal.proofs.law_report.EntryWords.{kind_above, kind_again, read_kind}

-- ---- lines

no_line_feed : (b : ℕ) → nat_lt 10 b ≡ true → eqb b 10 ≡ false
no_line_feed b h = grind (arith, nat_tests)

line_first : (w rest : Text) → above 10 w ≡ true → lines_of ((w ++ 10 ∷ []) ++ rest) ≡ (w ++ 10 ∷ []) ∷ lines_of rest
line_first [] rest h = refl
line_first (b ∷ w) rest h =
    let f = both (nat_lt 10 b) (above 10 w) h in
    let lines = lines_of ((w ++ 10 ∷ []) ++ rest) in
    ap (λ t. cond t ((b ∷ []) ∷ lines) (onto b lines)) (no_line_feed b f.0) ∙ ap (onto b) (line_first w rest f.1)

spaced_above : (ws : List Text) → list_all (above 32) ws ≡ true → above 10 (spaced ws) ≡ true
spaced_above [] h = refl
spaced_above (w ∷ []) h = above_lower 32 10 w (omega arith) (both (above 32 w) true h).0
spaced_above (w ∷ v ∷ ws) h =
    let f = both (above 32 w) (list_all (above 32) (v ∷ ws)) h in
    above_append 10 w (32 ∷ spaced (v ∷ ws)) (above_lower 32 10 w (omega arith) f.0) (spaced_above (v ∷ ws) f.1)

-- a line of words is the first of a text
pub line_of_words : (ws : List Text) (rest : Text) → list_all (above 32) ws ≡ true → lines_of (line ws ++ rest) ≡ line ws ∷ lines_of rest
line_of_words ws rest h = line_first (spaced ws) rest (spaced_above ws h)

pub numbered_line : (keyword : Text) (n : ℕ) (rest : Text) → above 32 keyword ≡ true → is_u64 n ≡ true
    → lines_of (line (keyword ∷ decimal n ∷ []) ++ rest) ≡ line (keyword ∷ decimal n ∷ []) ∷ lines_of rest
numbered_line keyword n rest h k =
    line_of_words (keyword ∷ decimal n ∷ []) rest
    (joint (above 32 keyword) (list_all (above 32) (decimal n ∷ [])) h (joint (above 32 (decimal n)) true (word_above n k) refl))

-- ---- the line of an entry

-- its words
abbrev words_of : Script → ℕ → Entry → List Text
words_of script n e = decimal n ∷ actor_word e.who ∷ kind_words script e.kind

words_above : (script : Script) → is_script script ≡ true → (n : ℕ) (e : Entry) → is_u64 n ≡ true → is_readable script e ≡ true → list_all (above 32) (words_of script n e) ≡ true
words_above script is n e small readable =
    let f = both (is_some_actor e.who) (is_kind script e.kind) readable in
    joint (above 32 (decimal n)) (list_all (above 32) (actor_word e.who ∷ kind_words script e.kind)) (word_above n small)
    (joint (above 32 (actor_word e.who)) (list_all (above 32) (kind_words script e.kind)) (actor_above e.who f.0) (kind_above script is e.kind f.1))

pub entry_first : (script : Script) → is_script script ≡ true → (n : ℕ) (e : Entry) (rest : Text) → is_u64 n ≡ true → is_readable script e ≡ true
    → lines_of (entry_line script (n, e) ++ rest) ≡ entry_line script (n, e) ∷ lines_of rest
entry_first script is n e rest small readable = line_of_words (words_of script n e) rest (words_above script is n e small readable)

words_lack : (ws : List Text) → list_all (above 32) ws ≡ true → list_all (lacks 32) ws ≡ true
words_lack [] h = refl
words_lack (w ∷ ws) h =
    let f = both (above 32 w) (list_all (above 32) ws) h in joint (lacks 32 w) (list_all (lacks 32) ws) (lacks_it 32 w f.0) (words_lack ws f.1)

-- the entry of the words
abbrev entry_of : Script → List Text → Entry
entry_of script ws = record { who = un_actor (word_at ws 1); kind = read_kind script (drop 2 ws) }

entry_again : (script : Script) → is_script script ≡ true → (n : ℕ) (e : Entry) → is_u64 n ≡ true → is_readable script e ≡ true
    → entry_of script (cut_at 32 (spaced (words_of script n e))) ≡ e
entry_again script is n e small readable =
    let f = both (is_some_actor e.who) (is_kind script e.kind) readable in
    ap (entry_of script) (cut_again 32 (decimal n) (actor_word e.who ∷ kind_words script e.kind) (words_lack (words_of script n e) (words_above script is n e small readable)))
    ∙ ap (λ who. (let x : Entry = record { who = who; kind = read_kind script (kind_words script e.kind) } in x)) (actor_again e.who f.0)
    ∙ ap (λ k. (let x : Entry = record { who = e.who; kind = k } in x)) (kind_again script is e.kind f.1)

-- a line is the text of one entry
pub one_entry : (script : Script) → is_script script ≡ true → (n : ℕ) (t : Text) (e f : Entry) → is_u64 n ≡ true → IsEntryText script n t e → IsEntryText script n t f → e ≡ f
one_entry script is n t e f small h k =
    let same = append_cancel_right (spaced (words_of script n e)) (spaced (words_of script n f)) (10 ∷ []) (sym h.says ∙ k.says) in
    sym (entry_again script is n e small h.readable) ∙ ap (λ w. entry_of script (cut_at 32 w)) same ∙ entry_again script is n f small k.readable
