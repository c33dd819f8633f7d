-- A report has one journal.
use Rattle.std.proofs.Common.{◌≡◌, ℕ, ◌+◌, ◌<◌, ◌≤◌, ◌^◌, true, List, [], ◌∷◌, ◌++◌, length, drop, refl, sym, ap, ◌∙◌, arith, append_assoc}
use Rattle.std.specs.Prelude.{decimal, codes, flat_map}
use Rattle.std.specs.List.{list_all, enumerate_from}
use Rattle.std.proofs.lemmas.Bool.Decides.{nat_tests}
use Rattle.std.proofs.lemmas.Fmt.{decimal_injective}
use Rattle.journal_model.specs.declared.script.Script.{Script}
use Rattle.journal_model.specs.declared.entry.Entry.{Entry}
use Rattle.journal_model.specs.scripts.Words.{Text, actor_word, line, spaced}
use Rattle.journal_model.specs.reports.EntryText.{entry_line, kind_words}
use Rattle.journal_model.specs.statements.Complete.{thread_numbers}
use Rattle.journal_model.specs.rules.Legal.{state_of}
use Rattle.journal_model.specs.reports.ReportText.{account_lines, maps_part, report, spaces_part, thread_results}
use Rattle.journal_model.specs.scripts.ScriptRules.{is_script}
use Rattle.journal_model.specs.scripts.Readable.{is_kind, is_readable, is_some_actor, is_u64}
use Rattle.law_legal.specs.law_report.ReportLaw.{OneJournal}
use Rattle.law_legal.proofs.law_report.Cuts.{both, joint, cut_at, cut_again, front_again, lacks}
use Rattle.law_legal.proofs.law_report.Items.{above, above_append, above_lower, lacks_it}
use Rattle.law_legal.proofs.law_report.SmallWords.{actor_above, actor_again, un_actor, word_above, word_at}
use Rattle.law_legal.proofs.law_report.EntryWords.{kind_above, kind_again, read_kind}

-- ---- an entry

abbrev words_of : Script → ℕ → Entry → List Text
words_of script n e = decimal n ∷ actor_word e.who ∷ kind_words script e.kind

-- of the words of its line
abbrev un_entry : Script → List Text → Entry
un_entry script ws = record { who = un_actor (word_at ws 1); kind = read_kind script (drop 2 ws) }

words_above : (script : Script) → is_script script ≡ true → (n : ℕ) (e : Entry) → is_u64 n ≡ true → is_readable script e ≡ true → list_all (above 32) (words_of script n e) ≡ true
words_above script is n e h k =
    let f = both (is_some_actor e.who) (is_kind script e.kind) k in
    joint (above 32 (decimal n)) (list_all (above 32) (actor_word e.who ∷ kind_words script e.kind)) (word_above n h)
    (joint (above 32 (actor_word e.who)) (list_all (above 32) (kind_words script e.kind)) (actor_above e.who f.0) (kind_above script is e.kind f.1))

words_lack : (ws : List Text) → list_all (above 32) ws ≡ true → list_all (lacks 32) ws ≡ true
words_lack [] h = refl
words_lack (w ∷ ws) h =
    let f = both (above 32 w) (list_all (above 32) ws) h in joint (lacks 32 w) (list_all (lacks 32) ws) (lacks_it 32 w f.0) (words_lack ws f.1)

spaced_above : (ws : List Text) → list_all (above 32) ws ≡ true → above 10 (spaced ws) ≡ true
spaced_above [] h = refl
spaced_above (w ∷ []) h = above_lower 32 10 w (omega arith) (both (above 32 w) true h).0
spaced_above (w ∷ v ∷ ws) h =
    let f = both (above 32 w) (list_all (above 32) (v ∷ ws)) h in
    above_append 10 w (32 ∷ spaced (v ∷ ws)) (above_lower 32 10 w (omega arith) f.0) (spaced_above (v ∷ ws) f.1)

entry_again : (script : Script) → is_script script ≡ true → (n : ℕ) (e : Entry) → is_u64 n ≡ true → is_readable script e ≡ true
    → un_entry script (cut_at 32 (spaced (words_of script n e))) ≡ e
entry_again script is n e h k =
    let f = both (is_some_actor e.who) (is_kind script e.kind) k in
    ap (un_entry script) (cut_again 32 (decimal n) (actor_word e.who ∷ kind_words script e.kind) (words_lack (words_of script n e) (words_above script is n e h k)))
    ∙ ap (λ w. (let x : Entry = record { who = w; kind = read_kind script (kind_words script e.kind) } in x)) (actor_again e.who f.0)
    ∙ ap (λ w. (let x : Entry = record { who = e.who; kind = w } in x)) (kind_again script is e.kind f.1)

-- ---- the lines of a journal

number_is : (n : ℕ) → n < 2 ^ 64 → is_u64 n ≡ true
number_is n h = grind (arith, nat_tests)

-- lines with the same number, and what follows them
same_entry : (script : Script) → is_script script ≡ true → (n : ℕ) (e f : Entry) (x y : Text) → is_u64 n ≡ true → is_readable script e ≡ true → is_readable script f ≡ true
    → entry_line script (n, e) ++ x ≡ entry_line script (n, f) ++ y → (e ≡ f) × (x ≡ y)
same_entry script is n e f x y h p q same =
    let t = spaced (words_of script n e) in
    let u = spaced (words_of script n f) in
    let r = front_again 10 t u x y (lacks_it 10 t (spaced_above (words_of script n e) (words_above script is n e h p)))
    (lacks_it 10 u (spaced_above (words_of script n f) (words_above script is n f h q)))
    (sym (append_assoc t (10 ∷ []) x) ∙ same ∙ append_assoc u (10 ∷ []) y) in
    (sym (entry_again script is n e h p) ∙ ap (λ z. un_entry script (cut_at 32 z)) r.0 ∙ entry_again script is n f h q, r.1)

same_entries : (script : Script) → is_script script ≡ true → (k : ℕ) (one other : List Entry) (x y : Text) → length one ≡ length other → k + length one ≤ 2 ^ 64
    → list_all (is_readable script) one ≡ true → list_all (is_readable script) other ≡ true
    → flat_map (entry_line script) (enumerate_from k one) ++ x ≡ flat_map (entry_line script) (enumerate_from k other) ++ y → one ≡ other
same_entries script is k [] [] x y l few p q same = refl
same_entries script is k [] (f ∷ other) x y l few p q same = cc
same_entries script is k (e ∷ one) [] x y l few p q same = cc
same_entries script is k (e ∷ one) (f ∷ other) x y l few p q same =
    let a = both (is_readable script e) (list_all (is_readable script) one) p in
    let b = both (is_readable script f) (list_all (is_readable script) other) q in
    let rest = flat_map (entry_line script) (enumerate_from (k + 1) one) in
    let rest' = flat_map (entry_line script) (enumerate_from (k + 1) other) in
    let r = same_entry script is k e f (rest ++ x) (rest' ++ y) (number_is k (omega arith)) a.0 b.0
    (sym (append_assoc (entry_line script (k, e)) rest x) ∙ same ∙ append_assoc (entry_line script (k, f)) rest' y) in
    ap (λ z. z ∷ one) r.0 ∙ ap (λ zs. f ∷ zs) (same_entries script is (k + 1) one other x y (omega arith) (omega arith) a.1 b.1 r.1)

-- ---- the report

-- what is in front of both
behind : (a x y : Text) → a ++ x ≡ a ++ y → x ≡ y
behind [] x y e = e
behind (c ∷ a) x y e = let f : a ++ x ≡ a ++ y = cc in behind a x y f

regrouped : (a b c d e f g h i j : Text) → (((((((((a ++ b) ++ c) ++ d) ++ e) ++ f) ++ g) ++ h) ++ i) ++ j) ≡ a ++ (b ++ (c ++ (((((((d ++ e) ++ f) ++ g) ++ h) ++ i) ++ j))))
regrouped a b c d e f g h i j = simp append_assoc

-- the parts after the entries
abbrev behind_entries : Script → List Entry → Text
behind_entries script journal =
    (((((line (codes "results" ∷ []) ++ flat_map (thread_results journal) (thread_numbers script)) ++ line (codes "accounts" ∷ []))
    ++ account_lines script (state_of script journal).core) ++ maps_part script journal) ++ spaces_part script) ++ line (codes "end" ∷ [])

in_parts : (script : Script) (journal : List Entry) → report script journal
    ≡ line (codes "report" ∷ decimal script.version ∷ []) ++ (line (codes "journal" ∷ decimal (length journal) ∷ [])
    ++ (flat_map (entry_line script) (enumerate_from 1 journal) ++ behind_entries script journal))
in_parts script journal =
    regrouped (line (codes "report" ∷ decimal script.version ∷ [])) (line (codes "journal" ∷ decimal (length journal) ∷ []))
    (flat_map (entry_line script) (enumerate_from 1 journal)) (line (codes "results" ∷ [])) (flat_map (thread_results journal) (thread_numbers script))
    (line (codes "accounts" ∷ [])) (account_lines script (state_of script journal).core) (maps_part script journal) (spaces_part script) (line (codes "end" ∷ []))

count_above : (n : ℕ) → is_u64 n ≡ true → above 10 (spaced (codes "journal" ∷ decimal n ∷ [])) ≡ true
count_above n h = spaced_above (codes "journal" ∷ decimal n ∷ []) (joint (above 32 (decimal n)) true (word_above n h) refl)

-- lines that tell how many, and what follows them
same_count : (n m : ℕ) (x y : Text) → n < 2 ^ 64 → m < 2 ^ 64 → line (codes "journal" ∷ decimal n ∷ []) ++ x ≡ line (codes "journal" ∷ decimal m ∷ []) ++ y
    → (n ≡ m) × (x ≡ y)
same_count n m x y h k same =
    let t = spaced (codes "journal" ∷ decimal n ∷ []) in
    let u = spaced (codes "journal" ∷ decimal m ∷ []) in
    let r = front_again 10 t u x y (lacks_it 10 t (count_above n (number_is n h))) (lacks_it 10 u (count_above m (number_is m k)))
    (sym (append_assoc t (10 ∷ []) x) ∙ same ∙ append_assoc u (10 ∷ []) y) in
    (decimal_injective n m h k (behind (codes "journal ") (decimal n) (decimal m) r.0), r.1)

pub one_journal : OneJournal
one_journal script one other is p q h k same =
    let whole = sym (in_parts script one) ∙ same ∙ in_parts script other in
    let c = same_count (length one) (length other) _ _ h k (behind (line (codes "report" ∷ decimal script.version ∷ [])) _ _ whole) in
    same_entries script is 1 one other _ _ c.0 (omega arith) p q c.1
