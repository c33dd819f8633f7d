-- Marks and commands as they are written, place by place.
use Rattle.std.proofs.Common.{◌≡◌, ℕ, zero, suc, ◌+◌, ◌-◌, ◌≤◌, ◌<◌, Bool, true, false, cond, drop, get_or, List, [], ◌∷◌, ◌++◌, length, map, Option, Some, None, refl, ap, sym, ◌∙◌, arith, append_assoc, inl, inr}
use Rattle.std.specs.Prelude.{◌&&◌, ◌||◌, ◌==◌, nat_lt, nat_le, filter, filter_map, flat_map, slice_get, unwrap_or}
use Rattle.std.specs.List.{list_any, list_all, enumerate_from}
use Rattle.std.proofs.lemmas.Bool.{cases_Bool, and_parts, eqb-true, ne_eqb}
use Rattle.std.proofs.lemmas.Bool.Decides.{nat_tests}
use Rattle.std.proofs.lemmas.List.Folds.{flat_map-map}
use Rattle.std.proofs.lemmas.List.Concat.{flat_map-cons}
use Rattle.journal_model.specs.declared.script.Script.{Script}
use Rattle.journal_model.specs.declared.script.Command.{Command}
use Rattle.journal_model.specs.declared.script.Mark.{Mark}
use Rattle.journal_model.specs.declared.script.MarkKind.{MarkKind}
use Rattle.journal_model.specs.declared.space.VOp.{VOp}
use Rattle.journal_model.specs.scripts.Words.{Text, line}
use Rattle.journal_model.specs.rules.Commands.{commands_of}
use Rattle.journal_model.specs.scripts.CommandRules.{is_between}
use Rattle.journal_model.specs.marks.Marks.{addressed, is_mapped, marks_at}
use Rattle.journal_model.specs.scripts.MarkRules.{is_in_thread}
use Rattle.journal_model.specs.scripts.Spelling.{mark_line, mark_lines, command_lines, command_words, mapped_words, addressed_words, thread_lines}
use Rattle.script_spelling.specs.Cursors.{is_from, marks_from}
use Rattle.script_spelling.specs.Parts.{kinds, written}

-- ---- a command by its marks

pub as_addressed : (s : Script) (ms : List MarkKind) (c : Command) (vs : List VOp) → Some vs ≡ slice_get (filter_map addressed ms) 0 → line (addressed_words s vs c) ≡ written s ms c
as_addressed s ms c vs e = rw (sym e) refl

pub as_mapped : (s : Script) (ms : List MarkKind) (c : Command) → None ≡ slice_get (filter_map addressed ms) 0 → list_any is_mapped ms ≡ true → line (mapped_words s c) ≡ written s ms c
as_mapped s ms c e h = rw (sym e, h) refl

pub as_command : (s : Script) (ms : List MarkKind) (c : Command) → None ≡ slice_get (filter_map addressed ms) 0 → list_any is_mapped ms ≡ false → line (command_words s c) ≡ written s ms c
as_command s ms c e h = rw (sym e, h) refl

pub mapped_kinds : (ms : List Mark) → list_any (λ m. is_mapped m.kind) ms ≡ list_any is_mapped (kinds ms)
mapped_kinds [] = refl
mapped_kinds (m ∷ ms) = ap (λ b. is_mapped m.kind || b) (mapped_kinds ms)

-- ---- commands of a thread

marks_text : (s : Script) (t n : ℕ) (here : List Mark) → kinds here ≡ marks_at s t n → flat_map (λ m. mark_line s m.kind) here ≡ mark_lines s t n
marks_text s t n here e = sym (flat_map-map (mark_line s) (λ (m : Mark). m.kind) here) ∙ ap (flat_map (mark_line s)) e

pub one_command : (s : Script) (t n : ℕ) (c : Command) (cs : List Command) (here : List Mark) (old mid new whole : Text) → kinds here ≡ marks_at s t n →
    mid ≡ old ++ flat_map (λ m. mark_line s m.kind) here → new ≡ mid ++ written s (kinds here) c → old ++ command_lines s t n (c ∷ cs) ≡ whole → new ++ command_lines s t (n + 1) cs ≡ whole
one_command s t n c cs here old mid new whole e p q h =
    let marks = flat_map (λ (m : Mark). mark_line s m.kind) here in
    let rest = command_lines s t (n + 1) cs in
    let w = written s (kinds here) c in
    ap (λ x. x ++ rest) (q ∙ ap (λ x. x ++ w) p ∙ append_assoc old marks w)
    ∙ append_assoc old (marks ++ w) rest
    ∙ ap (λ x. old ++ ((x ++ w) ++ rest)) (marks_text s t n here e)
    ∙ ap (λ ks. old ++ ((mark_lines s t n ++ written s ks c) ++ rest)) e
    ∙ h

pub last_marks : (s : Script) (t n : ℕ) (here : List Mark) (old new whole : Text) → kinds here ≡ marks_at s t n →
    new ≡ old ++ flat_map (λ m. mark_line s m.kind) here → old ++ command_lines s t n [] ≡ whole → new ≡ whole
last_marks s t n here old new whole e p h = p ∙ ap (λ x. old ++ x) (marks_text s t n here e) ∙ h

-- ---- threads

pub one_thread : (s : Script) (t : ℕ) (cs : List Command) (ts : List (List Command)) (old new whole : Text) → new ≡ old ++ thread_lines s (t, cs) →
    old ++ flat_map (thread_lines s) (enumerate_from t (cs ∷ ts)) ≡ whole → new ++ flat_map (thread_lines s) (enumerate_from (t + 1) ts) ≡ whole
one_thread s t cs ts old new whole p h =
    let rest = flat_map (thread_lines s) (enumerate_from (t + 1) ts) in
    ap (λ x. x ++ rest) p ∙ append_assoc old (thread_lines s (t, cs)) rest ∙ ap (λ x. old ++ x) (sym (flat_map-cons (thread_lines s) (t, cs) (enumerate_from (t + 1) ts))) ∙ h

same_from : (t n u k : ℕ) (ms : List Mark) (p : Mark → Bool) → ((m : Mark) → p m ≡ true → is_from t n m ≡ is_from u k m) → list_all p ms ≡ true → marks_from ms t n ≡ marks_from ms u k
same_from t n u k [] p same h = refl
same_from t n u k (m ∷ ms) p same h =
    let f = and_parts (p m) (list_all p ms) h in
    let rest = same_from t n u k ms p same f.1 in
    elim (cases_Bool (is_from t n m)) [
      | inl a ↦ let b : is_from u k m ≡ true = sym (same m f.0) ∙ a in rw (a, b) (ap (λ xs. m ∷ xs) rest)
      | inr a ↦ let b : is_from u k m ≡ false = sym (same m f.0) ∙ a in rw (a, b) rest
    ]

behind_commands : (s : Script) (t len : ℕ) (m : Mark) → length (commands_of s t) ≡ len → is_in_thread s m ≡ true → is_from t (len + 1) m ≡ is_from (t + 1) 0 m
behind_commands s t len m e h = elim (cases_Bool (m.thread == t)) [
  | inl k ↦
      let same : m.thread ≡ t = eqb-true m.thread t k in
      let parts = and_parts (is_between 1 (length s.threads) m.thread) (nat_le m.after (length (commands_of s m.thread))) h in
      let all : length (commands_of s m.thread) ≡ len = ap (λ x. length (commands_of s x)) same ∙ e in
      let few : nat_le m.after len ≡ true = ap (λ x. nat_le m.after x) (sym all) ∙ parts.1 in
      grind (arith, nat_tests, same, few)
  | inr k ↦ grind (arith, nat_tests, k)
]

-- the marks after the last command of a thread are those of the threads after it
pub next_thread : (s : Script) (t len : ℕ) → length (commands_of s t) ≡ len → list_all (is_in_thread s) s.marks ≡ true → marks_from s.marks t (len + 1) ≡ marks_from s.marks (t + 1) 0
next_thread s t len e h = same_from t (len + 1) (t + 1) 0 s.marks (is_in_thread s) (λ m k. behind_commands s t len m e k) h

all_first : (s : Script) (m : Mark) → is_in_thread s m ≡ true → is_from 1 0 m ≡ true
all_first s m h =
    let parts = and_parts (is_between 1 (length s.threads) m.thread) (nat_le m.after (length (commands_of s m.thread))) h in
    let between = parts.0 in
    grind (arith, nat_tests, between)

all_kept : (s : Script) (ms : List Mark) → list_all (is_in_thread s) ms ≡ true → ms ≡ marks_from ms 1 0
all_kept s [] h = refl
all_kept s (m ∷ ms) h =
    let f = and_parts (is_in_thread s m) (list_all (is_in_thread s) ms) h in
    rw (all_first s m f.0) (ap (λ xs. m ∷ xs) (all_kept s ms f.1))

pub first_thread : (s : Script) → list_all (is_in_thread s) s.marks ≡ true → s.marks ≡ marks_from s.marks 1 0
first_thread s h = all_kept s s.marks h

-- ---- lists

pub all_dropped : {X : Type 0} (xs : List X) (n : ℕ) → length xs ≤ n → drop n xs ≡ []
all_dropped [] zero h = refl
all_dropped [] (suc n) h = refl
all_dropped (x ∷ xs) zero h = absurd (omega (arith, h))
all_dropped (x ∷ xs) (suc n) h = all_dropped xs n (omega (arith, h))

get_some : {X : Type 0} (xs : List X) (i : ℕ) (d : X) → i < length xs → slice_get xs i ≡ Some (get_or xs i d)
get_some [] i d h = absurd (omega (arith, h))
get_some (x ∷ xs) zero d h = refl
get_some (x ∷ xs) (suc i) d h = get_some xs i d (omega (arith, h))

-- the commands of a thread, counted from 1
pub thread_at : (s : Script) (i : ℕ) (d : List Command) → i < length s.threads → commands_of s (i + 1) ≡ get_or s.threads i d
thread_at s i d h =
    let some : (i + 1 == 0) ≡ false = ne_eqb (i + 1) 0 (λ k. omega (arith, k)) in
    let before : i + 1 - 1 ≡ i = omega arith in
    let found : unwrap_or (slice_get s.threads (i + 1 - 1)) [] ≡ get_or s.threads i d = ap (λ k. unwrap_or (slice_get s.threads k) []) before ∙ ap (λ o. unwrap_or o []) (get_some s.threads i d h) in
    ap (λ b. cond b [] (unwrap_or (slice_get s.threads (i + 1 - 1)) [])) some ∙ found
