-- Texts that are made of lines.
use Rattle.std.proofs.Common.{◌≡◌, ℕ, zero, suc, ◌+◌, ◌<◌, ◌≤◌, Bool, true, false, List, [], ◌∷◌, ◌++◌, length, take, drop, Option, Some, None, Result, IsTrue, refl, sym, subst, ◌∙◌, ap, arith, decimal, append_assoc, length-drop}
use Rattle.std.proofs.Math.Seq.{take-add}
use Rattle.std.proofs.lemmas.List.{length-take-le, take-append-drop}
use Rattle.std.specs.Prelude.{IsErr, not, ◌==◌, ◌&&◌, codes, flat_map, if◌then◌else◌}
use Rattle.std.specs.List.{enumerate_from, list_any}
use Rattle.journal_model.specs.declared.script.Script.{Script}
use Rattle.journal_model.specs.declared.space.VStep.{VStep}
use Rattle.journal_model.specs.declared.entry.Entry.{Entry}
use Rattle.journal_model.specs.declared.entry.Kind.{Kind}
use Rattle.journal_model.specs.declared.entry.Kind.TheVariants as kind
use Rattle.journal_model.specs.statements.Complete.{thread_numbers}
use Rattle.journal_model.specs.rules.Legal.{Made, made_of}
use Rattle.journal_model.specs.marks.Mapped.{Access, access_at, answered_before, faulted}
use Rattle.journal_model.specs.marks.Marks.{is_map, is_vmap, requests_of}
use Rattle.journal_model.specs.reports.ReportText.{fault_lines, faults_line, maps_part, request_lines, spaces_part, step_words, thread_faults, thread_steps}
use Rattle.journal_model.specs.marks.Spaces.{steps_along}
use Rattle.journal_model.specs.scripts.Words.{Text, line, numbers_word, spaced, thread_word}
use Rattle.std.specs.Io.KnownBytes.{append_known}
use Rattle.io_edge.specs.Lines.{is_line}
use Rattle.io_edge.specs.Written.{AppendsFront, Writes}
use Rattle.io_edge.proofs.Told.{front_of_first, front_of_next, writes_refused}
use Rattle.script_words.specs.Lines.{line_len}
use Rattle.report_text.specs.Lines.{are_lines}
use Rattle.report_text.specs.Parts.{mappings_part}

-- ---- texts that end with a line feed

ends_so : (t : Text) → are_lines (t ++ 10 ∷ []) ≡ true
ends_so [] = refl
ends_so (b ∷ []) = refl
ends_so (b ∷ c ∷ t) = ends_so (c ∷ t)

-- a line
pub line_is_lines : (ws : List Text) → are_lines (line ws) ≡ true
line_is_lines ws = ends_so (spaced ws)

pub so_are_lines : (t : Text) (ws : List Text) → t ≡ line ws → IsTrue (are_lines t)
so_are_lines t ws e = subst (λ (x : Text). IsTrue (are_lines x)) (sym e) (line_is_lines ws)

-- two
lines_append : (s t : Text) → are_lines s ≡ true → are_lines t ≡ true → are_lines (s ++ t) ≡ true
lines_append [] t h k = k
lines_append (b ∷ []) [] h k = h
lines_append (b ∷ []) (c ∷ t) h k = k
lines_append (b ∷ c ∷ s) t h k = lines_append (c ∷ s) t h k

-- one for each item
lines_each : {X : Type 0} (f : X → Text) → ((x : X) → are_lines (f x) ≡ true) → (xs : List X) → are_lines (flat_map f xs) ≡ true
lines_each f h [] = refl
lines_each f h (x ∷ xs) = lines_append (f x) (flat_map f xs) (h x) (lines_each f h xs)

-- a text that may be left out
lines_if : (b : Bool) (t : Text) → are_lines t ≡ true → (let part : Text = elim b as (λ _. Text) [ true ↦ t | false ↦ [] ] in are_lines part ≡ true)
lines_if true t h = h
lines_if false t h = refl

-- ---- the parts on mappings

faults_are : (script : Script) (before : List Made) (thread : ℕ) (m : Made) → are_lines (fault_lines script before thread m) ≡ true
faults_are script before thread m = by m.entry.kind (access_at script thread m)
  where
    by : (k : Kind) (o : Option Access)
        → (let part : Text = elim k [
          | kind.Result r ↦ elim o [
            | None ↦ []
            | Some a ↦ faults_line thread (answered_before m thread) (faulted script before thread (answered_before m thread) a)
          ]
          | _ ↦ []
        ] in are_lines part ≡ true)
    by (kind.Result r) None = refl
    by (kind.Result r) (Some a) =
        line_is_lines (thread_word thread ∷ decimal (answered_before m thread + 1) ∷ codes "faults" ∷ numbers_word (faulted script before thread (answered_before m thread) a) ∷ [])
    by _ o = refl

thread_faults_are : (script : Script) (thread : ℕ) (before ms : List Made) → are_lines (thread_faults script thread before ms) ≡ true
thread_faults_are script thread before [] = refl
thread_faults_are script thread before (m ∷ ms) =
    lines_append (fault_lines script before thread m) (thread_faults script thread (before ++ m ∷ []) ms) (faults_are script before thread m) (thread_faults_are script thread (before ++ m ∷ []) ms)

maps_are : (script : Script) (journal : List Entry) → are_lines (maps_part script journal) ≡ true
maps_are script journal =
    lines_if (list_any (λ m. is_map m.kind) script.marks)
    (line (codes "maps" ∷ []) ++ flat_map (λ t. thread_faults script t [] (made_of script journal)) (thread_numbers script))
    (lines_append (line (codes "maps" ∷ [])) (flat_map (λ t. thread_faults script t [] (made_of script journal)) (thread_numbers script)) (line_is_lines (codes "maps" ∷ []))
    (lines_each (λ t. thread_faults script t [] (made_of script journal)) (λ t. thread_faults_are script t [] (made_of script journal)) (thread_numbers script)))

requests_are : (script : Script) (thread : ℕ) (e : ℕ × List VStep) → are_lines (request_lines script thread e) ≡ true
requests_are script thread e =
    lines_each (λ (s : VStep). line (thread_word thread ∷ decimal e.0 ∷ step_words script s)) (λ s. line_is_lines (thread_word thread ∷ decimal e.0 ∷ step_words script s)) e.1

spaces_are : (script : Script) → are_lines (spaces_part script) ≡ true
spaces_are script =
    lines_if (list_any (λ m. is_vmap m.kind) script.marks)
    (line (codes "spaces" ∷ []) ++ flat_map (thread_steps script) (thread_numbers script))
    (lines_append (line (codes "spaces" ∷ [])) (flat_map (thread_steps script) (thread_numbers script)) (line_is_lines (codes "spaces" ∷ []))
    (lines_each (thread_steps script) (λ t. lines_each (request_lines script t) (requests_are script t) (enumerate_from 1 (steps_along [] (requests_of script t)))) (thread_numbers script)))

pub mappings_are : (script : Script) (journal : List Entry) (t : Text) → t ≡ mappings_part script journal → IsTrue (are_lines t)
mappings_are script journal t e =
    subst (λ (x : Text). IsTrue (are_lines x)) (sym e) (lines_append (maps_part script journal) (spaces_part script) (maps_are script journal) (spaces_are script))

-- ---- line by line

longer : (p : Bool) (n m : ℕ) → n ≤ m → (if p then 1 else n + 1) ≤ m + 1
longer true n m h = omega arith
longer false n m h = omega (arith, h)

pub line_len_within : (t : Text) → line_len t ≤ length t
line_len_within [] = omega arith
line_len_within (b ∷ t) =
    let h = longer (b == 10) (line_len t) (length t) (line_len_within t) in
    let s : length t + 1 ≡ length (b ∷ t) = omega arith in
    subst (λ m. (if b == 10 then 1 else line_len t + 1) ≤ m) s h

-- a line with one byte more in front, which is no line feed
pub longer_line : (b : ℕ) (t : Text) → (b == 10) ≡ false → is_line t ≡ true → is_line (b ∷ t) ≡ true
longer_line b [] e h = cc
longer_line b (c ∷ t) e h = ap (λ p. not p && is_line (c ∷ t)) e ∙ h

pub first_is_line : (t : Text) → are_lines t ≡ true → 0 < length t → is_line (take (line_len t) t) ≡ true
first_is_line [] h some = absurd (omega (arith, some))
first_is_line (b ∷ []) h some = by (b == 10) refl
  where
    by : (p : Bool) → (b == 10) ≡ p → is_line (take (if p then 1 else 1) (b ∷ [])) ≡ true
    by true e = h
    by false e = h
first_is_line (b ∷ c ∷ t) h some = by (b == 10) refl (first_is_line (c ∷ t) h (omega arith))
  where
    by : (p : Bool) → (b == 10) ≡ p → is_line (take (line_len (c ∷ t)) (c ∷ t)) ≡ true → is_line (take (if p then 1 else line_len (c ∷ t) + 1) (b ∷ c ∷ t)) ≡ true
    by true e rest = e
    by false e rest =
        let n = line_len (c ∷ t) in
        let s : n + 1 ≡ suc n = omega arith in
        subst (λ k. is_line (take k (b ∷ c ∷ t)) ≡ true) (sym s) (longer_line b (take n (c ∷ t)) e rest)

-- what follows a place
lines_behind : (at : ℕ) (t : Text) → are_lines t ≡ true → are_lines (drop at t) ≡ true
lines_behind zero t h = h
lines_behind (suc at) [] h = refl
lines_behind (suc at) (b ∷ []) h = lines_behind at [] refl
lines_behind (suc at) (b ∷ c ∷ t) h = lines_behind at (c ∷ t) h

some_behind : (at : ℕ) (t : Text) → at < length t → 0 < length (drop at t)
some_behind zero t h = h
some_behind (suc at) [] h = absurd (omega (arith, h))
some_behind (suc at) (b ∷ t) h = some_behind at t (omega (arith, h))

-- the line at a place
pub line_at : (t : Text) (at : ℕ) (found : Text) → IsTrue (are_lines t) → at < length t → found ≡ take (line_len (drop at t)) (drop at t) → IsTrue (is_line found)
line_at t at found h less e =
    subst (λ (x : Text). IsTrue (is_line x)) (sym e) (first_is_line (drop at t) (lines_behind at t h) (some_behind at t less))

-- it has some bytes, and ends within the text
pub line_moves : (t : Text) (at : ℕ) (found : Text) → IsTrue (are_lines t) → at < length t → found ≡ take (line_len (drop at t)) (drop at t) → 0 < length found
line_moves t at found h less e = some_of found (line_at t at found h less e)
  where
    some_of : (s : Text) → IsTrue (is_line s) → 0 < length s
    some_of [] k = cc
    some_of (b ∷ s) k = omega arith

pub line_ends : (t : Text) (at : ℕ) (found : Text) → at ≤ length t → found ≡ take (line_len (drop at t)) (drop at t) → at + length found ≤ length t
line_ends t at found within e =
    let n = line_len (drop at t) in
    let w = line_len_within (drop at t) in
    let a = ap length e ∙ length-take-le n (drop at t) w in
    let d = length-drop at t in
    omega (arith, a, w, d)

-- with it, the text up to the next
pub line_next : (t : Text) (at : ℕ) (found : Text) → found ≡ take (line_len (drop at t)) (drop at t) → take (at + length found) t ≡ take at t ++ found
line_next t at found e =
    let n = line_len (drop at t) in
    let w = line_len_within (drop at t) in
    let len : length found ≡ n = ap length e ∙ length-take-le n (drop at t) w in
    ap (λ k. take (at + k) t) len ∙ take-add at n t ∙ ap (λ s. take at t ++ s) (sym e)

-- a front of it was written, after all before it
pub line_stops : {T E : Type 0} (r : Result T E) (old mid new : Option (List ℕ)) (t : Text) (at : ℕ) (found : Text) → IsErr r → found ≡ take (line_len (drop at t)) (drop at t)
    → mid ≡ append_known old (take at t) → AppendsFront mid new found → Writes r old new t
line_stops r old mid new t at found failed e before now =
    let n = line_len (drop at t) in
    let behind = drop n (drop at t) in
    let whole : t ≡ (take at t ++ found) ++ behind =
    sym (take-append-drop at t) ∙ ap (λ s. take at t ++ s) (sym (take-append-drop n (drop at t)) ∙ ap (λ s. s ++ behind) (sym e)) ∙ sym (append_assoc (take at t) found behind) in
    subst (λ (s : Text). Writes r old new s) (sym whole)
    (writes_refused r old new ((take at t ++ found) ++ behind) failed (front_of_first behind (front_of_next (take at t) before now)))
