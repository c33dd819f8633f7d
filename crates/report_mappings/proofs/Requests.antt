-- Requests of a thread, one after the other, and the text of their steps.
use Rattle.std.proofs.Common.{◌≡◌, ℕ, zero, suc, ◌+◌, Bool, true, false, cond, List, [], ◌∷◌, ◌++◌, drop, Some, ap, refl, sym, ◌∙◌, append_assoc, append-nil, arith}
use Rattle.std.specs.Prelude.{◌==◌, ◌&&◌, filter, flat_map, map, slice_get}
use Rattle.std.specs.List.{enumerate_from}
use Rattle.std.proofs.lemmas.Bool.{and_parts}
use Rattle.journal_model.specs.declared.script.Script.{Script}
use Rattle.journal_model.specs.declared.script.Mark.{Mark}
use Rattle.journal_model.specs.marks.Marks.{is_request}
use Rattle.journal_model.specs.scripts.Words.{Text}
use Rattle.journal_model.specs.marks.Spaces.{Region, regions_after, steps_along, steps_of}
use Rattle.journal_model.specs.reports.ReportText.{request_lines}
use Rattle.map_access.proofs.Accesses.{drop_at}
use Rattle.report_mappings.specs.Requests.{is_asked_by, requests_among}

-- ---- the requests among marks

taken : (a b : Bool) (m : Mark) (rest : List Mark) → is_request m.kind ≡ b → a ≡ true → b ≡ true
    → filter is_request (map (λ k. k.kind) (cond a (m ∷ rest) rest)) ≡ m.kind ∷ filter is_request (map (λ k. k.kind) rest)
taken a b m rest e own asks =
    ap (λ (c : Bool). filter is_request (map (λ k. k.kind) (cond c (m ∷ rest) rest))) own
    ∙ ap (λ (c : Bool). cond c (m.kind ∷ filter is_request (map (λ k. k.kind) rest)) (filter is_request (map (λ k. k.kind) rest))) (e ∙ asks)

passed : (a : Bool) (m : Mark) (rest : List Mark) → (a && is_request m.kind) ≡ false
    → filter is_request (map (λ k. k.kind) (cond a (m ∷ rest) rest)) ≡ filter is_request (map (λ k. k.kind) rest)
passed true m rest h = ap (λ (c : Bool). cond c (m.kind ∷ filter is_request (map (λ k. k.kind) rest)) (filter is_request (map (λ k. k.kind) rest))) h
passed false m rest h = refl

-- one more request
among_taken : (thread : ℕ) (marks : List Mark) (i : ℕ) (m : Mark) → slice_get marks i ≡ Some m → is_asked_by thread m ≡ true
    → requests_among thread (drop i marks) ≡ m.kind ∷ requests_among thread (drop (i + 1) marks)
among_taken thread marks i m h asked =
    let both = and_parts (m.thread == thread) (is_request m.kind) asked in
    ap (requests_among thread) (drop_at marks i m h)
    ∙ taken (m.thread == thread) (is_request m.kind) m (filter (λ k. k.thread == thread) (drop (i + 1) marks)) refl both.0 both.1

-- another mark
among_passed : (thread : ℕ) (marks : List Mark) (i : ℕ) (m : Mark) → slice_get marks i ≡ Some m → is_asked_by thread m ≡ false
    → requests_among thread (drop i marks) ≡ requests_among thread (drop (i + 1) marks)
among_passed thread marks i m h asked =
    ap (requests_among thread) (drop_at marks i m h) ∙ passed (m.thread == thread) m (filter (λ k. k.thread == thread) (drop (i + 1) marks)) asked

-- ---- the text of their steps

-- that of the requests from a mark on
abbrev pub text_from : Script → ℕ → ℕ → List Region → List Mark → Text
text_from script thread number regions marks =
    flat_map (request_lines script thread) (enumerate_from number (steps_along regions (requests_among thread marks)))

-- the lines of a request are put
pub text_goes_on : (script : Script) (thread number i : ℕ) (regions : List Region) (m : Mark) (before now whole : Text)
    → slice_get script.marks i ≡ Some m → is_asked_by thread m ≡ true
    → before ++ text_from script thread number regions (drop i script.marks) ≡ whole
    → now ≡ before ++ request_lines script thread (number, steps_of regions m.kind)
    → now ++ text_from script thread (number + 1) (regions_after regions m.kind) (drop (i + 1) script.marks) ≡ whole
text_goes_on script thread number i regions m before now whole h asked told put =
    let rest = text_from script thread (number + 1) (regions_after regions m.kind) (drop (i + 1) script.marks) in
    let here = request_lines script thread (number, steps_of regions m.kind) in
    ap (λ t. t ++ rest) put ∙ append_assoc before here rest
    ∙ ap (λ rs. before ++ flat_map (request_lines script thread) (enumerate_from number (steps_along regions rs))) (sym (among_taken thread script.marks i m h asked))
    ∙ told

-- nothing is put for another mark
pub text_stays : (script : Script) (thread number i : ℕ) (regions : List Region) (m : Mark) (before whole : Text)
    → slice_get script.marks i ≡ Some m → is_asked_by thread m ≡ false
    → before ++ text_from script thread number regions (drop i script.marks) ≡ whole
    → before ++ text_from script thread number regions (drop (i + 1) script.marks) ≡ whole
text_stays script thread number i regions m before whole h asked told =
    ap (λ rs. before ++ flat_map (request_lines script thread) (enumerate_from number (steps_along regions rs))) (sym (among_passed thread script.marks i m h asked))
    ∙ told

-- all are put
pub text_ends : (script : Script) (thread number i : ℕ) (regions : List Region) (before whole : Text) → drop i script.marks ≡ []
    → before ++ text_from script thread number regions (drop i script.marks) ≡ whole → before ≡ whole
text_ends script thread number i regions before whole none told =
    sym (append-nil before)
    ∙ ap (λ ms. before ++ flat_map (request_lines script thread) (enumerate_from number (steps_along regions (requests_among thread ms)))) (sym none)
    ∙ told
