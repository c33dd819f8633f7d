-- What was drawn is a script.
use Rattle.std.proofs.Common.{◌≡◌, ℕ, zero, suc, ◌+◌, ◌*◌, ◌≤◌, true, List, [], ◌∷◌, ◌++◌, length, map, refl, sym, ap, ◌∙◌, arith}
use Rattle.std.specs.Prelude.{IsTrue, nat_le, sum_by, replicate, codes, decimal, flat_map}
use Rattle.std.specs.List.{list_all}
use Rattle.std.proofs.lemmas.List.{length-append, length-map}
use Rattle.std.proofs.lemmas.List.Concat.{length-flat_map}
use Rattle.std.proofs.lemmas.List.Sums.{sum_by-cons}
use Rattle.journal_model.specs.declared.script.Script.{Script}
use Rattle.journal_model.specs.declared.script.Decl.{Decl}
use Rattle.journal_model.specs.declared.script.Command.{Command}
use Rattle.journal_model.specs.scripts.Words.{Text, line}
use Rattle.journal_model.specs.scripts.Spelling.{buffer_line, spelling}
use Rattle.journal_model.specs.scripts.CommandRules.{command_len}
use Rattle.journal_model.specs.scripts.ScriptRules.{is_script}
use Rattle.law_legal.proofs.law_items.Tests.{joint, is_le}
use Rattle.law_legal.proofs.law_items.ListFacts.{has_few}
use Rattle.law_legal.proofs.law_script.Sound.{frame, six}
use Rattle.journal_model.specs.scripts.ScriptRules.{IsScript}
use Rattle.generated_load.specs.Draws.{seeded}
use Rattle.generated_load.specs.Buffers.{load_sizes, load_buffers}
use Rattle.generated_load.specs.Commands.{load_threads}
use Rattle.generated_load.specs.Loads.{IsLoad, load_script}
use Rattle.generated_load.proofs.LineLaws.{few_digits, line_len}
use Rattle.generated_load.proofs.BufferLaws.{AreLoadBuffers, HasLoadBuffers, buffer_len, holds, buffer_count, names_differ, buffers_fit}
use Rattle.generated_load.proofs.PlainLaws.{command_text, thread_text, body, no_marks_fit, plain_spelling}
use Rattle.generated_load.proofs.CommandLaws.{AreLoadThreads, line_of_command, threads_fit}

-- these buffers and threads
abbrev pub load_of : List Decl → List (List Command) → Script
load_of buffers threads = record { version = 1; sizes = load_sizes; buffers = buffers; threads = threads; turns = []; marks = [] }

few_lines : (ts : List (List Command)) (n : ℕ) → map length ts ≡ replicate n 216 → list_all has_few ts ≡ true
few_lines [] n h = refl
few_lines (t ∷ ts) zero h = absurd cc
few_lines (t ∷ ts) (suc n) h =
    let here : length t ≡ 216 = cc in
    let rest : map length ts ≡ replicate n 216 = cc in
    joint (has_few t) (list_all has_few ts) (is_le (length t) 4096 (omega (arith, here))) (few_lines ts n rest)

are_script : (buffers : List Decl) (threads : List (List Command)) → AreLoadBuffers 24 buffers → AreLoadThreads 3 threads → IsTrue (is_script (load_of buffers threads))
are_script buffers threads b t =
    let script : Script = load_of buffers threads in
    let has : HasLoadBuffers script = record { buffers = b; engines = refl } in
    let count = buffer_count buffers b.names in
    let three : length threads ≡ 3 = sym (length-map threads length) ∙ ap length t.lens in
    let total = t.len in
    let marks = no_marks_fit script refl (few_lines threads 3 t.lens) in
    let short : nat_le (sum_by (sum_by command_len) threads) 67108864 ≡ true = is_le (sum_by (sum_by command_len) threads) 67108864 (omega (arith, total)) in
    holds (holds (holds (holds (holds (holds (holds (is_le (length buffers) 256 (omega (arith, count))) b.decls) (names_differ buffers b.names)) (is_le (length threads) 16 (omega (arith, three))))
    (t.fit script has)) short) refl) marks

-- ---- how long its text is

head_len : (buffers : List Decl) (threads : List (List Command)) → length (six (load_of buffers threads)) ≤ 200
head_len buffers threads =
    let a = line_len (codes "ttm" ∷ decimal 1 ∷ []) in
    let b = line_len (codes "vram" ∷ codes "buddy" ∷ decimal 64 ∷ []) in
    let c = line_len (codes "tt" ∷ decimal 512 ∷ []) in
    let d = line_len (codes "frames" ∷ decimal 192 ∷ []) in
    let e = line_len (codes "swap" ∷ decimal 256 ∷ []) in
    let f = line_len (codes "engines" ∷ decimal 2 ∷ []) in
    let g = few_digits 1 (omega arith) in
    let h = few_digits 64 (omega arith) in
    let i = few_digits 512 (omega arith) in
    let j = few_digits 192 (omega arith) in
    let k = few_digits 256 (omega arith) in
    let l = few_digits 2 (omega arith) in
    six_len (line (codes "ttm" ∷ decimal 1 ∷ [])) (line (codes "vram" ∷ codes "buddy" ∷ decimal 64 ∷ [])) (line (codes "tt" ∷ decimal 512 ∷ [])) (line (codes "frames" ∷ decimal 192 ∷ []))
    (line (codes "swap" ∷ decimal 256 ∷ [])) (line (codes "engines" ∷ decimal 2 ∷ [])) (omega (arith, a, g)) (omega (arith, b, h)) (omega (arith, c, i)) (omega (arith, d, j)) (omega (arith, e, k)) (omega (arith, f, l))
  where
    six_len : (a b c d e f : Text) → length a ≤ 30 → length b ≤ 30 → length c ≤ 30 → length d ≤ 30 → length e ≤ 30 → length f ≤ 30 → length (a ++ b ++ c ++ d ++ e ++ f) ≤ 200
    six_len a b c d e f p q r s t u =
        let v = length-append a b in
        let w = length-append (a ++ b) c in
        let x = length-append (a ++ b ++ c) d in
        let y = length-append (a ++ b ++ c ++ d) e in
        let z = length-append (a ++ b ++ c ++ d ++ e) f in
        omega (arith, p, q, r, s, t, u, v, w, x, y, z)

-- a thread has a line of its own
thread_len : (script : Script) (cs : List Command) → length (thread_text script cs) ≡ 7 + sum_by (line_of_command script) cs
thread_len script cs =
    let commands : length (flat_map (command_text script) cs) ≡ sum_by (line_of_command script) cs = length-flat_map (command_text script) cs in
    let both = length-append (line (codes "thread" ∷ [])) (flat_map (command_text script) cs) in
    omega (arith, commands, both)

threads_len : (script : Script) (ts : List (List Command)) → length (flat_map (thread_text script) ts) ≡ 7 * length ts + sum_by (sum_by (line_of_command script)) ts
threads_len script [] = refl
threads_len script (cs ∷ ts) =
    let here = thread_len script cs in
    let rest = threads_len script ts in
    let both = length-append (thread_text script cs) (flat_map (thread_text script) ts) in
    let sum = sum_by-cons (sum_by (line_of_command script)) cs ts in
    omega (arith, here, rest, both, sum)

text_len : (buffers : List Decl) (threads : List (List Command)) → AreLoadBuffers 24 buffers → AreLoadThreads 3 threads → length (spelling (load_of buffers threads)) ≤ 1048576
text_len buffers threads b t =
    let script : Script = load_of buffers threads in
    let has : HasLoadBuffers (frame script) = record { buffers = b; engines = refl } in
    let head = head_len buffers threads in
    let declared : length (flat_map (buffer_line 1) buffers) ≡ sum_by buffer_len buffers = length-flat_map (buffer_line 1) buffers in
    let few = b.len in
    let commands = threads_len (frame script) threads in
    let short = t.short (frame script) has in
    let three : length threads ≡ 3 = sym (length-map threads length) ∙ ap length t.lens in
    let plain = plain_spelling script refl in
    let whole = length-append (body script) (line (codes "end" ∷ [])) in
    let front = length-append (six script) (flat_map (buffer_line 1) buffers) in
    let middle = length-append (six script ++ flat_map (buffer_line 1) buffers) (flat_map (thread_text (frame script)) threads) in
    let back = length-append (six script ++ flat_map (buffer_line 1) buffers ++ flat_map (thread_text (frame script)) threads) [] in
    let is : length (spelling script) ≡ length (body script ++ line (codes "end" ∷ [])) = ap length plain in
    omega (arith, head, declared, few, commands, short, three, whole, front, middle, back, is)

-- ---- the script of a number

pub is_load : (n : ℕ) → IsLoad (load_script n)
unfolding load_script
is_load n =
    let buffers = load_buffers 24 (seeded n) in
    let threads = load_threads 3 buffers.1 in
    let b : AreLoadBuffers 24 buffers.0 = buffers_fit 24 (omega arith) (seeded n) in
    let t : AreLoadThreads 3 threads.0 = threads_fit 3 (omega arith) buffers.1 in
    record { fits = are_script buffers.0 threads.0 b t; plain = refl; sizes = refl; lens = t.lens }

load_len : (n : ℕ) → length (spelling (load_script n)) ≤ 1048576
unfolding load_script
load_len n =
    let buffers = load_buffers 24 (seeded n) in
    text_len buffers.0 (load_threads 3 buffers.1).0 (buffers_fit 24 (omega arith) (seeded n)) (threads_fit 3 (omega arith) buffers.1)

-- its spelling is that of a script without marks
pub spells : (n : ℕ) (bytes : List ℕ) → bytes ≡ spelling (load_script n) → IsScript bytes (load_script n)
spells n bytes h =
    let load = is_load n in
    let len = load_len n in
    let same : length bytes ≡ length (spelling (load_script n)) = ap length h in
    record { spelled = h; fits = load.fits; short = omega (arith, len, same) }
