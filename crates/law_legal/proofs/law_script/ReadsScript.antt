-- The bytes of a script say that script.
use Rattle.std.proofs.Common.{◌≡◌, ℕ, ◌<◌, ◌≤◌, ◌^◌, Bool, true, false, cond, List, [], ◌∷◌, ◌++◌, length, map, Option, Some, Ok, Err, refl, sym, ap, subst, ◌∙◌, append_assoc, arith, bytes_eq, inl, inr}
use Rattle.std.specs.Prelude.{◌&&◌, ◌||◌, not, codes, decimal, flat_map, sum_by, nat_le, nat_lt, IsTrue}
use Rattle.std.specs.List.{list_any, list_all}
use Rattle.std.proofs.lemmas.Bool.Decides.{nat_tests}
use Rattle.std.proofs.lemmas.List.{append-nil}
use Rattle.std.proofs.lemmas.List.Concat.{flat_map-cons}
use Rattle.ttm_base.specs.declared.Actor.{Actor}
use Rattle.journal_model.specs.declared.script.Script.{Script}
use Rattle.journal_model.specs.declared.script.Sizes.{Sizes}
use Rattle.journal_model.specs.declared.script.Decl.{Decl}
use Rattle.journal_model.specs.declared.line.Progress.{Progress}
use Rattle.journal_model.specs.declared.line.Phase.TheVariants as phase
use Rattle.journal_model.specs.declared.line.Keyword.{Keyword}
use Rattle.journal_model.specs.declared.line.Keyword.TheVariants as key
use Rattle.journal_model.specs.declared.line.Line.{Line}
use Rattle.journal_model.specs.declared.line.Line.TheVariants as line_of
use Rattle.journal_model.specs.scripts.Words.{Text, line}
use Rattle.journal_model.specs.scripts.Cut.{lines_of}
use Rattle.journal_model.specs.scripts.Spelling.{buffer_line, turn_line}
use Rattle.journal_model.specs.scripts.CommandRules.{is_between, is_command, command_len}
use Rattle.journal_model.specs.scripts.MarkRules.{have_marks}
use Rattle.journal_model.specs.scripts.ScriptRules.{has_sizes, is_decl, has_distinct_names, same_text, is_turn_line, is_script}
use Rattle.journal_model.specs.scripts.Reading.{names_of, number_in}
use Rattle.journal_model.specs.scripts.LineWords.{keyword_of, may_come, parts_of}
use Rattle.journal_model.specs.scripts.FirstFault.{with_line, nothing_read, script_from}
use Rattle.law_legal.specs.law_script.ScriptLaws.{ReadsScripts}
use Rattle.law_legal.proofs.law_script.NumberLaws.{number_again}
use Rattle.law_legal.proofs.law_script.LineLaws.{made, Breaks_none}
use Rattle.law_legal.proofs.law_script.AgainLaws.{turned}
use Rattle.law_legal.proofs.law_script.BufferSteps.{same_is}
use Rattle.law_legal.proofs.law_script.HeadSteps.{at, kind_word, sizes_fit}
use Rattle.law_legal.specs.law_items.Items.{Item, ComesFrom, commands_in, numbered, with_items, items_text, items_fit}
use Rattle.law_legal.proofs.law_items.Puts.{comes_is, lists_len}
use Rattle.law_legal.proofs.law_items.ListFacts.{has_few}
use Rattle.law_legal.proofs.law_items.FromMarks.{items_of_marks}
use Rattle.law_legal.proofs.law_script.Asked.{fit_asked, asked_long}
use Rattle.law_legal.proofs.law_script.Sound.{frame, first, second, third, fourth, fifth, sixth, six, body}
use Rattle.law_legal.proofs.law_script.ThreadsAgain.{threads_run, turns_run, end_runs}
use Rattle.law_legal.proofs.law_script.BufferAgain.{MayDeclare, decl_is, buffer_runs, one_or_two}
use Rattle.law_legal.proofs.law_script.LineRuns.{Runs, runs_none, runs_both, line_runs, says, keeps_all}
use Rattle.law_legal.proofs.law_script.TakesScript.{spelled_by}
use Rattle.law_legal.proofs.law_script.Solid.{is_word, small_word, number_small_word}
use Rattle.law_legal.proofs.law_items.Tests.{not_true, either, both, joint, le_is}
use Rattle.law_legal.proofs.law_script.HeadSteps.{one}
use Rattle.law_legal.proofs.law_script.HeadSteps.{two}
use Rattle.law_legal.proofs.law_script.ThreadsAgain.{shorter}

-- ---- a script by its parts

abbrev made_of : ℕ → Sizes → List Decl → List (List Item) → List (List Actor) → Script
made_of v sizes buffers lists turns = record { version = v; sizes = sizes; buffers = buffers; threads = map commands_in lists; turns = turns; marks = numbered 1 lists }

-- ---- the head

abbrev no_sizes : Sizes
no_sizes = record { buddy = false; vram = 0; tt = 0; frames = 0; swap = 0; engines = 0 }

first_one : Runs nothing_read (line (codes "ttm" ∷ codes "1" ∷ [])) (at phase.Vram (made_of 1 no_sizes [] [] []) 0 0)
first_one = line_runs nothing_read _ (codes "ttm") (codes "1" ∷ []) refl refl

first_two : Runs nothing_read (line (codes "ttm" ∷ codes "2" ∷ [])) (at phase.Vram (made_of 2 no_sizes [] [] []) 0 0)
first_two = line_runs nothing_read _ (codes "ttm") (codes "2" ∷ []) refl refl

version_runs : (v : ℕ) → is_between 1 2 v ≡ true → Runs nothing_read (line (codes "ttm" ∷ decimal v ∷ [])) (at phase.Vram (made_of v no_sizes [] [] []) 0 0)
version_runs v h =
    let P : ℕ → Type 0 = λ x. Runs nothing_read (line (codes "ttm" ∷ decimal x ∷ [])) (at phase.Vram (made_of x no_sizes [] [] []) 0 0) in
    elim (one_or_two v h) [
      | inl e ↦ subst P (sym e) (subst (λ (t : Text). Runs nothing_read (line (codes "ttm" ∷ t ∷ [])) (at phase.Vram (made_of 1 no_sizes [] [] []) 0 0)) (sym one) first_one)
      | inr e ↦ subst P (sym e) (subst (λ (t : Text). Runs nothing_read (line (codes "ttm" ∷ t ∷ [])) (at phase.Vram (made_of 2 no_sizes [] [] []) 0 0)) (sym two) first_two)
    ]

number_solid : (n high : ℕ) → high < 2 ^ 64 → n ≤ high → is_word (decimal n) ≡ true
number_solid n high small h = small_word (decimal n) (number_small_word n (omega (arith, small, h)))

-- a keyword and a number
size_runs : (p : Progress) (k : Keyword) (w : Text) (n high : ℕ) (sized : Option ℕ → Line) → high < 2 ^ 64 → n ≤ high → keyword_of w ≡ k → may_come p.script.version p.phase k ≡ true → is_word w ≡ true
    → ((x : Text) → parts_of p.script k (w ∷ x ∷ []) ≡ made (sized (number_in 0 high x))) → Breaks_none p (sized (Some n)) → Runs p (line (w ∷ decimal n ∷ [])) (with_line p (sized (Some n)))
size_runs p k w n high sized small h e c solid parts r =
    let words = joint (is_word w) _ solid (joint (is_word (decimal n)) true (number_solid n high small h) refl) in
    line_runs p (with_line p (sized (Some n))) w (decimal n ∷ []) words
    (says p k (w ∷ decimal n ∷ []) (sized (Some n)) e c words (parts (decimal n) ∙ ap (λ x. made (sized x)) (number_again 0 high n small (omega arith) h)) (keeps_all p (sized (Some n)) r))

vram_runs : (s : Script) (buddy : Bool) (n : ℕ) → n ≤ 16384 → Runs (at phase.Vram s 0 0) (line (codes "vram" ∷ kind_word buddy ∷ decimal n ∷ [])) (at phase.Tt (record s { sizes = record (s.sizes) { buddy = buddy; vram = n } }) 0 0)
vram_runs s true n h =
    let p = at phase.Vram s 0 0 in
    let l = line_of.Vram true (Some n) in
    let words = joint true _ refl (joint true _ refl (joint (is_word (decimal n)) true (number_solid n 16384 (omega arith) h) refl)) in
    let r : Breaks_none p l = record { numbers = refl; names = refl; places = refl; ranges = refl; bytes = refl; jobs = refl; actors = refl; counts = refl; lens = refl; maps = refl; pages = refl } in
    line_runs p (with_line p l) (codes "vram") (codes "buddy" ∷ decimal n ∷ []) words
    (says p key.Vram (codes "vram" ∷ codes "buddy" ∷ decimal n ∷ []) l refl refl words (ap (λ x. made (line_of.Vram true x)) (number_again 0 16384 n (omega arith) (omega arith) h)) (keeps_all p l r))
vram_runs s false n h =
    let p = at phase.Vram s 0 0 in
    let l = line_of.Vram false (Some n) in
    let words = joint true _ refl (joint true _ refl (joint (is_word (decimal n)) true (number_solid n 16384 (omega arith) h) refl)) in
    let r : Breaks_none p l = record { numbers = refl; names = refl; places = refl; ranges = refl; bytes = refl; jobs = refl; actors = refl; counts = refl; lens = refl; maps = refl; pages = refl } in
    line_runs p (with_line p l) (codes "vram") (codes "range" ∷ decimal n ∷ []) words
    (says p key.Vram (codes "vram" ∷ codes "range" ∷ decimal n ∷ []) l refl refl words (ap (λ x. made (line_of.Vram false x)) (number_again 0 16384 n (omega arith) (omega arith) h)) (keeps_all p l r))

tt_runs : (s : Script) (n : ℕ) → n ≤ 16384 → Runs (at phase.Tt s 0 0) (line (codes "tt" ∷ decimal n ∷ [])) (at phase.Frames (record s { sizes = record (s.sizes) { tt = n } }) 0 0)
tt_runs s n h =
    size_runs (at phase.Tt s 0 0) key.Tt (codes "tt") n 16384 (λ x. line_of.Tt x) (omega arith) h refl refl refl (λ x. refl)
    (record { numbers = refl; names = refl; places = refl; ranges = refl; bytes = refl; jobs = refl; actors = refl; counts = refl; lens = refl; maps = refl; pages = refl })

frames_runs : (s : Script) (n : ℕ) → n ≤ 16384 → Runs (at phase.Frames s 0 0) (line (codes "frames" ∷ decimal n ∷ [])) (at phase.Swap (record s { sizes = record (s.sizes) { frames = n } }) 0 0)
frames_runs s n h =
    size_runs (at phase.Frames s 0 0) key.Frames (codes "frames") n 16384 (λ x. line_of.Frames x) (omega arith) h refl refl refl (λ x. refl)
    (record { numbers = refl; names = refl; places = refl; ranges = refl; bytes = refl; jobs = refl; actors = refl; counts = refl; lens = refl; maps = refl; pages = refl })

swap_runs : (s : Script) (n : ℕ) → n ≤ 32768 → Runs (at phase.Swap s 0 0) (line (codes "swap" ∷ decimal n ∷ [])) (at phase.Engines (record s { sizes = record (s.sizes) { swap = n } }) 0 0)
swap_runs s n h =
    size_runs (at phase.Swap s 0 0) key.Swap (codes "swap") n 32768 (λ x. line_of.Swap x) (omega arith) h refl refl refl (λ x. refl)
    (record { numbers = refl; names = refl; places = refl; ranges = refl; bytes = refl; jobs = refl; actors = refl; counts = refl; lens = refl; maps = refl; pages = refl })

engines_runs : (s : Script) (n : ℕ) → n ≤ 8 → Runs (at phase.Engines s 0 0) (line (codes "engines" ∷ decimal n ∷ [])) (at phase.Buffers (record s { sizes = record (s.sizes) { engines = n } }) 0 0)
engines_runs s n h =
    size_runs (at phase.Engines s 0 0) key.Engines (codes "engines") n 8 (λ x. line_of.Engines x) (omega arith) h refl refl refl (λ x. refl)
    (record { numbers = refl; names = refl; places = refl; ranges = refl; bytes = refl; jobs = refl; actors = refl; counts = refl; lens = refl; maps = refl; pages = refl })

head_runs : (s : Script) → is_between 1 2 s.version ≡ true → has_sizes s ≡ true → Runs nothing_read (six s) (at phase.Buffers (made_of s.version s.sizes [] [] []) 0 0)
head_runs s v h =
    let f = sizes_fit s h in
    let z = s.sizes in
    let s1 = made_of s.version no_sizes [] [] [] in
    let s2 = made_of s.version (record no_sizes { buddy = z.buddy; vram = z.vram }) [] [] [] in
    let s3 = made_of s.version (record no_sizes { buddy = z.buddy; vram = z.vram; tt = z.tt }) [] [] [] in
    let s4 = made_of s.version (record no_sizes { buddy = z.buddy; vram = z.vram; tt = z.tt; frames = z.frames }) [] [] [] in
    let s5 = made_of s.version (record no_sizes { buddy = z.buddy; vram = z.vram; tt = z.tt; frames = z.frames; swap = z.swap }) [] [] [] in
    let s6 = made_of s.version z [] [] [] in
    let p1 = at phase.Vram s1 0 0 in
    let p2 = at phase.Tt s2 0 0 in
    let p3 = at phase.Frames s3 0 0 in
    let p4 = at phase.Swap s4 0 0 in
    let p5 = at phase.Engines s5 0 0 in
    let p6 = at phase.Buffers s6 0 0 in
    let r2 = runs_both nothing_read p1 p2 (first s) (second s) (version_runs s.version v) (vram_runs s1 z.buddy z.vram (le_is z.vram 16384 f.vram)) in
    let r3 = runs_both nothing_read p2 p3 (first s ++ second s) (third s) r2 (tt_runs s2 z.tt (le_is z.tt 16384 f.tt_pages)) in
    let r4 = runs_both nothing_read p3 p4 (first s ++ second s ++ third s) (fourth s) r3 (frames_runs s3 z.frames (le_is z.frames 16384 f.frames)) in
    let r5 = runs_both nothing_read p4 p5 (first s ++ second s ++ third s ++ fourth s) (fifth s) r4 (swap_runs s4 z.swap (le_is z.swap 32768 f.swap)) in
    runs_both nothing_read p5 p6 (first s ++ second s ++ third s ++ fourth s ++ fifth s) (sixth s) r5 (engines_runs s5 z.engines (le_is z.engines 8 f.engines))

-- ---- buffers

absent : (p : Decl → Bool) (done : List Decl) (d : Decl) (ds : List Decl) → list_any p (done ++ d ∷ ds) ≡ false → p d ≡ false
absent p [] d ds h = (either (p d) (list_any p ds) h).0
absent p (e ∷ done) d ds h = absent p done d ds (either (p e) (list_any p (done ++ d ∷ ds)) h).1

-- a name that comes later is none of those before
free_name : (done : List Decl) (d : Decl) (ds : List Decl) → has_distinct_names (done ++ d ∷ ds) ≡ true → list_any (bytes_eq d.name) (names_of done) ≡ false
free_name [] d ds h = refl
free_name (e ∷ done) d ds h =
    let p : Decl → Bool = λ x. same_text e.name x.name in
    let f = both (not (list_any p (done ++ d ∷ ds))) (has_distinct_names (done ++ d ∷ ds)) h in
    let other : bytes_eq e.name d.name ≡ false = sym (same_is e.name d.name) ∙ absent p done d ds (not_true (list_any p (done ++ d ∷ ds)) f.0) in
    ap (λ b. b || list_any (bytes_eq d.name) (names_of done)) (turned e.name d.name other) ∙ free_name done d ds f.1

buffers_run : (v : ℕ) (sizes : Sizes) (done ds : List Decl) → is_between 1 2 v ≡ true → list_all (is_decl v) ds ≡ true → has_distinct_names (done ++ ds) ≡ true → length (done ++ ds) ≤ 256
    → Runs (at phase.Buffers (made_of v sizes done [] []) 0 0) (flat_map (buffer_line v) ds) (at phase.Buffers (made_of v sizes (done ++ ds) [] []) 0 0)
buffers_run v sizes done [] b h k few = subst (λ (x : List Decl). Runs (at phase.Buffers (made_of v sizes done [] []) 0 0) [] (at phase.Buffers (made_of v sizes x [] []) 0 0)) (sym (append-nil done)) (runs_none _)
buffers_run v sizes done (d ∷ ds) b h k few =
    let f = both (is_decl v d) (list_all (is_decl v) ds) h in
    let s = made_of v sizes done [] [] in
    let p = at phase.Buffers s 0 0 in
    let next = at phase.Buffers (made_of v sizes (done ++ d ∷ []) [] []) 0 0 in
    let less = shorter done d ds in
    let may : MayDeclare s 0 d = record { decl = decl_is v d f.0; free = free_name done d ds k; few = omega (arith, less, few); short = omega arith } in
    let regroup : (done ++ d ∷ []) ++ ds ≡ done ++ d ∷ ds = append_assoc done (d ∷ []) ds in
    let rest = buffers_run v sizes (done ++ d ∷ []) ds b f.1 (ap has_distinct_names regroup ∙ k) (subst (λ (x : List Decl). length x ≤ 256) (sym regroup) few) in
    let q : List Decl → Progress = λ x. at phase.Buffers (made_of v sizes x [] []) 0 0 in
    subst (λ (t : Text). Runs p t (q (done ++ d ∷ ds))) (sym (flat_map-cons (buffer_line v) d ds))
    (subst (λ (x : List Decl). Runs p (buffer_line v d ++ flat_map (buffer_line v) ds) (q x)) regroup
    (runs_both p next (q ((done ++ d ∷ []) ++ ds)) (buffer_line v d) (flat_map (buffer_line v) ds) (buffer_runs s 0 0 d b may) rest))

-- ---- the whole script

record Facts (s : Script) : Type 0 where
  version : is_between 1 2 s.version ≡ true
  sizes : has_sizes s ≡ true
  few_buffers : nat_le (length s.buffers) 256 ≡ true
  decls : list_all (is_decl s.version) s.buffers ≡ true
  names : has_distinct_names s.buffers ≡ true
  few_threads : nat_le (length s.threads) 16 ≡ true
  commands : list_all (list_all (is_command s)) s.threads ≡ true
  short : nat_le (sum_by (sum_by command_len) s.threads) 67108864 ≡ true
  turns : list_all (is_turn_line s) s.turns ≡ true
  marks : have_marks s ≡ true

ten : (a b c d e f g h i j : Bool) → (a && b && c && d && e && f && g && h && i && j) ≡ true
    → (a ≡ true) × (b ≡ true) × (c ≡ true) × (d ≡ true) × (e ≡ true) × (f ≡ true) × (g ≡ true) × (h ≡ true) × (i ≡ true) × (j ≡ true)
ten true true true true true true true true true true p = (refl, refl, refl, refl, refl, refl, refl, refl, refl, refl)
ten false b c d e f g h i j p = absurd cc
ten true false c d e f g h i j p = absurd cc
ten true true false d e f g h i j p = absurd cc
ten true true true false e f g h i j p = absurd cc
ten true true true true false f g h i j p = absurd cc
ten true true true true true false g h i j p = absurd cc
ten true true true true true true false h i j p = absurd cc
ten true true true true true true true false i j p = absurd cc
ten true true true true true true true true false j p = absurd cc
ten true true true true true true true true true false p = absurd cc

facts_of : (s : Script) → is_script s ≡ true → Facts s
facts_of s h =
    let f = ten (is_between 1 2 s.version) (has_sizes s) (nat_le (length s.buffers) 256) (list_all (is_decl s.version) s.buffers) (has_distinct_names s.buffers)
    (nat_le (length s.threads) 16) (list_all (list_all (is_command s)) s.threads) (nat_le (sum_by (sum_by command_len) s.threads) 67108864) (list_all (is_turn_line s) s.turns) (have_marks s) h in
    record { version = f.0; sizes = f.1; few_buffers = f.2; decls = f.3; names = f.4; few_threads = f.5; commands = f.6; short = f.7; turns = f.8; marks = f.9 }

-- ---- the law

all_runs : (s : Script) (lists : List (List Item)) → Facts s → ComesFrom s lists → list_all has_few lists ≡ true → list_all (items_fit s) lists ≡ true
    → (n : ℕ) × (m : ℕ) × Runs nothing_read (body s lists ++ line (codes "end" ∷ [])) (at phase.After (with_items s lists) n m)
all_runs s lists f comes each fit =
    let v = s.version in
    let z = s.sizes in
    let p0 = at phase.Buffers (made_of v z [] [] []) 0 0 in
    let p1 = at phase.Buffers (made_of v z s.buffers [] []) 0 0 in
    let buffers = buffers_run v z [] s.buffers f.version f.decls f.names (le_is (length s.buffers) 256 f.few_buffers) in
    let r1 = runs_both nothing_read p0 p1 (six s) (flat_map (buffer_line v) s.buffers) (head_runs s f.version f.sizes) buffers in
    let few = le_is z.engines 8 (sizes_fit s f.sizes).engines in
    let small : z.engines < 2 ^ 64 = omega (arith, few) in
    let short = le_is (sum_by (sum_by command_len) s.threads) 67108864 f.short in
    let long = asked_long lists ∙ ap (sum_by (sum_by command_len)) (sym comes.threads) in
    let count = le_is (length s.threads) 16 f.few_threads in
    let same = lists_len s lists comes in
    let asked = fit_asked s lists (ap (list_all (list_all (is_command s))) (sym comes.threads) ∙ f.commands) in
    let threads = threads_run lists (made_of v z s.buffers [] []) [] phase.Buffers 0 0 refl refl refl (record { decls = f.decls; distinct_ones = f.names }) small
    (omega (arith, count, same)) each asked fit (omega (arith, short, long)) in
    let p2 = at threads.ph (made_of v z s.buffers lists []) threads.n threads.m in
    let r2 = runs_both nothing_read p1 p2 (six s ++ flat_map (buffer_line v) s.buffers) (flat_map (items_text (frame s)) lists) r1 threads.runs in
    let turned_to = ap length comes.threads in
    let turns = turns_run s.turns (made_of v z s.buffers lists []) [] threads.ph threads.n threads.m threads.schedule threads.last (omega (arith, count, turned_to)) small
    (ap (λ ts. list_all (is_turn_line (record s { threads = ts })) s.turns) (sym comes.threads) ∙ f.turns) threads.short in
    let p3 = at turns.ph (made_of v z s.buffers lists s.turns) turns.n turns.m in
    let r3 = runs_both nothing_read p2 p3 (six s ++ flat_map (buffer_line v) s.buffers ++ flat_map (items_text (frame s)) lists) (flat_map turn_line s.turns) r2 turns.runs in
    (turns.n, turns.m, runs_both nothing_read p3 (at phase.After (with_items s lists) turns.n turns.m) (body s lists) (line (codes "end" ∷ [])) r3 (end_runs turns.ph (made_of v z s.buffers lists s.turns) turns.n turns.m turns.last turns.short))

not_more : (n m : ℕ) → m ≤ n → nat_lt n m ≡ false
not_more n m h = grind (arith, nat_tests)

true_of : (b : Bool) → IsTrue b → b ≡ true
true_of b h = h

-- the spelling of a script says that script
pub reads_scripts : ReadsScripts
reads_scripts bytes s h =
    let f = facts_of s (true_of (is_script s) h.fits) in
    let i = items_of_marks s f.marks in
    let r = all_runs s i.lists f i.comes i.few i.fit in
    let all = body s i.lists ++ line (codes "end" ∷ []) in
    let text : bytes ≡ all ++ [] = h.spelled ∙ spelled_by s i.lists i.comes i.fit ∙ sym (append-nil all) in
    let read : script_from nothing_read 0 (lines_of (all ++ [])) ≡ Ok (with_items s i.lists) = r.2 0 [] (with_items s i.lists) (λ k. refl) in
    ap (λ b. cond b (Err (0, 1)) (script_from nothing_read 0 (lines_of bytes))) (not_more 1048576 (length bytes) h.short)
    ∙ ap (λ t. script_from nothing_read 0 (lines_of t)) text
    ∙ read ∙ ap (λ x. Ok x) (sym (comes_is s i.lists i.comes))
