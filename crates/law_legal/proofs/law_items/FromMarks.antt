-- A script that keeps the rules of marks has lines that fit.
use Rattle.std.proofs.Common.{◌≡◌, ℕ, suc, ◌+◌, Bool, true, false, cond, List, [], ◌∷◌, ◌++◌, length, map, Some, None, refl, sym, ap, ◌∙◌, append_assoc, arith, inl, inr, ◌⊎◌}
use Rattle.std.specs.Prelude.{◌==◌, ◌&&◌, ◌||◌, not, nat_lt, nat_le, filter, fold, slice_get, unwrap_or, if◌then◌else◌}
use Rattle.std.specs.List.{list_all}
use Rattle.std.proofs.lemmas.Bool.{cases_Bool, eqb-true}
use Rattle.std.proofs.lemmas.Bool.Decides.{nat_tests}
use Rattle.std.proofs.lemmas.List.{append-nil}
use Rattle.ttm_base.specs.ListWords.{count_from}
use Rattle.journal_model.specs.declared.script.Script.{Script}
use Rattle.journal_model.specs.declared.script.Command.{Command}
use Rattle.journal_model.specs.declared.script.Mark.{Mark}
use Rattle.journal_model.specs.declared.script.MarkKind.{MarkKind}
use Rattle.journal_model.specs.declared.script.MarkKind.TheVariants as mark
use Rattle.journal_model.specs.rules.Commands.{commands_of}
use Rattle.journal_model.specs.scripts.CommandRules.{is_between}
use Rattle.journal_model.specs.statements.Complete.{thread_numbers}
use Rattle.journal_model.specs.marks.Marks.{marks_at}
use Rattle.journal_model.specs.scripts.MarkRules.{ThreadMappings, empty_thread_mappings, thread_mappings_after, is_mark, is_way, are_marks, marks_fit, is_above, are_in_order, is_in_thread, is_line, has_few_lines, have_marks}
use Rattle.law_legal.specs.law_items.Items.{Item, Alone, Asks, commands_in, mark_at, marks_in, numbered, ComesFrom, item_fits, all_along, items_fit}
use Rattle.law_legal.proofs.law_items.ListFacts.{has_few}
use Rattle.law_legal.proofs.law_items.Tests.{both, joint, and_true, differ}
use Rattle.law_legal.proofs.law_items.Places.{keeps, drops, kinds_at, commands_at, HasThreads, has_threads, first_marks}
use Rattle.law_legal.proofs.law_items.Puts.{lists_len}
use Rattle.law_legal.proofs.law_items.Texts.{mark_is_line, way_no_line}
use Rattle.law_legal.proofs.law_items.Fits.{thread_count}

-- ---- the lines of a thread by its marks and commands

-- a command after the marks above it
abbrev block : List MarkKind → Command → List Item
block [] c = Asks [] c ∷ []
block (m ∷ ms) c = if is_line m then Alone m ∷ block ms c else Asks (m ∷ ms) c ∷ []

-- the lines from command number n on
abbrev items_from : Script → ℕ → ℕ → List Command → List Item
items_from s t n [] = map (λ m. Alone m) (marks_at s t n)
items_from s t n (c ∷ cs) = block (marks_at s t n) c ++ items_from s t (n + 1) cs

-- the lines of the threads from number t on
abbrev lists_from : Script → ℕ → List (List Command) → List (List Item)
lists_from s t [] = []
lists_from s t (cs ∷ ts) = items_from s t 0 cs ∷ lists_from s (t + 1) ts

-- ---- their commands

commands_block : (ms : List MarkKind) (c : Command) (rest : List Item) → commands_in (block ms c ++ rest) ≡ c ∷ commands_in rest
commands_block [] c rest = refl
commands_block (m ∷ ms) c rest =
    let by : Bool → List Command = λ b. commands_in (cond b (Alone m ∷ block ms c) (Asks (m ∷ ms) c ∷ []) ++ rest) in
    elim (cases_Bool (is_line m)) [ inl h ↦ ap by h ∙ commands_block ms c rest | inr h ↦ ap by h ]

commands_alone : (ms : List MarkKind) → commands_in (map (λ m. Alone m) ms) ≡ []
commands_alone [] = refl
commands_alone (m ∷ ms) = commands_alone ms

commands_from : (s : Script) (t n : ℕ) (cs : List Command) → commands_in (items_from s t n cs) ≡ cs
commands_from s t n [] = commands_alone (marks_at s t n)
commands_from s t n (c ∷ cs) = commands_block (marks_at s t n) c (items_from s t (n + 1) cs) ∙ ap (λ x. c ∷ x) (commands_from s t (n + 1) cs)

commands_lists : (s : Script) (t : ℕ) (ts : List (List Command)) → map commands_in (lists_from s t ts) ≡ ts
commands_lists s t [] = refl
commands_lists s t (cs ∷ ts) = ap (λ x. x ∷ map commands_in (lists_from s (t + 1) ts)) (commands_from s t 0 cs) ∙ ap (λ x. cs ∷ x) (commands_lists s (t + 1) ts)

-- ---- their marks

marks_block : (t n : ℕ) (ms : List MarkKind) (c : Command) (rest : List Item) → marks_in t n (block ms c ++ rest) ≡ map (mark_at t n) ms ++ marks_in t (n + 1) rest
marks_block t n [] c rest = refl
marks_block t n (m ∷ ms) c rest =
    let by : Bool → List Mark = λ b. marks_in t n (cond b (Alone m ∷ block ms c) (Asks (m ∷ ms) c ∷ []) ++ rest) in
    elim (cases_Bool (is_line m)) [ inl h ↦ ap by h ∙ ap (λ x. mark_at t n m ∷ x) (marks_block t n ms c rest) | inr h ↦ ap by h ]

marks_alone : (t n : ℕ) (ms : List MarkKind) → marks_in t n (map (λ m. Alone m) ms) ≡ map (mark_at t n) ms
marks_alone t n [] = refl
marks_alone t n (m ∷ ms) = ap (λ x. mark_at t n m ∷ x) (marks_alone t n ms)

-- ---- marks in order, place by place

-- the mark follows so many commands of a thread
abbrev is_at : ℕ → ℕ → Mark → Bool
is_at t n m = (m.thread == t) && (m.after == n)

-- it stands there or farther on
abbrev is_from : ℕ → ℕ → Mark → Bool
is_from t n m = nat_lt t m.thread || ((m.thread == t) && nat_le n m.after)

below : (t n : ℕ) (m k : Mark) → is_from t n m ≡ true → is_above m k ≡ true → is_from t n k ≡ true
below t n m k h a = grind (arith, nat_tests, h, a)

past_from : (t n : ℕ) (m : Mark) → is_from t (n + 1) m ≡ true → is_from t n m ≡ true
past_from t n m h = grind (arith, nat_tests, h)

past_not_at : (t n : ℕ) (m : Mark) → is_from t (n + 1) m ≡ true → not (is_at t n m) ≡ true
past_not_at t n m h = grind (arith, nat_tests, h)

at_not_past : (t n : ℕ) (m : Mark) → is_at t n m ≡ true → is_from t (n + 1) m ≡ false
at_not_past t n m h = grind (arith, nat_tests, h)

not_from_not_past : (t n : ℕ) (m : Mark) → is_from t n m ≡ false → is_from t (n + 1) m ≡ false
not_from_not_past t n m h = grind (arith, nat_tests, h)

not_from_not_at : (t n : ℕ) (m : Mark) → is_from t n m ≡ false → is_at t n m ≡ false
not_from_not_at t n m h = grind (arith, nat_tests, h)

from_not_at_past : (t n : ℕ) (m : Mark) → is_from t n m ≡ true → is_at t n m ≡ false → is_from t (n + 1) m ≡ true
from_not_at_past t n m h k = grind (arith, nat_tests, h, k)

tail_order : (m : Mark) (ms : List Mark) → are_in_order (m ∷ ms) ≡ true → are_in_order ms ≡ true
tail_order m [] h = refl
tail_order m (k ∷ ms) h = (both (is_above m k) (are_in_order (k ∷ ms)) h).1

all_from : (t n : ℕ) (m : Mark) (ms : List Mark) → is_from t n m ≡ true → are_in_order (m ∷ ms) ≡ true → list_all (is_from t n) ms ≡ true
all_from t n m [] h o = refl
all_from t n m (k ∷ ms) h o =
    let p = both (is_above m k) (are_in_order (k ∷ ms)) o in
    let here = below t n m k h p.0 in
    joint (is_from t n k) (list_all (is_from t n) ms) here (all_from t n k ms here p.1)

all_so : (p q : Mark → Bool) (ms : List Mark) → ((m : Mark) → p m ≡ true → q m ≡ true) → list_all p ms ≡ true → list_all q ms ≡ true
all_so p q [] f h = refl
all_so p q (m ∷ ms) f h =
    let g = both (p m) (list_all p ms) h in
    joint (q m) (list_all q ms) (f m g.0) (all_so p q ms f g.1)

-- first those at a place, and then those farther on
cut : (t n : ℕ) (ms : List Mark) → are_in_order ms ≡ true → filter (is_from t n) ms ≡ filter (is_at t n) ms ++ filter (is_from t (n + 1)) ms
cut t n [] o = refl
cut t n (m ∷ ms) o =
    let rest = cut t n ms (tail_order m ms o) in
    elim (cases_Bool (is_from t n m)) [
      | inr f ↦ rw (f, not_from_not_at t n m f, not_from_not_past t n m f) rest
      | inl h ↦ elim (cases_Bool (is_at t n m)) [
        | inl k ↦ rw (h, k, at_not_past t n m k) (ap (λ x. m ∷ x) rest)
        | inr k ↦
            let g = from_not_at_past t n m h k in
            let past = all_from t (n + 1) m ms g o in
            let none = drops (is_at t n) ms (all_so (is_from t (n + 1)) (λ x. not (is_at t n x)) ms (past_not_at t n) past) in
            let all = keeps (is_from t (n + 1)) ms past in
            let both_all = keeps (is_from t n) ms (all_from t n m ms h o) in
            rw (h, k, g, none) (ap (λ x. m ∷ x) (both_all ∙ sym all))
      ]
    ]

-- the marks at a place, put there again
placed_is : (t n : ℕ) (ms : List Mark) → map (mark_at t n) (kinds_at n (filter (λ (m : Mark). m.thread == t) ms)) ≡ filter (is_at t n) ms
placed_is t n [] = refl
placed_is t n (m ∷ ms) = elim (cases_Bool (m.thread == t)) [
  | inr f ↦ let no : is_at t n m ≡ false = rw f refl in rw (no, f) (placed_is t n ms)
  | inl h ↦ elim (cases_Bool (m.after == n)) [
    | inl k ↦
        let yes : is_at t n m ≡ true = rw (h, k) refl in
        let same : mark_at t n m.kind ≡ m = ap (λ v. mark_at v n m.kind) (sym (eqb-true m.thread t h)) ∙ ap (λ v. mark_at m.thread v m.kind) (sym (eqb-true m.after n k)) in
        rw (yes, h, k) (ap (λ x. x ∷ map (mark_at t n) (kinds_at n (filter (λ (l : Mark). l.thread == t) ms))) same ∙ ap (λ x. m ∷ x) (placed_is t n ms))
    | inr k ↦ let no : is_at t n m ≡ false = rw (h, k) refl in rw (no, h, k) (placed_is t n ms)
  ]
]

-- ---- the marks of a thread, and those after it

thread_marks : (s : Script) (t n k : ℕ) (cs : List Command) → are_in_order s.marks ≡ true → k ≡ n + length cs + 1
    → filter (is_from t n) s.marks ≡ marks_in t n (items_from s t n cs) ++ filter (is_from t k) s.marks
thread_marks s t n k [] o e =
    let next : n + 1 ≡ k = omega (arith, e) in
    cut t n s.marks o
    ∙ ap (λ x. x ++ filter (is_from t (n + 1)) s.marks) (sym (placed_is t n s.marks) ∙ sym (marks_alone t n (marks_at s t n)))
    ∙ ap (λ v. marks_in t n (items_from s t n []) ++ filter (is_from t v) s.marks) next
thread_marks s t n k (c ∷ cs) o e =
    let here = map (mark_at t n) (marks_at s t n) in
    let rest = items_from s t (n + 1) cs in
    cut t n s.marks o
    ∙ ap (λ x. x ++ filter (is_from t (n + 1)) s.marks) (sym (placed_is t n s.marks))
    ∙ ap (λ x. here ++ x) (thread_marks s t (n + 1) k cs o (omega (arith, e)))
    ∙ sym (append_assoc here (marks_in t (n + 1) rest) (filter (is_from t k) s.marks))
    ∙ ap (λ x. x ++ filter (is_from t k) s.marks) (sym (marks_block t n (marks_at s t n) c rest))

filter_same : (p f g : Mark → Bool) (ms : List Mark) → ((m : Mark) → p m ≡ true → f m ≡ g m) → list_all p ms ≡ true → filter f ms ≡ filter g ms
filter_same p f g [] same h = refl
filter_same p f g (m ∷ ms) same h =
    let k = both (p m) (list_all p ms) h in
    ap (λ b. cond b (m ∷ filter f ms) (filter f ms)) (same m k.0) ∙ ap (λ x. cond (g m) (m ∷ x) x) (filter_same p f g ms same k.1)

behind_commands : (s : Script) (t len : ℕ) → length (commands_of s t) ≡ len → (m : Mark) → is_in_thread s m ≡ true → is_from t (len + 1) m ≡ is_from (t + 1) 0 m
behind_commands s t len e m h = elim (cases_Bool (m.thread == t)) [
  | inl k ↦
      let same : m.thread ≡ t = eqb-true m.thread t k in
      let parts = both (is_between 1 (length s.threads) m.thread) (nat_le m.after (length (commands_of s m.thread))) h in
      let all : length (commands_of s m.thread) ≡ len = ap (λ x. length (commands_of s x)) same ∙ e in
      let few : nat_le m.after len ≡ true = ap (λ x. nat_le m.after x) (sym all) ∙ parts.1 in
      grind (arith, nat_tests, same, few)
  | inr k ↦ grind (arith, nat_tests, k)
]

-- the threads from a number on have these commands
abbrev HasCommands : Script → ℕ → List (List Command) → Type 0
HasCommands s t ts = (u i : ℕ) → u ≡ t + i → commands_of s u ≡ unwrap_or (slice_get ts i) []

threads_marks : (s : Script) (t v : ℕ) (ts : List (List Command)) → are_in_order s.marks ≡ true → list_all (is_in_thread s) s.marks ≡ true → HasCommands s t ts → v ≡ t + length ts
    → filter (is_from t 0) s.marks ≡ numbered t (lists_from s t ts) ++ filter (is_from v 0) s.marks
threads_marks s t v [] o p h e = let same : t ≡ v = omega (arith, e) in ap (λ u. filter (is_from u 0) s.marks) same
threads_marks s t v (cs ∷ ts) o p h e =
    let len = length cs in
    let here = marks_in t 0 (items_from s t 0 cs) in
    let count : length (commands_of s t) ≡ len = ap (λ x. length x) (h t 0 (omega arith)) in
    thread_marks s t 0 (len + 1) cs o (omega arith)
    ∙ ap (λ x. here ++ x) (filter_same (is_in_thread s) (is_from t (len + 1)) (is_from (t + 1) 0) s.marks (behind_commands s t len count) p
    ∙ threads_marks s (t + 1) v ts o p (λ u i k. h u (suc i) (omega (arith, k))) (omega (arith, e)))
    ∙ sym (append_assoc here (numbered (t + 1) (lists_from s (t + 1) ts)) (filter (is_from v 0) s.marks))

is_first : (s : Script) (m : Mark) → is_in_thread s m ≡ true → is_from 1 0 m ≡ true
is_first s m h =
    let between = (both (is_between 1 (length s.threads) m.thread) (nat_le m.after (length (commands_of s m.thread))) h).0 in
    grind (arith, nat_tests, between)

not_behind : (s : Script) (m : Mark) → is_in_thread s m ≡ true → not (is_from (length s.threads + 1) 0 m) ≡ true
not_behind s m h =
    let between = (both (is_between 1 (length s.threads) m.thread) (nat_le m.after (length (commands_of s m.thread))) h).0 in
    grind (arith, nat_tests, between)

all_commands : (s : Script) → HasCommands s 1 s.threads
all_commands s u i e = ap (λ v. commands_of s v) e ∙ commands_at s i

-- a script whose marks are in order comes from its lines
comes : (s : Script) → are_in_order s.marks ≡ true → list_all (is_in_thread s) s.marks ≡ true → ComesFrom s (lists_from s 1 s.threads)
comes s o p =
    let v = length s.threads + 1 in
    let lists = lists_from s 1 s.threads in
    let none = drops (is_from v 0) s.marks (all_so (is_in_thread s) (λ m. not (is_from v 0 m)) s.marks (not_behind s) p) in
    let all = keeps (is_from 1 0) s.marks (all_so (is_in_thread s) (is_from 1 0) s.marks (is_first s) p) in
    record {
      threads = sym (commands_lists s 1 s.threads);
      marks = sym all ∙ threads_marks s 1 v s.threads o p (all_commands s) (omega arith) ∙ ap (λ x. numbered 1 lists ++ x) none ∙ append-nil (numbered 1 lists);
    }

-- ---- lines that fit

or_cases : (a b : Bool) → (a || b) ≡ true → (a ≡ true) ⊎ (b ≡ true)
or_cases true b h = inl refl
or_cases false b h = inr h

block_fit : (s : Script) (d : ThreadMappings) (ms : List MarkKind) (c : Command) (rest : List Item) → (s.version == 2) ≡ true → are_marks s d ms (Some c) ≡ true → all_along (item_fits s) (fold thread_mappings_after d ms) rest ≡ true
    → all_along (item_fits s) d (block ms c ++ rest) ≡ true
block_fit s d [] c rest v h k = k
block_fit s d (m ∷ []) c rest v h k =
    let by : Bool → Bool = λ b. all_along (item_fits s) d (cond b (Alone m ∷ Asks [] c ∷ []) (Asks (m ∷ []) c ∷ []) ++ rest) in
    elim (or_cases (is_mark s d m) (is_way d m (Some c)) h) [
      | inl a ↦ ap by (mark_is_line s d m a) ∙ joint (item_fits s d (Alone m)) (all_along (item_fits s) (thread_mappings_after d m) rest) (joint (s.version == 2) (is_mark s d m) v a) k
      | inr a ↦ ap by (way_no_line d m (Some c) a) ∙ joint (item_fits s d (Asks (m ∷ []) c)) (all_along (item_fits s) (thread_mappings_after d m) rest) (joint (s.version == 2) (is_way d m (Some c)) v a) k
    ]
block_fit s d (m ∷ x ∷ ms) c rest v h k =
    let by : Bool → Bool = λ b. all_along (item_fits s) d (cond b (Alone m ∷ block (x ∷ ms) c) (Asks (m ∷ x ∷ ms) c ∷ []) ++ rest) in
    let f = both (is_mark s d m) (are_marks s (thread_mappings_after d m) (x ∷ ms) (Some c)) h in
    ap by (mark_is_line s d m f.0)
    ∙ joint (item_fits s d (Alone m)) (all_along (item_fits s) (thread_mappings_after d m) (block (x ∷ ms) c ++ rest)) (joint (s.version == 2) (is_mark s d m) v f.0)
    (block_fit s (thread_mappings_after d m) (x ∷ ms) c rest v f.1 k)

no_way : (d : ThreadMappings) (m : MarkKind) → is_way d m None ≡ true → ⊥
no_way d (mark.Map b) h = absurd cc
no_way d (mark.Unmap b) h = absurd cc
no_way d mark.Mapped h = absurd cc
no_way d (mark.Vmap va n b off) h = absurd cc
no_way d (mark.Vunmap va n) h = absurd cc
no_way d (mark.Vsubmit ops) h = absurd cc

alone_fit : (s : Script) (d : ThreadMappings) (ms : List MarkKind) → (s.version == 2) ≡ true → are_marks s d ms None ≡ true → all_along (item_fits s) d (map (λ m. Alone m) ms) ≡ true
alone_fit s d [] v h = refl
alone_fit s d (m ∷ []) v h = elim (or_cases (is_mark s d m) (is_way d m None) h) [
  | inl a ↦ and_true (item_fits s d (Alone m)) (joint (s.version == 2) (is_mark s d m) v a)
  | inr a ↦ absurd (no_way d m a)
]
alone_fit s d (m ∷ x ∷ ms) v h =
    let f = both (is_mark s d m) (are_marks s (thread_mappings_after d m) (x ∷ ms) None) h in
    joint (item_fits s d (Alone m)) (all_along (item_fits s) (thread_mappings_after d m) (map (λ k. Alone k) (x ∷ ms))) (joint (s.version == 2) (is_mark s d m) v f.0) (alone_fit s (thread_mappings_after d m) (x ∷ ms) v f.1)

from_fit : (s : Script) (t n : ℕ) (d : ThreadMappings) (cs : List Command) → (s.version == 2) ≡ true → marks_fit s t n d cs ≡ true → all_along (item_fits s) d (items_from s t n cs) ≡ true
from_fit s t n d [] v h = alone_fit s d (marks_at s t n) v h
from_fit s t n d (c ∷ cs) v h =
    let next = fold thread_mappings_after d (marks_at s t n) in
    let f = both (are_marks s d (marks_at s t n) (Some c)) (marks_fit s t (n + 1) next cs) h in
    block_fit s d (marks_at s t n) c (items_from s t (n + 1) cs) v f.0 (from_fit s t (n + 1) next cs v f.1)

lists_fit : (s : Script) (t : ℕ) (ts : List (List Command)) → HasCommands s t ts → (s.version == 2) ≡ true
    → list_all (λ u. marks_fit s u 0 empty_thread_mappings (commands_of s u)) (count_from 1 (length ts) t) ≡ true → list_all (items_fit s) (lists_from s t ts) ≡ true
lists_fit s t [] h v f = refl
lists_fit s t (cs ∷ ts) h v f =
    let fits : ℕ → Bool = λ u. marks_fit s u 0 empty_thread_mappings (commands_of s u) in
    let g = both (fits t) (list_all fits (count_from 1 (length ts) (1 + t))) f in
    let next : 1 + t ≡ t + 1 = omega arith in
    joint (items_fit s (items_from s t 0 cs)) (list_all (items_fit s) (lists_from s (t + 1) ts))
    (from_fit s t 0 empty_thread_mappings cs v (ap (λ x. marks_fit s t 0 empty_thread_mappings x) (sym (h t 0 (omega arith))) ∙ g.0))
    (lists_fit s (t + 1) ts (λ u i e. h u (suc i) (omega (arith, e))) v (ap (λ u. list_all fits (count_from 1 (length ts) u)) (sym next) ∙ g.1))

-- commands without marks fit in any version
bare_fit : (s : Script) (t n : ℕ) (d : ThreadMappings) (cs : List Command) → s.marks ≡ [] → all_along (item_fits s) d (items_from s t n cs) ≡ true
bare_fit s t n d [] h = ap (λ (ms : List Mark). all_along (item_fits s) d (map (λ m. Alone m) (kinds_at n (filter (λ (m : Mark). m.thread == t) ms)))) h
bare_fit s t n d (c ∷ cs) h =
    ap (λ (ms : List Mark). all_along (item_fits s) d (block (kinds_at n (filter (λ (m : Mark). m.thread == t) ms)) c ++ items_from s t (n + 1) cs)) h ∙ bare_fit s t (n + 1) d cs h

bare_lists_fit : (s : Script) (t : ℕ) (ts : List (List Command)) → s.marks ≡ [] → list_all (items_fit s) (lists_from s t ts) ≡ true
bare_lists_fit s t [] h = refl
bare_lists_fit s t (cs ∷ ts) h = joint (items_fit s (items_from s t 0 cs)) (list_all (items_fit s) (lists_from s (t + 1) ts)) (bare_fit s t 0 empty_thread_mappings cs h) (bare_lists_fit s (t + 1) ts h)

nothing : (ms : List Mark) → (length ms == 0) ≡ true → ms ≡ []
nothing [] h = refl
nothing (m ∷ ms) h = absurd (differ (sym h ∙ grind (arith, nat_tests)))

-- ---- few lines

few_lists : (s : Script) (t : ℕ) (lists : List (List Item)) → HasThreads s t lists → list_all (items_fit s) lists ≡ true → list_all (has_few_lines s) (count_from 1 (length lists) t) ≡ true → list_all has_few lists ≡ true
few_lists s t [] h f few = refl
few_lists s t (items ∷ lists) h f few =
    let first = first_marks s t items lists h in
    let g = both (items_fit s items) (list_all (items_fit s) lists) f in
    let k = both (has_few_lines s t) (list_all (has_few_lines s) (count_from 1 (length lists) (1 + t))) few in
    joint (has_few items) (list_all has_few lists)
    (ap (λ n. nat_le n 4096) (sym (thread_count s t items first.0 first.1 g.0)) ∙ k.0)
    (few_lists s (1 + t) lists (λ u i e. h u (suc i) (omega (arith, e))) g.1 k.1)

-- ---- the law

-- the lines of the threads of a script
pub record HasItems (s : Script) : Type 0 where
  pub lists : List (List Item)
  pub comes : ComesFrom s lists
  pub few : list_all has_few lists ≡ true
  pub fit : list_all (items_fit s) lists ≡ true

-- the parts of the rules of marks
record Rules (s : Script) : Type 0 where
  version : ((s.version == 2) || (length s.marks == 0)) ≡ true
  order : are_in_order s.marks ≡ true
  placed : list_all (is_in_thread s) s.marks ≡ true
  few : list_all (has_few_lines s) (thread_numbers s) ≡ true
  fit : list_all (λ t. marks_fit s t 0 empty_thread_mappings (commands_of s t)) (thread_numbers s) ≡ true

rules_of : (s : Script) → have_marks s ≡ true → Rules s
rules_of s h =
    let a = (s.version == 2) || (length s.marks == 0) in
    let b = are_in_order s.marks in
    let c = list_all (is_in_thread s) s.marks in
    let d = list_all (has_few_lines s) (thread_numbers s) in
    let e = list_all (λ t. marks_fit s t 0 empty_thread_mappings (commands_of s t)) (thread_numbers s) in
    let f = both (a && b && c && d) e h in
    let g = both (a && b && c) d f.0 in
    let k = both (a && b) c g.0 in
    let j = both a b k.0 in
    record { version = j.0; order = j.1; placed = k.1; few = g.1; fit = f.1 }

all_fit : (s : Script) → Rules s → list_all (items_fit s) (lists_from s 1 s.threads) ≡ true
all_fit s r = elim (or_cases (s.version == 2) (length s.marks == 0) r.version) [
  | inl v ↦ lists_fit s 1 s.threads (all_commands s) v r.fit
  | inr n ↦ bare_lists_fit s 1 s.threads (nothing s.marks n)
]

-- a script that keeps the rules of marks has lines
pub items_of_marks : (s : Script) → have_marks s ≡ true → HasItems s
items_of_marks s h =
    let r = rules_of s h in
    let lists = lists_from s 1 s.threads in
    let from = comes s r.order r.placed in
    let fit = all_fit s r in
    record {
      lists = lists;
      comes = from;
      few = few_lists s 1 lists (has_threads s lists from) fit (ap (λ n. list_all (has_few_lines s) (count_from 1 n 1)) (sym (lists_len s lists from)) ∙ r.few);
      fit = fit;
    }
