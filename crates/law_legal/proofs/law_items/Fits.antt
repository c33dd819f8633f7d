-- Lines that fit keep the rules of marks.
use Rattle.std.proofs.Common.{◌≡◌, ℕ, suc, ◌+◌, ◌<◌, ◌≤◌, Bool, true, false, cond, List, [], ◌∷◌, ◌++◌, length, map, Option, Some, None, refl, sym, ap, ◌∙◌, append_assoc, arith, inl, inr}
use Rattle.std.specs.Prelude.{◌==◌, ◌&&◌, ◌||◌, nat_lt, nat_le, filter, fold}
use Rattle.std.specs.List.{list_all}
use Rattle.std.proofs.lemmas.Bool.{cases_Bool}
use Rattle.std.proofs.lemmas.Bool.Decides.{nat_tests}
use Rattle.std.proofs.lemmas.Grind.{fold-append}
use Rattle.std.proofs.lemmas.List.{append-nil}
use Rattle.std.proofs.lemmas.List.Elements.{filter-append}
use Rattle.ttm_base.specs.ListWords.{count_from}
use Rattle.journal_model.specs.declared.script.Script.{Script}
use Rattle.journal_model.specs.declared.script.Command.{Command}
use Rattle.journal_model.specs.declared.script.Mark.{Mark}
use Rattle.journal_model.specs.declared.script.MarkKind.{MarkKind}
use Rattle.journal_model.specs.rules.Commands.{commands_of}
use Rattle.journal_model.specs.scripts.CommandRules.{is_between}
use Rattle.journal_model.specs.statements.Complete.{thread_numbers}
use Rattle.journal_model.specs.marks.Marks.{marks_at, marks_of}
use Rattle.journal_model.specs.scripts.MarkRules.{ThreadMappings, empty_thread_mappings, thread_mappings_after, is_mark, is_way, are_marks, marks_fit, is_above, are_in_order, is_in_thread, is_line, has_few_lines, have_marks}
use Rattle.law_legal.specs.law_items.Items.{Item, Alone, Asks, commands_in, mark_at, marks_in, numbered, ComesFrom, thread_mappings_behind, item_fits, all_along, items_fit}
use Rattle.law_legal.proofs.law_items.ListFacts.{has_few}
use Rattle.law_legal.proofs.law_items.Tests.{both, joint, and_true, differ, is_le}
use Rattle.law_legal.proofs.law_items.Places.{Stand, stand_first, stand_alone, stand_next, stand_here, stand_last, HasThreads, has_threads, next_threads, first_marks, all_append, all_ways, all_in, all_numbered}
use Rattle.law_legal.proofs.law_items.Puts.{lists_len}
use Rattle.law_legal.proofs.law_items.Texts.{alone_is_line, way_no_line}

-- ---- tests

or_left : (a b : Bool) → a ≡ true → (a || b) ≡ true
or_left true b h = refl
or_left false b h = absurd cc

or_right : (a b : Bool) → b ≡ true → (a || b) ≡ true
or_right true b h = refl
or_right false b h = h

-- ---- the marks at a command

-- marks with lines of their own, each by what is mapped there
abbrev along : Script → ThreadMappings → List MarkKind → Bool
along s d [] = true
along s d (m ∷ ms) = is_mark s d m && along s (thread_mappings_after d m) ms

along_more : (s : Script) (d : ThreadMappings) (ms : List MarkKind) (m : MarkKind) → along s d ms ≡ true → is_mark s (fold thread_mappings_after d ms) m ≡ true → along s d (ms ++ m ∷ []) ≡ true
along_more s d [] m h k = and_true (is_mark s d m) k
along_more s d (x ∷ ms) m h k =
    let f = both (is_mark s d x) (along s (thread_mappings_after d x) ms) h in
    joint (is_mark s d x) (along s (thread_mappings_after d x) (ms ++ m ∷ [])) f.0 (along_more s (thread_mappings_after d x) ms m f.1 k)

lines_are_marks : (s : Script) (d : ThreadMappings) (ms : List MarkKind) (o : Option Command) → along s d ms ≡ true → are_marks s d ms o ≡ true
lines_are_marks s d [] o h = refl
lines_are_marks s d (m ∷ []) o h = or_left (is_mark s d m) (is_way d m o) (both (is_mark s d m) true h).0
lines_are_marks s d (m ∷ k ∷ ms) o h =
    let f = both (is_mark s d m) (along s (thread_mappings_after d m) (k ∷ ms)) h in
    joint (is_mark s d m) (are_marks s (thread_mappings_after d m) (k ∷ ms) o) f.0 (lines_are_marks s (thread_mappings_after d m) (k ∷ ms) o f.1)

way_is_last : (s : Script) (d : ThreadMappings) (ms : List MarkKind) (way : MarkKind) (o : Option Command) → along s d ms ≡ true → is_way (fold thread_mappings_after d ms) way o ≡ true → are_marks s d (ms ++ way ∷ []) o ≡ true
way_is_last s d [] way o h k = or_right (is_mark s d way) (is_way d way o) k
way_is_last s d (m ∷ []) way o h k =
    joint (is_mark s d m) (are_marks s (thread_mappings_after d m) (way ∷ []) o) (both (is_mark s d m) true h).0 (way_is_last s (thread_mappings_after d m) [] way o refl k)
way_is_last s d (m ∷ x ∷ ms) way o h k =
    let f = both (is_mark s d m) (along s (thread_mappings_after d m) (x ∷ ms)) h in
    joint (is_mark s d m) (are_marks s (thread_mappings_after d m) (x ∷ ms ++ way ∷ []) o) f.0 (way_is_last s (thread_mappings_after d m) (x ∷ ms) way o f.1 k)

asks_fit : (s : Script) (d : ThreadMappings) (above ways : List MarkKind) (c : Command) → along s d above ≡ true → item_fits s (fold thread_mappings_after d above) (Asks ways c) ≡ true → are_marks s d (above ++ ways) (Some c) ≡ true
asks_fit s d above [] c h k = ap (λ ms. are_marks s d ms (Some c)) (append-nil above) ∙ lines_are_marks s d above (Some c) h
asks_fit s d above (way ∷ []) c h k = way_is_last s d above way (Some c) h (both (s.version == 2) (is_way (fold thread_mappings_after d above) way (Some c)) k).1
asks_fit s d above (way ∷ other ∷ ways) c h k = absurd cc

-- the marks of a thread, after marks with lines of their own
fit_from : (s : Script) (t n : ℕ) (d : ThreadMappings) (above : List MarkKind) (items : List Item) → Stand s t n above items → along s d above ≡ true → all_along (item_fits s) (fold thread_mappings_after d above) items ≡ true
    → marks_fit s t n d (commands_in items) ≡ true
fit_from s t n d above [] h k f = ap (λ ms. are_marks s d ms None) (stand_last s t n above h) ∙ lines_are_marks s d above None k
fit_from s t n d above (Alone m ∷ items) h k f =
    let thread_mappings = fold thread_mappings_after d above in
    let g = both (item_fits s thread_mappings (Alone m)) (all_along (item_fits s) (thread_mappings_behind thread_mappings (Alone m)) items) f in
    let line = (both (s.version == 2) (is_mark s thread_mappings m) g.0).1 in
    fit_from s t n d (above ++ m ∷ []) items (stand_alone s t n above m items h) (along_more s d above m k line)
    (ap (λ e. all_along (item_fits s) e items) (fold-append thread_mappings_after d above (m ∷ [])) ∙ g.1)
fit_from s t n d above (Asks ways c ∷ items) h k f =
    let thread_mappings = fold thread_mappings_after d above in
    let g = both (item_fits s thread_mappings (Asks ways c)) (all_along (item_fits s) (thread_mappings_behind thread_mappings (Asks ways c)) items) f in
    let here = stand_here s t n above ways c items h in
    let next = fold thread_mappings_after d (marks_at s t n) in
    let rest = ap (λ ms. all_along (item_fits s) (fold thread_mappings_after d ms) items) here ∙ ap (λ e. all_along (item_fits s) e items) (fold-append thread_mappings_after d above ways) ∙ g.1 in
    joint (are_marks s d (marks_at s t n) (Some c)) (marks_fit s t (n + 1) next (commands_in items))
    (ap (λ ms. are_marks s d ms (Some c)) here ∙ asks_fit s d above ways c k g.0)
    (fit_from s t (n + 1) next [] items (stand_next s t n above ways c items h) refl rest)

-- ---- how many lines

-- the mark has a line of its own
abbrev pub has_line : Mark → Bool
has_line m = is_line m.kind

no_lines : (s : Script) (d : ThreadMappings) (t n : ℕ) (ways : List MarkKind) (c : Command) → item_fits s d (Asks ways c) ≡ true → filter has_line (map (mark_at t n) ways) ≡ []
no_lines s d t n [] c h = refl
no_lines s d t n (way ∷ []) c h = ap (λ b. cond b (mark_at t n way ∷ []) []) (way_no_line d way (Some c) (both (s.version == 2) (is_way d way (Some c)) h).1)
no_lines s d t n (way ∷ other ∷ ways) c h = absurd cc

-- commands and marks with lines of their own are all lines
line_count : (s : Script) (d : ThreadMappings) (t n : ℕ) (items : List Item) → all_along (item_fits s) d items ≡ true → length (commands_in items) + length (filter has_line (marks_in t n items)) ≡ length items
line_count s d t n [] f = refl
line_count s d t n (Alone m ∷ items) f =
    let g = both (item_fits s d (Alone m)) (all_along (item_fits s) (thread_mappings_behind d (Alone m)) items) f in
    let rest = filter has_line (marks_in t n items) in
    let more : length (filter has_line (mark_at t n m ∷ marks_in t n items)) ≡ suc (length rest) = ap (λ b. length (cond b (mark_at t n m ∷ rest) rest)) (alone_is_line s d m g.0) in
    let same = line_count s (thread_mappings_behind d (Alone m)) t n items g.1 in
    omega (arith, more, same)
line_count s d t n (Asks ways c ∷ items) f =
    let g = both (item_fits s d (Asks ways c)) (all_along (item_fits s) (thread_mappings_behind d (Asks ways c)) items) f in
    let here = map (mark_at t n) ways in
    let rest = marks_in t (n + 1) items in
    let all : length (filter has_line (here ++ rest)) ≡ length (filter has_line rest) = ap (λ ms. length ms) (filter-append has_line here rest ∙ ap (λ ms. ms ++ filter has_line rest) (no_lines s d t n ways c g.0)) in
    let same = line_count s (thread_mappings_behind d (Asks ways c)) t (n + 1) items g.1 in
    omega (arith, all, same)

-- the same of a thread
pub thread_count : (s : Script) (t : ℕ) (items : List Item) → marks_of s t ≡ marks_in t 0 items → commands_of s t ≡ commands_in items → items_fit s items ≡ true
    → length (commands_of s t) + length (filter has_line (marks_of s t)) ≡ length items
thread_count s t items m c f =
    ap (λ cs. length cs + length (filter has_line (marks_of s t))) c ∙ ap (λ ms. length (commands_in items) + length (filter has_line ms)) m ∙ line_count s empty_thread_mappings t 0 items f

few_thread : (s : Script) (t : ℕ) (items : List Item) → marks_of s t ≡ marks_in t 0 items → commands_of s t ≡ commands_in items → items_fit s items ≡ true → has_few items ≡ true → has_few_lines s t ≡ true
few_thread s t items m c f few = ap (λ k. nat_le k 4096) (thread_count s t items m c f) ∙ few

fit_thread : (s : Script) (t : ℕ) (items : List Item) → marks_of s t ≡ marks_in t 0 items → commands_of s t ≡ commands_in items → items_fit s items ≡ true → has_few items ≡ true → marks_fit s t 0 empty_thread_mappings (commands_of s t) ≡ true
fit_thread s t items m c f few = ap (λ cs. marks_fit s t 0 empty_thread_mappings cs) c ∙ fit_from s t 0 empty_thread_mappings [] items (stand_first s t items m) refl f

each_thread : (s : Script) (p : ℕ → Bool)
    → ((u : ℕ) (items : List Item) → marks_of s u ≡ marks_in u 0 items → commands_of s u ≡ commands_in items → items_fit s items ≡ true → has_few items ≡ true → p u ≡ true)
    → (t : ℕ) (lists : List (List Item)) → HasThreads s t lists → list_all has_few lists ≡ true → list_all (items_fit s) lists ≡ true → list_all p (count_from 1 (length lists) t) ≡ true
each_thread s p holds t [] h few f = refl
each_thread s p holds t (items ∷ lists) h few f =
    let a = both (has_few items) (list_all has_few lists) few in
    let b = both (items_fit s items) (list_all (items_fit s) lists) f in
    let first = first_marks s t items lists h in
    joint (p t) (list_all p (count_from 1 (length lists) (1 + t))) (holds t items first.0 first.1 b.0 a.0)
    (each_thread s p holds (1 + t) lists (λ u i e. h u (suc i) (omega (arith, e))) a.1 b.1)

-- ---- the order of all marks

cons_order : (m : Mark) (ms : List Mark) → list_all (is_above m) ms ≡ true → are_in_order ms ≡ true → are_in_order (m ∷ ms) ≡ true
cons_order m [] h o = refl
cons_order m (k ∷ ms) h o = joint (is_above m k) (are_in_order (k ∷ ms)) (both (is_above m k) (list_all (is_above m) ms) h).0 o

above_in : (t n k : ℕ) → n ≤ k → (nat_lt t t || ((t == t) && nat_le n k)) ≡ true
above_in t n k a = grind (arith, nat_tests, a)

above_later : (t n u k : ℕ) → t < u → (nat_lt t u || ((t == u) && nat_le n k)) ≡ true
above_later t n u k a = grind (arith, nat_tests, a)

ways_order : (t n : ℕ) (ways : List MarkKind) (rest : List Mark) → ((kind : MarkKind) → list_all (is_above (mark_at t n kind)) rest ≡ true) → are_in_order rest ≡ true → are_in_order (map (mark_at t n) ways ++ rest) ≡ true
ways_order t n [] rest h o = o
ways_order t n (way ∷ ways) rest h o =
    let m = mark_at t n way in
    cons_order m (map (mark_at t n) ways ++ rest)
    (all_append (is_above m) (map (mark_at t n) ways) rest (all_ways (is_above m) t n ways (λ kind. above_in t n n (omega arith))) (h way))
    (ways_order t n ways rest h o)

in_order : (t n : ℕ) (items : List Item) (rest : List Mark) → ((k : ℕ) (kind : MarkKind) → list_all (is_above (mark_at t k kind)) rest ≡ true) → are_in_order rest ≡ true → are_in_order (marks_in t n items ++ rest) ≡ true
in_order t n [] rest h o = o
in_order t n (Alone m ∷ items) rest h o =
    let p = is_above (mark_at t n m) in
    cons_order (mark_at t n m) (marks_in t n items ++ rest)
    (all_append p (marks_in t n items) rest (all_in p t n items (λ k kind a b. above_in t n k a)) (h n m))
    (in_order t n items rest h o)
in_order t n (Asks ways c ∷ items) rest h o =
    let behind = marks_in t (n + 1) items in
    ap (λ ms. are_in_order ms) (append_assoc (map (mark_at t n) ways) behind rest)
    ∙ ways_order t n ways (behind ++ rest)
    (λ kind. all_append (is_above (mark_at t n kind)) behind rest (all_in (is_above (mark_at t n kind)) t (n + 1) items (λ k other a b. above_in t n k (omega (arith, a)))) (h n kind))
    (in_order t (n + 1) items rest h o)

numbered_order : (t : ℕ) (lists : List (List Item)) → are_in_order (numbered t lists) ≡ true
numbered_order t [] = refl
numbered_order t (items ∷ lists) =
    in_order t 0 items (numbered (t + 1) lists)
    (λ k kind. all_numbered (is_above (mark_at t k kind)) (t + 1) lists (λ u j other a. above_later t k u j (omega (arith, a))))
    (numbered_order (t + 1) lists)

-- ---- each mark stands in a thread

all_placed : (s : Script) (t : ℕ) (lists : List (List Item)) → 1 ≤ t → t + length lists ≡ length s.threads + 1 → HasThreads s t lists → list_all (is_in_thread s) (numbered t lists) ≡ true
all_placed s t [] a e h = refl
all_placed s t (items ∷ lists) a e h =
    let c = (first_marks s t items lists h).1 in
    let within = joint (nat_le 1 t) (nat_le t (length s.threads)) (is_le 1 t a) (is_le t (length s.threads) (omega (arith, e))) in
    let here : (k : ℕ) (kind : MarkKind) → 0 ≤ k → k ≤ 0 + length (commands_in items) → is_in_thread s (mark_at t k kind) ≡ true =
    λ k kind x y. joint (is_between 1 (length s.threads) t) (nat_le k (length (commands_of s t))) within (ap (λ cs. nat_le k (length cs)) c ∙ is_le k (length (commands_in items)) (omega (arith, y))) in
    all_append (is_in_thread s) (marks_in t 0 items) (numbered (t + 1) lists)
    (all_in (is_in_thread s) t 0 items here)
    (all_placed s (t + 1) lists (omega (arith, a)) (omega (arith, e)) (next_threads s t items lists h))

-- ---- version 1 has no marks

none_in : (s : Script) (d : ThreadMappings) (t n : ℕ) (items : List Item) → (s.version == 2) ≡ false → all_along (item_fits s) d items ≡ true → marks_in t n items ≡ []
none_in s d t n [] v f = refl
none_in s d t n (Alone m ∷ items) v f =
    let g = both (item_fits s d (Alone m)) (all_along (item_fits s) (thread_mappings_behind d (Alone m)) items) f in
    absurd (differ (sym (both (s.version == 2) (is_mark s d m) g.0).0 ∙ v))
none_in s d t n (Asks [] c ∷ items) v f = none_in s d t (n + 1) items v f
none_in s d t n (Asks (way ∷ []) c ∷ items) v f =
    let g = both (item_fits s d (Asks (way ∷ []) c)) (all_along (item_fits s) (thread_mappings_behind d (Asks (way ∷ []) c)) items) f in
    absurd (differ (sym (both (s.version == 2) (is_way d way (Some c)) g.0).0 ∙ v))
none_in s d t n (Asks (way ∷ other ∷ ways) c ∷ items) v f = absurd cc

none_numbered : (s : Script) (t : ℕ) (lists : List (List Item)) → (s.version == 2) ≡ false → list_all (items_fit s) lists ≡ true → numbered t lists ≡ []
none_numbered s t [] v f = refl
none_numbered s t (items ∷ lists) v f =
    let g = both (items_fit s items) (list_all (items_fit s) lists) f in
    ap (λ ms. ms ++ numbered (t + 1) lists) (none_in s empty_thread_mappings t 0 items v g.0) ∙ none_numbered s (t + 1) lists v g.1

marked : (s : Script) (lists : List (List Item)) → ComesFrom s lists → list_all (items_fit s) lists ≡ true → ((s.version == 2) || (length s.marks == 0)) ≡ true
marked s lists h f = elim (cases_Bool (s.version == 2)) [
  | inl v ↦ or_left (s.version == 2) (length s.marks == 0) v
  | inr v ↦ or_right (s.version == 2) (length s.marks == 0) (ap (λ ms. length ms == 0) (h.marks ∙ none_numbered s 1 lists v f))
]

-- ---- all rules

five : (a b c d e : Bool) → a ≡ true → b ≡ true → c ≡ true → d ≡ true → e ≡ true → (a && b && c && d && e) ≡ true
five a b c d e p q r x y = joint (a && b && c && d) e (joint (a && b && c) d (joint (a && b) c (joint a b p q) r) x) y

-- a script whose lines fit keeps the rules of marks
pub marks_of_items : (s : Script) (lists : List (List Item)) → ComesFrom s lists → list_all has_few lists ≡ true → list_all (items_fit s) lists ≡ true → have_marks s ≡ true
marks_of_items s lists h few f =
    let threads = has_threads s lists h in
    let n = lists_len s lists h in
    let each : (p : ℕ → Bool) → list_all p (count_from 1 (length lists) 1) ≡ true → list_all p (thread_numbers s) ≡ true = λ p e. ap (λ k. list_all p (count_from 1 k 1)) n ∙ e in
    five ((s.version == 2) || (length s.marks == 0)) (are_in_order s.marks) (list_all (is_in_thread s) s.marks) (list_all (has_few_lines s) (thread_numbers s)) (list_all (λ t. marks_fit s t 0 empty_thread_mappings (commands_of s t)) (thread_numbers s))
    (marked s lists h f)
    (ap (λ ms. are_in_order ms) h.marks ∙ numbered_order 1 lists)
    (ap (λ ms. list_all (is_in_thread s) ms) h.marks ∙ all_placed s 1 lists (omega arith) (omega (arith, n)) threads)
    (each (has_few_lines s) (each_thread s (has_few_lines s) (few_thread s) 1 lists threads few f))
    (each (λ t. marks_fit s t 0 empty_thread_mappings (commands_of s t)) (each_thread s (λ t. marks_fit s t 0 empty_thread_mappings (commands_of s t)) (fit_thread s) 1 lists threads few f))
