-- A script with one more line, or with one more thread.
use Rattle.std.proofs.Common.{◌≡◌, ℕ, suc, ◌+◌, ◌-◌, ◌<◌, Bool, true, false, cond, List, [], ◌∷◌, ◌++◌, length, map, refl, sym, ap, ◌∙◌, append_assoc, arith}
use Rattle.std.specs.Prelude.{◌==◌, filter, flat_map, fold, slice_get, unwrap_or}
use Rattle.std.specs.List.{list_all}
use Rattle.std.proofs.lemmas.Bool.Decides.{nat_tests}
use Rattle.std.proofs.lemmas.Grind.{fold-append}
use Rattle.std.proofs.lemmas.List.{append-nil, map-append}
use Rattle.journal_model.specs.declared.script.Script.{Script}
use Rattle.journal_model.specs.declared.script.Command.{Command}
use Rattle.journal_model.specs.declared.script.Mark.{Mark}
use Rattle.journal_model.specs.declared.script.MarkKind.{MarkKind}
use Rattle.journal_model.specs.rules.Commands.{commands_of}
use Rattle.journal_model.specs.scripts.MarkRules.{ThreadMappings, empty_thread_mappings, thread_mappings_after, thread_mappings_at_end}
use Rattle.journal_model.specs.scripts.FirstFault.{onto_last, mark_here}
use Rattle.law_legal.specs.law_items.Items.{Item, Alone, Asks, commands_in, kinds_in, mark_at, marks_in, numbered, ComesFrom, with_items, thread_mappings_behind, thread_mappings_of, item_fits, all_along, items_fit}
use Rattle.law_legal.proofs.law_items.ListFacts.{length_map, put_last, put_end, onto_is, last_list, last_len, last_len_is, last_end}
use Rattle.law_legal.proofs.law_items.Tests.{both, joint, and_true}
use Rattle.law_legal.proofs.law_items.Places.{of_thread}

-- ---- threads

-- as many lists as threads
pub lists_len : (s : Script) (lists : List (List Item)) → ComesFrom s lists → length s.threads ≡ length lists
lists_len s lists h = ap (λ ts. length ts) h.threads ∙ length_map commands_in lists

none_left : (lists : List (List Item)) → map commands_in lists ≡ [] → lists ≡ []
none_left [] e = refl
none_left (items ∷ lists) e = absurd cc

-- a script without threads has no lists
pub no_lists : (s : Script) (lists : List (List Item)) → ComesFrom s lists → s.threads ≡ [] → lists ≡ []
no_lists s lists h e = none_left lists (sym h.threads ∙ e)

alone_in : (items : List Item) (m : MarkKind) → commands_in (items ++ Alone m ∷ []) ≡ commands_in items
alone_in [] m = refl
alone_in (Alone k ∷ items) m = alone_in items m
alone_in (Asks ways c ∷ items) m = ap (λ cs. c ∷ cs) (alone_in items m)

asks_in : (items : List Item) (ways : List MarkKind) (c : Command) → commands_in (items ++ Asks ways c ∷ []) ≡ commands_in items ++ c ∷ []
asks_in [] ways c = refl
asks_in (Alone k ∷ items) ways c = asks_in items ways c
asks_in (Asks vs d ∷ items) ways c = ap (λ cs. d ∷ cs) (asks_in items ways c)

alone_put : (lists : List (List Item)) (m : MarkKind) → map commands_in (put_last (Alone m) lists) ≡ map commands_in lists
alone_put [] m = refl
alone_put (items ∷ []) m = ap (λ cs. cs ∷ []) (alone_in items m)
alone_put (items ∷ more ∷ lists) m = ap (λ ts. commands_in items ∷ ts) (alone_put (more ∷ lists) m)

asks_put : (lists : List (List Item)) (ways : List MarkKind) (c : Command) → map commands_in (put_last (Asks ways c) lists) ≡ put_last c (map commands_in lists)
asks_put [] ways c = refl
asks_put (items ∷ []) ways c = ap (λ cs. cs ∷ []) (asks_in items ways c)
asks_put (items ∷ more ∷ lists) ways c = ap (λ ts. commands_in items ∷ ts) (asks_put (more ∷ lists) ways c)

-- ---- marks

marks_more : (t n k : ℕ) (items : List Item) (item : Item) → k ≡ n + length (commands_in items) → marks_in t n (items ++ item ∷ []) ≡ marks_in t n items ++ map (mark_at t k) (kinds_in item)
marks_more t n k [] (Alone m) e = let f : n ≡ k = omega (arith, e) in ap (λ j. mark_at t j m ∷ []) f
marks_more t n k [] (Asks ways c) e = let f : n ≡ k = omega (arith, e) in append-nil (map (mark_at t n) ways) ∙ ap (λ j. map (mark_at t j) ways) f
marks_more t n k (Alone m ∷ items) item e = ap (λ ms. mark_at t n m ∷ ms) (marks_more t n k items item e)
marks_more t n k (Asks ways c ∷ items) item e =
    let here = map (mark_at t n) ways in
    ap (λ ms. here ++ ms) (marks_more t (n + 1) k items item (omega (arith, e))) ∙ sym (append_assoc here (marks_in t (n + 1) items) (map (mark_at t k) (kinds_in item)))

numbered_put : (t u k : ℕ) (lists : List (List Item)) (item : Item) → 0 < length lists → u + 1 ≡ t + length lists → k ≡ last_len (map commands_in lists)
    → numbered t (put_last item lists) ≡ numbered t lists ++ map (mark_at u k) (kinds_in item)
numbered_put t u k [] item a e h = absurd (omega (arith, a))
numbered_put t u k (items ∷ []) item a e h =
    let same : t ≡ u = omega (arith, e) in
    append-nil (marks_in t 0 (items ++ item ∷ []))
    ∙ marks_more t 0 k items item (omega (arith, h))
    ∙ ap (λ v. marks_in t 0 items ++ map (mark_at v k) (kinds_in item)) same
    ∙ ap (λ ms. ms ++ map (mark_at u k) (kinds_in item)) (sym (append-nil (marks_in t 0 items)))
numbered_put t u k (items ∷ more ∷ lists) item a e h =
    ap (λ ms. marks_in t 0 items ++ ms) (numbered_put (t + 1) u k (more ∷ lists) item (omega arith) (omega (arith, e)) h)
    ∙ sym (append_assoc (marks_in t 0 items) (numbered (t + 1) (more ∷ lists)) (map (mark_at u k) (kinds_in item)))

numbered_new : (t : ℕ) (lists : List (List Item)) → numbered t (lists ++ [] ∷ []) ≡ numbered t lists
numbered_new t [] = refl
numbered_new t (items ∷ lists) = ap (λ ms. marks_in t 0 items ++ ms) (numbered_new (t + 1) lists)

last_at : {X : Type 0} (lists : List (List X)) → unwrap_or (slice_get lists (length lists - 1)) [] ≡ last_list lists
last_at [] = refl
last_at (xs ∷ []) = refl
last_at (xs ∷ ys ∷ rest) =
    let n : length (xs ∷ ys ∷ rest) - 1 ≡ suc (length (ys ∷ rest) - 1) = omega arith in
    ap (λ k. unwrap_or (slice_get (xs ∷ ys ∷ rest) k) []) n ∙ last_at (ys ∷ rest)

some : (n : ℕ) → 0 < n → (n == 0) ≡ false
some n h = grind (arith, nat_tests, h)

last_commands : (s : Script) → 0 < length s.threads → commands_of s (length s.threads) ≡ last_list s.threads
last_commands s h =
    ap (λ b. cond b [] (unwrap_or (slice_get s.threads (length s.threads - 1)) [])) (some (length s.threads) h) ∙ last_at s.threads

here_is : (s : Script) (lists : List (List Item)) (kind : MarkKind) → ComesFrom s lists → 0 < length s.threads → mark_here s kind ≡ mark_at (length lists) (last_len (map commands_in lists)) kind
here_is s lists kind h k =
    ap (λ cs. mark_at (length s.threads) (length cs) kind) (last_commands s k)
    ∙ ap (λ n. mark_at (length s.threads) n kind) (sym (last_len_is s.threads) ∙ ap (λ ts. last_len ts) h.threads)
    ∙ ap (λ t. mark_at t (last_len (map commands_in lists)) kind) (lists_len s lists h)

-- the marks with one line more
marks_put : (s : Script) (lists : List (List Item)) (item : Item) → ComesFrom s lists → 0 < length s.threads
    → s.marks ++ map (mark_at (length lists) (last_len (map commands_in lists))) (kinds_in item) ≡ numbered 1 (put_last item lists)
marks_put s lists item h k =
    let n = lists_len s lists h in
    let last = last_len (map commands_in lists) in
    ap (λ ms. ms ++ map (mark_at (length lists) last) (kinds_in item)) h.marks
    ∙ sym (numbered_put 1 (length lists) last lists item (omega (arith, n, k)) (omega arith) refl)

-- ---- one more line

-- a mark with a line of its own
pub alone_comes : (s : Script) (lists : List (List Item)) (m : MarkKind) → ComesFrom s lists → 0 < length s.threads
    → ComesFrom (record s { marks = s.marks ++ mark_here s m ∷ [] }) (put_last (Alone m) lists)
alone_comes s lists m h k = record {
  threads = h.threads ∙ sym (alone_put lists m);
  marks = ap (λ x. s.marks ++ x ∷ []) (here_is s lists m h k) ∙ marks_put s lists (Alone m) h k;
}

asks_threads : (s : Script) (lists : List (List Item)) (ways : List MarkKind) (c : Command) → ComesFrom s lists → onto_last c s.threads ≡ map commands_in (put_last (Asks ways c) lists)
asks_threads s lists ways c h = onto_is c s.threads ∙ ap (λ ts. put_last c ts) h.threads ∙ sym (asks_put lists ways c)

-- a command that is written as itself
pub plain_comes : (s : Script) (lists : List (List Item)) (c : Command) → ComesFrom s lists → 0 < length s.threads
    → ComesFrom (record s { threads = onto_last c s.threads }) (put_last (Asks [] c) lists)
plain_comes s lists c h k = record {
  threads = asks_threads s lists [] c h;
  marks = sym (append-nil s.marks) ∙ marks_put s lists (Asks [] c) h k;
}

-- a command that is written otherwise
pub way_comes : (s : Script) (lists : List (List Item)) (way : MarkKind) (c : Command) → ComesFrom s lists → 0 < length s.threads
    → ComesFrom (record s { threads = onto_last c s.threads; marks = s.marks ++ mark_here s way ∷ [] }) (put_last (Asks (way ∷ []) c) lists)
way_comes s lists way c h k = record {
  threads = asks_threads s lists (way ∷ []) c h;
  marks = ap (λ x. s.marks ++ x ∷ []) (here_is s lists way h k) ∙ marks_put s lists (Asks (way ∷ []) c) h k;
}

-- a new thread
pub thread_comes : (s : Script) (lists : List (List Item)) → ComesFrom s lists → ComesFrom (record s { threads = s.threads ++ [] ∷ [] }) (lists ++ [] ∷ [])
thread_comes s lists h = record {
  threads = ap (λ ts. ts ++ [] ∷ []) h.threads ∙ sym (map-append commands_in lists ([] ∷ []));
  marks = h.marks ∙ sym (numbered_new 1 lists);
}

-- the script is the one with these lines
pub comes_is : (s : Script) (lists : List (List Item)) → ComesFrom s lists → s ≡ with_items s lists
comes_is s lists h =
    ap (λ ts. let x : Script = record s { threads = ts } in x) h.threads
    ∙ ap (λ ms. let x : Script = record s { threads = map commands_in lists; marks = ms } in x) h.marks

-- ---- what is mapped

kinds_before : (t n : ℕ) (ways : List MarkKind) (ms : List Mark) → map (λ (m : Mark). m.kind) (map (mark_at t n) ways ++ ms) ≡ ways ++ map (λ (m : Mark). m.kind) ms
kinds_before t n [] ms = refl
kinds_before t n (way ∷ ways) ms = ap (λ ks. way ∷ ks) (kinds_before t n ways ms)

kinds_of : (t n : ℕ) (items : List Item) → map (λ (m : Mark). m.kind) (marks_in t n items) ≡ flat_map kinds_in items
kinds_of t n [] = refl
kinds_of t n (Alone m ∷ items) = ap (λ ks. m ∷ ks) (kinds_of t n items)
kinds_of t n (Asks ways c ∷ items) = kinds_before t n ways (marks_in t (n + 1) items) ∙ ap (λ ks. ways ++ ks) (kinds_of t (n + 1) items)

fold_is : (d : ThreadMappings) (items : List Item) → fold thread_mappings_after d (flat_map kinds_in items) ≡ fold thread_mappings_behind d items
fold_is d [] = refl
fold_is d (item ∷ items) = fold-append thread_mappings_after d (kinds_in item) (flat_map kinds_in items) ∙ fold_is (thread_mappings_behind d item) items

last_marks : (lists : List (List Item)) → filter (λ (m : Mark). m.thread == length lists) (numbered 1 lists) ≡ marks_in (length lists) 0 (last_list lists)
last_marks [] = refl
last_marks (items ∷ lists) =
    let n = length (items ∷ lists) in
    of_thread n 1 (n - 1) (items ∷ lists) (omega arith) ∙ ap (λ xs. marks_in n 0 xs) (last_at (items ∷ lists))

-- what the last thread has mapped, by its lines
pub thread_mappings_is : (s : Script) (lists : List (List Item)) → ComesFrom s lists → thread_mappings_at_end s ≡ thread_mappings_of (last_list lists)
thread_mappings_is s lists h =
    let kinds : List Mark → List MarkKind = λ ms. map (λ (m : Mark). m.kind) ms in
    let thread_mappings : List Mark → ThreadMappings = λ ms. fold thread_mappings_after empty_thread_mappings (kinds ms) in
    ap (λ ms. thread_mappings (filter (λ (m : Mark). m.thread == length s.threads) ms)) h.marks
    ∙ ap (λ n. thread_mappings (filter (λ (m : Mark). m.thread == n) (numbered 1 lists))) (lists_len s lists h)
    ∙ ap thread_mappings (last_marks lists)
    ∙ ap (λ ks. fold thread_mappings_after empty_thread_mappings ks) (kinds_of (length lists) 0 (last_list lists))
    ∙ fold_is empty_thread_mappings (last_list lists)

-- one line more
pub thread_mappings_more : (items : List Item) (item : Item) → thread_mappings_of (items ++ item ∷ []) ≡ thread_mappings_behind (thread_mappings_of items) item
thread_mappings_more items item = fold-append thread_mappings_behind empty_thread_mappings items (item ∷ [])

-- ---- the rules

along_more : (test : ThreadMappings → Item → Bool) (d : ThreadMappings) (items : List Item) (item : Item) → all_along test d items ≡ true → test (fold thread_mappings_behind d items) item ≡ true → all_along test d (items ++ item ∷ []) ≡ true
along_more test d [] item h k = and_true (test d item) k
along_more test d (x ∷ items) item h k =
    let f = both (test d x) (all_along test (thread_mappings_behind d x) items) h in
    joint (test d x) (all_along test (thread_mappings_behind d x) (items ++ item ∷ [])) f.0 (along_more test (thread_mappings_behind d x) items item f.1 k)

fits_last : (s : Script) (lists : List (List Item)) (item : Item) → list_all (items_fit s) lists ≡ true → item_fits s (thread_mappings_of (last_list lists)) item ≡ true → list_all (items_fit s) (put_last item lists) ≡ true
fits_last s [] item h k = refl
fits_last s (items ∷ []) item h k = and_true (items_fit s (items ++ item ∷ [])) (along_more (item_fits s) empty_thread_mappings items item (both (items_fit s items) true h).0 k)
fits_last s (items ∷ more ∷ lists) item h k =
    let f = both (items_fit s items) (list_all (items_fit s) (more ∷ lists)) h in
    joint (items_fit s items) (list_all (items_fit s) (put_last item (more ∷ lists))) f.0 (fits_last s (more ∷ lists) item f.1 k)

-- a line that may follow the last one
pub fits_put : (s : Script) (lists : List (List Item)) (item : Item) → ComesFrom s lists → list_all (items_fit s) lists ≡ true
    → item_fits s (thread_mappings_at_end s) item ≡ true → list_all (items_fit s) (put_last item lists) ≡ true
fits_put s lists item h f k = fits_last s lists item f (ap (λ d. item_fits s d item) (sym (thread_mappings_is s lists h)) ∙ k)

-- ---- where the last list is known

itself : (s : Script) (lists : List (List Item)) → ComesFrom (with_items s lists) lists
itself s lists = record { threads = refl; marks = refl }

has_one : (done : List (List Item)) (items : List Item) → 0 < length (map commands_in (done ++ items ∷ []))
has_one [] items = omega arith
has_one (first ∷ done) items = omega arith

-- a mark with a line of its own
pub alone_end : (s : Script) (done : List (List Item)) (items : List Item) (m : MarkKind)
    → (let q = with_items s (done ++ items ∷ []) in record q { marks = q.marks ++ mark_here q m ∷ [] } ≡ with_items s (done ++ (items ++ Alone m ∷ []) ∷ []))
alone_end s done items m =
    let lists = done ++ items ∷ [] in
    let q = with_items s lists in
    comes_is (record q { marks = q.marks ++ mark_here q m ∷ [] }) (put_last (Alone m) lists) (alone_comes q lists m (itself s lists) (has_one done items))
    ∙ ap (with_items s) (put_end (Alone m) done items)

-- a command that is written as itself
pub plain_end : (s : Script) (done : List (List Item)) (items : List Item) (c : Command)
    → (let q = with_items s (done ++ items ∷ []) in record q { threads = onto_last c q.threads } ≡ with_items s (done ++ (items ++ Asks [] c ∷ []) ∷ []))
plain_end s done items c =
    let lists = done ++ items ∷ [] in
    let q = with_items s lists in
    comes_is (record q { threads = onto_last c q.threads }) (put_last (Asks [] c) lists) (plain_comes q lists c (itself s lists) (has_one done items))
    ∙ ap (with_items s) (put_end (Asks [] c) done items)

-- a command that is written otherwise
pub way_end : (s : Script) (done : List (List Item)) (items : List Item) (way : MarkKind) (c : Command)
    → (let q = with_items s (done ++ items ∷ []) in record q { threads = onto_last c q.threads; marks = q.marks ++ mark_here q way ∷ [] } ≡ with_items s (done ++ (items ++ Asks (way ∷ []) c ∷ []) ∷ []))
way_end s done items way c =
    let lists = done ++ items ∷ [] in
    let q = with_items s lists in
    comes_is (record q { threads = onto_last c q.threads; marks = q.marks ++ mark_here q way ∷ [] }) (put_last (Asks (way ∷ []) c) lists) (way_comes q lists way c (itself s lists) (has_one done items))
    ∙ ap (with_items s) (put_end (Asks (way ∷ []) c) done items)

-- a new thread
pub thread_end : (s : Script) (done : List (List Item))
    → (let q = with_items s done in record q { threads = q.threads ++ [] ∷ [] } ≡ with_items s (done ++ [] ∷ []))
thread_end s done =
    let q = with_items s done in
    comes_is (record q { threads = q.threads ++ [] ∷ [] }) (done ++ [] ∷ []) (thread_comes q done (itself s done))

-- what the last thread has mapped
pub thread_mappings_end : (s : Script) (done : List (List Item)) (items : List Item) → thread_mappings_at_end (with_items s (done ++ items ∷ [])) ≡ thread_mappings_of items
thread_mappings_end s done items =
    let lists = done ++ items ∷ [] in
    thread_mappings_is (with_items s lists) lists (itself s lists) ∙ ap thread_mappings_of (last_end done items)
