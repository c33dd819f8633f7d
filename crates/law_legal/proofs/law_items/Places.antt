-- Marks by their threads and by the commands that they stand at.
use Rattle.std.proofs.Common.{◌≡◌, ℕ, zero, suc, ◌+◌, ◌-◌, ◌<◌, ◌≤◌, Bool, true, false, cond, List, [], ◌∷◌, ◌++◌, length, map, refl, sym, ap, ◌∙◌, append_assoc, arith}
use Rattle.std.specs.Prelude.{◌==◌, not, filter, slice_get, unwrap_or}
use Rattle.std.specs.List.{list_all}
use Rattle.std.proofs.lemmas.Bool.Decides.{nat_tests}
use Rattle.std.proofs.lemmas.List.{append-nil, map-append}
use Rattle.std.proofs.lemmas.List.Elements.{filter-append}
use Rattle.std.proofs.lemmas.List.Folds.{list_all-append}
use Rattle.journal_model.specs.declared.script.Script.{Script}
use Rattle.journal_model.specs.declared.script.Command.{Command}
use Rattle.journal_model.specs.declared.script.Mark.{Mark}
use Rattle.journal_model.specs.declared.script.MarkKind.{MarkKind}
use Rattle.journal_model.specs.rules.Commands.{commands_of}
use Rattle.journal_model.specs.marks.Marks.{marks_of, marks_at}
use Rattle.law_legal.specs.law_items.Items.{Item, Alone, Asks, commands_in, mark_at, marks_in, numbered, ComesFrom}
use Rattle.law_legal.proofs.law_items.Tests.{both, joint}

-- ---- lists

-- a test that all pass keeps all
pub keeps : {X : Type 0} (p : X → Bool) (xs : List X) → list_all p xs ≡ true → filter p xs ≡ xs
keeps p [] h = refl
keeps p (x ∷ xs) h =
    let f = both (p x) (list_all p xs) h in
    ap (λ b. cond b (x ∷ filter p xs) (filter p xs)) f.0 ∙ ap (λ ys. x ∷ ys) (keeps p xs f.1)

-- a test that none passes drops all
pub drops : {X : Type 0} (p : X → Bool) (xs : List X) → list_all (λ x. not (p x)) xs ≡ true → filter p xs ≡ []
drops p [] h = refl
drops p (x ∷ xs) h =
    let f = both (not (p x)) (list_all (λ y. not (p y)) xs) h in
    ap (λ b. cond b (x ∷ filter p xs) (filter p xs)) (no (p x) f.0) ∙ drops p xs f.1
  where
    no : (b : Bool) → not b ≡ true → b ≡ false
    no true k = absurd cc
    no false k = refl

-- both parts of a list pass
pub all_append : {X : Type 0} (p : X → Bool) (xs ys : List X) → list_all p xs ≡ true → list_all p ys ≡ true → list_all p (xs ++ ys) ≡ true
all_append p xs ys h k = list_all-append p xs ys ∙ joint (list_all p xs) (list_all p ys) h k

-- the list of that number, or none
abbrev pub list_at : List (List Item) → ℕ → List Item
list_at lists i = unwrap_or (slice_get lists i) []

-- ---- what holds of each mark of a thread

-- of marks at one place
pub all_ways : (p : Mark → Bool) (t n : ℕ) (ways : List MarkKind) → ((kind : MarkKind) → p (mark_at t n kind) ≡ true) → list_all p (map (mark_at t n) ways) ≡ true
all_ways p t n [] h = refl
all_ways p t n (way ∷ ways) h = joint (p (mark_at t n way)) (list_all p (map (mark_at t n) ways)) (h way) (all_ways p t n ways h)

-- of those of a thread
pub all_in : (p : Mark → Bool) (t n : ℕ) (items : List Item) → ((k : ℕ) (kind : MarkKind) → n ≤ k → k ≤ n + length (commands_in items) → p (mark_at t k kind) ≡ true)
    → list_all p (marks_in t n items) ≡ true
all_in p t n [] h = refl
all_in p t n (Alone m ∷ items) h = joint (p (mark_at t n m)) (list_all p (marks_in t n items)) (h n m (omega arith) (omega arith)) (all_in p t n items h)
all_in p t n (Asks ways c ∷ items) h =
    all_append p (map (mark_at t n) ways) (marks_in t (n + 1) items)
    (all_ways p t n ways (λ kind. h n kind (omega arith) (omega arith)))
    (all_in p t (n + 1) items (λ k kind a b. h k kind (omega (arith, a)) (omega (arith, b))))

-- of those of all threads from a number on
pub all_numbered : (p : Mark → Bool) (t : ℕ) (lists : List (List Item)) → ((u k : ℕ) (kind : MarkKind) → t ≤ u → p (mark_at u k kind) ≡ true) → list_all p (numbered t lists) ≡ true
all_numbered p t [] h = refl
all_numbered p t (items ∷ lists) h =
    all_append p (marks_in t 0 items) (numbered (t + 1) lists)
    (all_in p t 0 items (λ k kind a b. h t k kind (omega arith)))
    (all_numbered p (t + 1) lists (λ u k kind a. h u k kind (omega (arith, a))))

-- ---- the marks of a thread

is_one : (t u : ℕ) → t ≡ u → (t == u) ≡ true
is_one t u e = grind (arith, nat_tests, e)

pub is_other : (t u : ℕ) → t < u → not (t == u) ≡ true
is_other t u e = grind (arith, nat_tests, e)

pub is_later : (t u : ℕ) → u < t → not (t == u) ≡ true
is_later t u e = grind (arith, nat_tests, e)

-- the marks of one thread among all
pub of_thread : (u t i : ℕ) (lists : List (List Item)) → u ≡ t + i → filter (λ (m : Mark). m.thread == u) (numbered t lists) ≡ marks_in u 0 (list_at lists i)
of_thread u t i [] e = refl
of_thread u t zero (items ∷ lists) e =
    let p : Mark → Bool = λ m. m.thread == u in
    let same : t ≡ u = omega (arith, e) in
    let here = keeps p (marks_in t 0 items) (all_in p t 0 items (λ k kind a b. is_one t u same)) in
    let rest = drops p (numbered (t + 1) lists) (all_numbered (λ m. not (p m)) (t + 1) lists (λ v k kind a. is_later v u (omega (arith, a, same)))) in
    filter-append p (marks_in t 0 items) (numbered (t + 1) lists)
    ∙ ap (λ ms. ms ++ filter p (numbered (t + 1) lists)) here
    ∙ ap (λ ms. marks_in t 0 items ++ ms) rest
    ∙ append-nil (marks_in t 0 items)
    ∙ ap (λ v. marks_in v 0 items) same
of_thread u t (suc i) (items ∷ lists) e =
    let p : Mark → Bool = λ m. m.thread == u in
    let here = drops p (marks_in t 0 items) (all_in (λ m. not (p m)) t 0 items (λ k kind a b. is_other t u (omega (arith, e)))) in
    filter-append p (marks_in t 0 items) (numbered (t + 1) lists)
    ∙ ap (λ ms. ms ++ filter p (numbered (t + 1) lists)) here
    ∙ of_thread u (t + 1) i lists (omega (arith, e))

get_map : (lists : List (List Item)) (i : ℕ) → unwrap_or (slice_get (map commands_in lists) i) [] ≡ commands_in (list_at lists i)
get_map [] i = refl
get_map (items ∷ lists) zero = refl
get_map (items ∷ lists) (suc i) = get_map lists i

not_zero : (i : ℕ) → (1 + i == 0) ≡ false
not_zero i = grind (arith, nat_tests)

-- commands by the number of their thread
pub commands_at : (s : Script) (i : ℕ) → commands_of s (1 + i) ≡ unwrap_or (slice_get s.threads i) []
commands_at s i =
    let before : 1 + i - 1 ≡ i = omega arith in
    ap (λ b. cond b [] (unwrap_or (slice_get s.threads (1 + i - 1)) [])) (not_zero i)
    ∙ ap (λ k. unwrap_or (slice_get s.threads k) []) before

-- marks and commands of the threads from a number on are those of these lists
abbrev pub HasThreads : Script → ℕ → List (List Item) → Type 0
HasThreads s t lists = (u i : ℕ) → u ≡ t + i → (marks_of s u ≡ marks_in u 0 (list_at lists i)) × (commands_of s u ≡ commands_in (list_at lists i))

-- of all threads
pub has_threads : (s : Script) (lists : List (List Item)) → ComesFrom s lists → HasThreads s 1 lists
has_threads s lists h u i e = (
  ap (λ ms. filter (λ (m : Mark). m.thread == u) ms) h.marks ∙ of_thread u 1 i lists e,
  ap (λ v. commands_of s v) e ∙ commands_at s i ∙ ap (λ ts. unwrap_or (slice_get ts i) []) h.threads ∙ get_map lists i,
)

-- and of those after the first
pub next_threads : (s : Script) (t : ℕ) (items : List Item) (lists : List (List Item)) → HasThreads s t (items ∷ lists) → HasThreads s (t + 1) lists
next_threads s t items lists h u i e = h u (suc i) (omega (arith, e))

-- of the first
pub first_marks : (s : Script) (t : ℕ) (items : List Item) (lists : List (List Item)) → HasThreads s t (items ∷ lists) → (marks_of s t ≡ marks_in t 0 items) × (commands_of s t ≡ commands_in items)
first_marks s t items lists h = h t 0 (omega arith)

-- ---- the marks at a command

-- what the marks say that follow so many commands
abbrev pub kinds_at : ℕ → List Mark → List MarkKind
kinds_at n ms = map (λ (m : Mark). m.kind) (filter (λ (m : Mark). m.after == n) ms)

pub at_append : (n : ℕ) (ms ks : List Mark) → kinds_at n (ms ++ ks) ≡ kinds_at n ms ++ kinds_at n ks
at_append n ms ks =
    let p : Mark → Bool = λ m. m.after == n in
    ap (λ xs. map (λ (m : Mark). m.kind) xs) (filter-append p ms ks) ∙ map-append (λ (m : Mark). m.kind) (filter p ms) (filter p ks)

kinds_are : (t n : ℕ) (kinds : List MarkKind) → map (λ (m : Mark). m.kind) (map (mark_at t n) kinds) ≡ kinds
kinds_are t n [] = refl
kinds_are t n (kind ∷ kinds) = ap (λ ks. kind ∷ ks) (kinds_are t n kinds)

pub at_here : (t n : ℕ) (kinds : List MarkKind) → kinds_at n (map (mark_at t n) kinds) ≡ kinds
at_here t n kinds =
    let p : Mark → Bool = λ m. m.after == n in
    ap (λ xs. map (λ (m : Mark). m.kind) xs) (keeps p (map (mark_at t n) kinds) (all_ways p t n kinds (λ kind. is_one n n refl))) ∙ kinds_are t n kinds

pub at_other : (t n k : ℕ) (kinds : List MarkKind) → n < k → kinds_at k (map (mark_at t n) kinds) ≡ []
at_other t n k kinds a =
    let p : Mark → Bool = λ m. m.after == k in
    ap (λ xs. map (λ (m : Mark). m.kind) xs) (drops p (map (mark_at t n) kinds) (all_ways (λ m. not (p m)) t n kinds (λ kind. is_other n k a)))

pub at_later : (t n k : ℕ) (items : List Item) → k < n → kinds_at k (marks_in t n items) ≡ []
at_later t n k items a =
    let p : Mark → Bool = λ m. m.after == k in
    ap (λ xs. map (λ (m : Mark). m.kind) xs) (drops p (marks_in t n items) (all_in (λ m. not (p m)) t n items (λ j kind b c. is_later j k (omega (arith, a, b)))))

-- from command number n on the thread has these marks: first those of the lines above, and then those of the lines that follow
abbrev pub Stand : Script → ℕ → ℕ → List MarkKind → List Item → Type 0
Stand s t n above items = (k : ℕ) → n ≤ k → marks_at s t k ≡ kinds_at k (map (mark_at t n) above ++ marks_in t n items)

-- at the head of a thread
pub stand_first : (s : Script) (t : ℕ) (items : List Item) → marks_of s t ≡ marks_in t 0 items → Stand s t 0 [] items
stand_first s t items h k a = ap (λ ms. kinds_at k ms) h

-- after a mark with a line of its own
pub stand_alone : (s : Script) (t n : ℕ) (above : List MarkKind) (m : MarkKind) (items : List Item) → Stand s t n above (Alone m ∷ items) → Stand s t n (above ++ m ∷ []) items
stand_alone s t n above m items h k a =
    let f = mark_at t n in
    h k a ∙ ap (λ ms. kinds_at k ms) (sym (append_assoc (map f above) (f m ∷ []) (marks_in t n items)) ∙ ap (λ ms. ms ++ marks_in t n items) (sym (map-append f above (m ∷ []))))

-- after a command
pub stand_next : (s : Script) (t n : ℕ) (above ways : List MarkKind) (c : Command) (items : List Item) → Stand s t n above (Asks ways c ∷ items) → Stand s t (n + 1) [] items
stand_next s t n above ways c items h k a =
    let f = mark_at t n in
    let rest = marks_in t (n + 1) items in
    h k (omega (arith, a))
    ∙ at_append k (map f above) (map f ways ++ rest)
    ∙ ap (λ ks. ks ++ kinds_at k (map f ways ++ rest)) (at_other t n k above (omega (arith, a)))
    ∙ at_append k (map f ways) rest
    ∙ ap (λ ks. ks ++ kinds_at k rest) (at_other t n k ways (omega (arith, a)))

-- the marks at a command
pub stand_here : (s : Script) (t n : ℕ) (above ways : List MarkKind) (c : Command) (items : List Item) → Stand s t n above (Asks ways c ∷ items) → marks_at s t n ≡ above ++ ways
stand_here s t n above ways c items h =
    let f = mark_at t n in
    let rest = marks_in t (n + 1) items in
    h n (omega arith)
    ∙ at_append n (map f above) (map f ways ++ rest)
    ∙ ap (λ ks. ks ++ kinds_at n (map f ways ++ rest)) (at_here t n above)
    ∙ ap (λ ks. above ++ ks) (at_append n (map f ways) rest ∙ ap (λ ks. ks ++ kinds_at n rest) (at_here t n ways) ∙ ap (λ ks. ways ++ ks) (at_later t (n + 1) n items (omega arith)) ∙ append-nil ways)

-- the marks after the last command
pub stand_last : (s : Script) (t n : ℕ) (above : List MarkKind) → Stand s t n above [] → marks_at s t n ≡ above
stand_last s t n above h = h n (omega arith) ∙ ap (λ ms. kinds_at n ms) (append-nil (map (mark_at t n) above)) ∙ at_here t n above
