-- Marks of numbers, and the lowest without one.
use Rattle.std.proofs.Common.{◌≡◌, ℕ, zero, suc, ◌+◌, ◌<◌, ◌≤◌, Bool, true, false, List, [], ◌∷◌, ◌++◌, length, get_or, set, take, replicate, None, refl, arith, ◌∙◌}
use Rattle.std.specs.Prelude.{filter, find, flat_map, not, nat_eq}
use Rattle.std.proofs.lemmas.Grind.{common_steps}
use Rattle.std.proofs.lemmas.Bool.Decides.{nat_tests}
use Rattle.std.proofs.lemmas.Bool.{cases_eq}
use Rattle.std.proofs.lemmas.List.{get_or-set_same, get_or-set_other, take_more}
use Rattle.ttm_base.specs.ListWords.{count_from}
use Rattle.journal_model.specs.statements.Account.{count_free}
use Rattle.journal_model.specs.rules.Holds.{has_number, lowest_free}
use Rattle.rules_state.proofs.FindLaws.{find_none_more}
use Rattle.rules_holds.specs.Marked.{AreMarked}

pub marked_nothing : (marks : List Bool) → AreMarked marks [] marks
marked_nothing marks = record { len = refl; marked = λ n l. grind (arith, common_steps) }

-- numbers, and then others
pub marked_then : (a b c : List Bool) (xs ys : List ℕ) → AreMarked a xs b → AreMarked b ys c → AreMarked a (xs ++ ys) c
marked_then a b c xs ys m n = record {
  len = n.len ∙ m.len;
  marked = λ k l.
      let first = m.marked k l in
      let second = n.marked k (grind (arith, m.len)) in
      grind (arith, common_steps, first, second);
}

-- numbers, and then those of one item more
pub marked_more : {X : Type 0} (f : X → List ℕ) (xs : List X) (i : ℕ) (d : X) (ys : List ℕ) (a b c : List Bool) → i < length xs → ys ≡ f (get_or xs i d)
    → AreMarked a (flat_map f (take i xs)) b → AreMarked b ys c → AreMarked a (flat_map f (take (i + 1) xs)) c
marked_more f xs i d ys a b c l e m n =
    let more = take_more xs i d l in
    let parts : flat_map f (take (i + 1) xs) ≡ flat_map f (take i xs) ++ ys = grind (arith, common_steps) in
    rw parts (marked_then a b c (flat_map f (take i xs)) ys m n)

-- one number that has a mark
pub marked_one : (marks : List Bool) (i : ℕ) → i < length marks → AreMarked marks (i ∷ []) (set marks i true)
marked_one marks i h = record {
  len = grind (arith, common_steps);
  marked = λ n l. grind (arith, common_steps, nat_tests, get_or-set_same, get_or-set_other, cases_eq n i);
}

-- one that has none
pub marked_past : (marks : List Bool) (i : ℕ) → length marks ≤ i → AreMarked marks (i ∷ []) marks
marked_past marks i h = record {
  len = refl;
  marked = λ n l.
      let other : nat_eq n i ≡ false = grind (arith, nat_tests) in
      grind (arith, common_steps);
}

-- ---- the lowest

find_same : (p q : ℕ → Bool) (n start : ℕ) → ((k : ℕ) → k < start + n → p k ≡ q k) → find p (count_from 1 n start) ≡ find q (count_from 1 n start)
find_same p q zero start h = refl
find_same p q (suc n) start h =
    let here = h start (omega arith) in
    let rest = find_same p q n (1 + start) (λ k l. h k (omega arith)) in
    grind (arith, common_steps)

count_same : (p q : ℕ → Bool) (n start : ℕ) → ((k : ℕ) → k < start + n → p k ≡ q k) → length (filter p (count_from 1 n start)) ≡ length (filter q (count_from 1 n start))
count_same p q zero start h = refl
count_same p q (suc n) start h =
    let here = h start (omega arith) in
    let rest = count_same p q n (1 + start) (λ k l. h k (omega arith)) in
    grind (arith, common_steps)

-- the numbers without a mark are free
unmarked-free : (size : ℕ) (held : List ℕ) (marks : List Bool) → AreMarked (replicate size false) held marks
    → (k : ℕ) → k < 0 + size → not (get_or marks k false) ≡ not (has_number held k)
unmarked-free size held marks m k l =
    let marked = m.marked k (grind (arith, common_steps)) in
    grind (arith, common_steps)

-- the lowest of them
pub lowest_of : (size : ℕ) (held : List ℕ) (marks : List Bool) → AreMarked (replicate size false) held marks → find (λ n. not (get_or marks n false)) (count_from 1 (length marks) 0) ≡ lowest_free held size
lowest_of size held marks m =
    let len : length marks ≡ size = grind (arith, common_steps, m.len) in
    rw len (find_same (λ n. not (get_or marks n false)) (λ n. not (has_number held n)) size 0 (unmarked-free size held marks m))

-- how many they are
pub count_of : (size : ℕ) (held : List ℕ) (marks : List Bool) → AreMarked (replicate size false) held marks
    → length (filter (λ n. not (get_or marks n false)) (count_from 1 (length marks) 0)) ≡ count_free held size
count_of size held marks m =
    let len : length marks ≡ size = grind (arith, common_steps, m.len) in
    rw len (count_same (λ n. not (get_or marks n false)) (λ n. not (has_number held n)) size 0 (unmarked-free size held marks m))

-- none is among those in front, all of which have one
pub none_in_front : (marks : List Bool) (front : ℕ) → ((n : ℕ) → n < front → get_or marks n false ≡ true) → find (λ n. not (get_or marks n false)) (count_from 1 front 0) ≡ None
none_in_front marks zero h = refl
none_in_front marks (suc n) h =
    let before = none_in_front marks n (λ k l. h k (omega arith)) in
    let here = h n (omega arith) in
    let set : not (get_or marks n false) ≡ false = grind (arith, common_steps, here) in
    let none = find_none_more (λ n. not (get_or marks n false)) n before set in
    let e : n + 1 ≡ suc n = omega arith in
    rw e at none
