-- Marks in order, and where a search by halves cuts them.
use Rattle.std.proofs.Common.{◌≡◌, ℕ, zero, suc, ◌+◌, ◌-◌, ◌<◌, ◌≤◌, Bool, true, false, List, [], ◌∷◌, ◌++◌, length, take, drop, Some, refl, sym, ap, ◌∙◌, inl, inr, arith}
use Rattle.std.specs.Prelude.{◌&&◌, ◌||◌, slice_get, slice_index_or}
use Rattle.std.specs.List.{list_all, list_any, AllWithin}
use Rattle.std.specs.List.Sorted.{IsPartitionPoint, IsPartitionedBy}
use Rattle.std.proofs.lemmas.List.{append-nil}
use Rattle.std.proofs.lemmas.Bool.{cases_Bool}
use Rattle.std.proofs.lemmas.Bool.Decides.{nat_tests}
use Rattle.journal_model.specs.declared.script.Mark.{Mark}
use Rattle.journal_model.specs.declared.script.Script.{Script}
use Rattle.journal_model.specs.rules.Commands.{commands_of}
use Rattle.journal_model.specs.statements.Complete.{thread_numbers}
use Rattle.journal_model.specs.scripts.ScriptRules.{is_script}
use Rattle.journal_model.specs.scripts.MarkRules.{is_above, are_in_order, have_marks, is_in_thread, has_few_lines, marks_fit, empty_thread_mappings}
use Rattle.map_access.specs.Parts.{IsPart, is_before, is_up_to, is_within}
use Rattle.map_access.proofs.Accesses.{drop_at}

pub both : (a b : Bool) → (a && b) ≡ true → (a ≡ true) × (b ≡ true)
both true true h = (refl, refl)
both true false h = absurd cc
both false b h = absurd cc

-- ---- the order of a part

pub tail_order : (m : Mark) (ms : List Mark) → are_in_order (m ∷ ms) ≡ true → are_in_order ms ≡ true
tail_order m [] h = refl
tail_order m (k ∷ ms) h = (both (is_above m k) (are_in_order (k ∷ ms)) h).1

pub drop_order : (i : ℕ) (ms : List Mark) → are_in_order ms ≡ true → are_in_order (drop i ms) ≡ true
drop_order zero ms o = o
drop_order (suc i) [] o = o
drop_order (suc i) (m ∷ ms) o = drop_order i ms (tail_order m ms o)

-- the order of the marks from one on
pub order_step : (ms : List Mark) (i : ℕ) (m k : Mark) → slice_get ms i ≡ Some m → slice_get ms (i + 1) ≡ Some k
    → are_in_order (drop i ms) ≡ (is_above m k && are_in_order (drop (i + 1) ms))
order_step ms i m k at next =
    ap are_in_order (drop_at ms i m at ∙ ap (λ xs. m ∷ xs) (drop_at ms (i + 1) k next))
    ∙ ap (λ xs. is_above m k && are_in_order xs) (sym (drop_at ms (i + 1) k next))

-- at most one mark is left
pub order_ends : (ms : List Mark) (i : ℕ) → length ms ≤ i + 1 → are_in_order (drop i ms) ≡ true
order_ends [] zero h = refl
order_ends [] (suc i) h = refl
order_ends (m ∷ []) zero h = refl
order_ends (m ∷ k ∷ ms) zero h = absurd (omega (arith, h))
order_ends (m ∷ ms) (suc i) h = order_ends ms i (omega (arith, h))

-- ---- a test that no mark passes which stands below one that fails

module _ (p : Mark → Bool) (above : (m k : Mark) → is_above m k ≡ true → p k ≡ true → p m ≡ true) where
  fails : (m k : Mark) → is_above m k ≡ true → p m ≡ false → p k ≡ false
  fails m k a f = elim (cases_Bool (p k)) [ inr e ↦ e | inl e ↦ let h = above m k a e in absurd cc ]

  all_fail : (m : Mark) (ms : List Mark) → are_in_order (m ∷ ms) ≡ true → p m ≡ false → (j : ℕ) (d : Mark) → j < length ms → p (slice_index_or ms j d) ≡ false
  all_fail m [] o f j d h = absurd (omega (arith, h))
  all_fail m (k ∷ ms) o f zero d h = fails m k (both (is_above m k) (are_in_order (k ∷ ms)) o).0 f
  all_fail m (k ∷ ms) o f (suc j) d h =
      let parts = both (is_above m k) (are_in_order (k ∷ ms)) o in
      all_fail k ms parts.1 (fails m k parts.0 f) j d (omega (arith, h))

  pub partitioned : (ms : List Mark) → are_in_order ms ≡ true → IsPartitionedBy p ms
  partitioned [] o i j d low high h = absurd (omega (arith, high))
  partitioned (m ∷ ms) o zero zero d low high h = h
  partitioned (m ∷ ms) o zero (suc j) d low high h = elim (cases_Bool (p m)) [
    | inl e ↦ e
    | inr e ↦ let f = all_fail m ms o e j d (omega (arith, high)) in absurd cc
  ]
  partitioned (m ∷ ms) o (suc i) zero d low high h = absurd (omega (arith, low))
  partitioned (m ∷ ms) o (suc i) (suc j) d low high h = partitioned ms (tail_order m ms o) i j d (omega (arith, low)) (omega (arith, high)) h

above_before : (thread n : ℕ) (m k : Mark) → is_above m k ≡ true → is_before thread n k ≡ true → is_before thread n m ≡ true
above_before thread n m k a h = grind (arith, nat_tests, h, a)

above_up_to : (thread n : ℕ) (m k : Mark) → is_above m k ≡ true → is_up_to thread n k ≡ true → is_up_to thread n m ≡ true
above_up_to thread n m k a h = grind (arith, nat_tests, h, a)

pub parted_before : (thread n : ℕ) (ms : List Mark) → are_in_order ms ≡ true → IsPartitionedBy (is_before thread n) ms
parted_before thread n ms o = partitioned (is_before thread n) (above_before thread n) ms o

pub parted_up_to : (thread n : ℕ) (ms : List Mark) → are_in_order ms ≡ true → IsPartitionedBy (is_up_to thread n) ms
parted_up_to thread n ms o = partitioned (is_up_to thread n) (above_up_to thread n) ms o

-- ---- none among those that are cut off

pub or_false : (a b : Bool) → a ≡ false → b ≡ false → (a || b) ≡ false
or_false false false h k = refl
or_false true b h k = absurd cc
or_false false true h k = absurd cc

none_taken : (w : Mark → Bool) (i : ℕ) (ms : List Mark) → AllWithin (λ m. w m ≡ false) ms 0 i → i ≤ length ms → list_any w (take i ms) ≡ false
none_taken w zero ms a h = refl
none_taken w (suc i) [] a h = refl
none_taken w (suc i) (m ∷ ms) a h =
    or_false (w m) (list_any w (take i ms)) (a 0 m (omega arith) (omega arith))
    (none_taken w i ms (λ k d low high. a (suc k) d (omega arith) (omega (arith, high))) (omega (arith, h)))

none_dropped : (w : Mark → Bool) (i : ℕ) (ms : List Mark) → AllWithin (λ m. w m ≡ false) ms i (length ms) → list_any w (drop i ms) ≡ false
none_dropped w i [] a = by i
  where
    by : (j : ℕ) → list_any w (drop j []) ≡ false
    by zero = refl
    by (suc j) = refl
none_dropped w zero (m ∷ ms) a =
    or_false (w m) (list_any w ms) (a 0 m (omega arith) (omega arith)) (none_dropped w 0 ms (λ k d low high. a (suc k) d (omega arith) (omega (arith, high))))
none_dropped w (suc i) (m ∷ ms) a = none_dropped w i ms (λ k d low high. a (suc k) d (omega (arith, low)) (omega (arith, high)))

taken_dropped : (i : ℕ) (ms : List Mark) → ms ≡ take i ms ++ drop i ms
taken_dropped zero ms = refl
taken_dropped (suc i) [] = refl
taken_dropped (suc i) (m ∷ ms) = ap (λ xs. m ∷ xs) (taken_dropped i ms)

before_not_within : (thread first last : ℕ) (m : Mark) → is_before thread first m ≡ true → is_within thread first last m ≡ false
before_not_within thread first last m h = grind (arith, nat_tests, h)

pub past_not_within : (thread first last : ℕ) (m : Mark) → is_up_to thread last m ≡ false → is_within thread first last m ≡ false
past_not_within thread first last m h = grind (arith, nat_tests, h)

-- those from one on, all of them
whole_taken : (n : ℕ) (ms : List Mark) → length ms ≤ n → take n ms ≡ ms
whole_taken zero [] h = refl
whole_taken (suc n) [] h = refl
whole_taken zero (m ∷ ms) h = absurd (omega (arith, h))
whole_taken (suc n) (m ∷ ms) h = ap (λ xs. m ∷ xs) (whole_taken n ms (omega (arith, h)))

len_drop : (i : ℕ) (ms : List Mark) → length (drop i ms) ≤ length ms - i
len_drop zero ms = omega arith
len_drop (suc i) [] = omega arith
len_drop (suc i) (m ∷ ms) = let rest = len_drop i ms in omega (arith, rest)

pub all_taken : (i : ℕ) (ms : List Mark) → take (length ms - i) (drop i ms) ≡ drop i ms
all_taken i ms = whole_taken (length ms - i) (drop i ms) (len_drop i ms)

-- the stretch between both cuts is the part
pub cut_is_part : (thread first last i k : ℕ) (marks rest : List Mark) → i ≤ length marks → rest ≡ drop i marks
    → IsPartitionPoint (λ m. is_before thread first m ≡ true) (λ m. is_before thread first m ≡ false) marks i
    → IsPartitionPoint (λ m. is_up_to thread last m ≡ true) (λ m. is_up_to thread last m ≡ false) rest k
    → IsPart thread first last (take k rest) marks
cut_is_part thread first last i k marks rest h e low high = record {
  before = take i marks;
  behind = drop k rest;
  whole = taken_dropped i marks ∙ ap (λ xs. take i marks ++ xs) (sym e ∙ taken_dropped k rest);
  none_before = none_taken (is_within thread first last) i marks (λ j d a b. before_not_within thread first last (slice_index_or marks j d) (low.0 j d a b)) h;
  none_behind = none_dropped (is_within thread first last) k rest (λ j d a b. past_not_within thread first last (slice_index_or rest j d) (high.1 j d a b));
}

-- all marks are a part of themselves
pub all_are_part : (thread first last : ℕ) (marks : List Mark) → IsPart thread first last marks marks
all_are_part thread first last marks = record { before = []; behind = []; whole = sym (append-nil marks); none_before = refl; none_behind = refl }

-- ---- the marks of a script

pub script_order : (s : Script) → is_script s ≡ true → are_in_order s.marks ≡ true
script_order s h =
    let marks = (both _ (have_marks s) h).1 in
    let ways = both _ (list_all (λ t. marks_fit s t 0 empty_thread_mappings (commands_of s t)) (thread_numbers s)) marks in
    let lines = both _ (list_all (has_few_lines s) (thread_numbers s)) ways.0 in
    let threads = both _ (list_all (is_in_thread s) s.marks) lines.0 in
    (both _ (are_in_order s.marks) threads.0).1
