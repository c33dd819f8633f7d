-- The threads' tickets: one thread more, and the oldest that comes after the last.
use Rattle.std.proofs.Common.{◌≡◌, ℕ, zero, suc, ◌+◌, ◌<◌, ◌≤◌, Bool, true, false, cond, List, [], ◌∷◌, ◌++◌, length, Option, Some, None, refl, sym, ap, ◌∙◌, arith}
use Rattle.std.proofs.lemmas.Grind.{common_steps}
use Rattle.std.proofs.lemmas.List.Elements.{filter_map-append, filter-append}
use Rattle.std.proofs.lemmas.Option.{slice_get_past}
use Rattle.std.specs.Prelude.{◌-◌, ◌==◌, filter, filter_map, option_map, slice_get, unwrap_or, if◌then◌else◌}
use Rattle.std.specs.List.{AllByRecursion, cons_option}
use Rattle.ttm_base.specs.declared.Stamp.{Stamp}
use Rattle.ttm_base.specs.ListWords.{count_from, least_by}
use Rattle.journal_model.specs.declared.script.Script.{Script}
use Rattle.journal_model.specs.declared.state.Course.{Course}
use Rattle.journal_model.specs.rules.State.{new_course}
use Rattle.journal_model.specs.statements.Complete.{thread_numbers}
use Rattle.journal_model.specs.statements.Scheduled.{Ticketed, sorted_by_stamp}
use Rattle.turn_order.specs.Tickets.{comes_after, least_with, older, stamp_in, ticketed_in, tickets_after}
use Rattle.turn_order.proofs.SortLaws.{Rising, after_both, filter_twice, kept_passes, least_all, least_push, none_least, rising_kept, sorted_first}

-- ---- one thread more

count_from-push : (n start : ℕ) → count_from 1 (n + 1) start ≡ count_from 1 n start ++ (start + n) ∷ []
count_from-push zero start = grind (arith, common_steps)
count_from-push (suc n) start = let e = count_from-push n (1 + start) in grind (arith, common_steps)

nil_right : {X : Type 0} (xs : List X) → xs ++ [] ≡ xs
nil_right [] = refl
nil_right (x ∷ xs) = ap (λ ys. x ∷ ys) (nil_right xs)

least_one_more : (last : Option Ticketed) (ts : List Ticketed) (o : Option Ticketed)
    → least_by (λ x. x.stamp) (ts ++ filter (comes_after last) (cons_option o [])) ≡ least_with last (least_by (λ x. x.stamp) ts) o
least_one_more last ts None = ap (λ us. least_by (λ (x : Ticketed). x.stamp) us) (nil_right ts)
least_one_more last ts (Some t) = by (comes_after last t)
  where
    by : (b : Bool) → least_by (λ x. x.stamp) (ts ++ cond b (t ∷ []) []) ≡ cond b (Some (older (least_by (λ x. x.stamp) ts) t)) (least_by (λ x. x.stamp) ts)
    by true = least_push ts t
    by false = ap (λ us. least_by (λ (x : Ticketed). x.stamp) us) (nil_right ts)

-- the oldest ticket of one thread more
pub least_more : (courses : List Course) (last : Option Ticketed) (i : ℕ)
    → least_by (λ x. x.stamp) (filter (comes_after last) (filter_map (ticketed_in courses) (count_from 1 (i + 1) 1)))
    ≡ least_with last (least_by (λ x. x.stamp) (filter (comes_after last) (filter_map (ticketed_in courses) (count_from 1 i 1)))) (ticketed_in courses (i + 1))
least_more courses last i =
    let so_far = count_from 1 i 1 in
    let same : 1 + i ≡ i + 1 = omega arith in
    ap (λ ns. least_by (λ (x : Ticketed). x.stamp) (filter (comes_after last) (filter_map (ticketed_in courses) ns))) (count_from-push i 1)
    ∙ (ap (λ ts. least_by (λ (x : Ticketed). x.stamp) (filter (comes_after last) ts)) (filter_map-append (ticketed_in courses) so_far ((1 + i) ∷ []))
    ∙ (ap (λ ts. least_by (λ (x : Ticketed). x.stamp) ts) (filter-append (comes_after last) (filter_map (ticketed_in courses) so_far) (cons_option (ticketed_in courses (1 + i)) []))
    ∙ (least_one_more last (filter (comes_after last) (filter_map (ticketed_in courses) so_far)) (ticketed_in courses (1 + i))
    ∙ ap (λ n. least_with last (least_by (λ x. x.stamp) (filter (comes_after last) (filter_map (ticketed_in courses) so_far))) (ticketed_in courses n)) same)))

-- ---- threads by number

tickets_above : (courses : List Course) (low n start : ℕ) → low < start → AllByRecursion (λ u. low < u.thread) (filter_map (ticketed_in courses) (count_from 1 n start))
tickets_above courses low zero start h = tt
tickets_above courses low (suc n) start h = by (stamp_in courses start) (tickets_above courses low n (1 + start) (omega arith))
  where
    by : (o : Option Stamp) → AllByRecursion (λ u. low < u.thread) (filter_map (ticketed_in courses) (count_from 1 n (1 + start)))
        → AllByRecursion (λ u. low < u.thread) (cons_option (option_map (λ stamp. record { thread = start; stamp = stamp.0 }) o) (filter_map (ticketed_in courses) (count_from 1 n (1 + start))))
    by None rest = rest
    by (Some s) rest = (h, rest)

tickets_rise : (courses : List Course) (n start : ℕ) → Rising (filter_map (ticketed_in courses) (count_from 1 n start))
tickets_rise courses zero start = tt
tickets_rise courses (suc n) start = by (stamp_in courses start) (tickets_rise courses n (1 + start))
  where
    by : (o : Option Stamp) → Rising (filter_map (ticketed_in courses) (count_from 1 n (1 + start)))
        → Rising (cons_option (option_map (λ stamp. record { thread = start; stamp = stamp.0 }) o) (filter_map (ticketed_in courses) (count_from 1 n (1 + start))))
    by None rest = rest
    by (Some s) rest = (tickets_above courses start n (1 + start) (omega arith), rest)

-- ---- threads without a course

-- they have no ticket
no_course : (courses : List Course) (thread : ℕ) → length courses < thread → stamp_in courses thread ≡ None
no_course courses thread h = ap (λ (o : Option Course). (unwrap_or o (new_course 0)).stamp) (by (thread == 0))
  where
    by : (b : Bool) → (if b then None else slice_get courses (thread - 1)) ≡ None
    by true = refl
    by false = slice_get_past courses (thread - 1) (omega (arith, h))

no_courses : (courses : List Course) (n start : ℕ) → length courses < start → filter_map (ticketed_in courses) (count_from 1 n start) ≡ []
no_courses courses zero start h = refl
no_courses courses (suc n) start h =
    ap (λ (o : Option Stamp). cons_option (option_map (λ stamp. record { thread = start; stamp = stamp.0 }) o) (filter_map (ticketed_in courses) (count_from 1 n (1 + start)))) (no_course courses start h)
    ∙ no_courses courses n (1 + start) (omega (arith, h))

-- the tickets of `n` threads are those of the first `k` of them, if no other has a course
pub tickets_within : (courses : List Course) (n k start : ℕ) → k ≤ n → (k < n → length courses < start + k)
    → filter_map (ticketed_in courses) (count_from 1 k start) ≡ filter_map (ticketed_in courses) (count_from 1 n start)
tickets_within courses zero zero start within h = refl
tickets_within courses zero (suc k) start within h = absurd (omega (arith, within))
tickets_within courses (suc n) zero start within h =
    let past = h (omega arith) in sym (no_courses courses (suc n) start (omega (arith, past)))
tickets_within courses (suc n) (suc k) start within h =
    ap (λ ts. cons_option (ticketed_in courses start) ts)
    (tickets_within courses n k (1 + start) (omega (arith, within)) (λ less. let past = h (omega (arith, less)) in omega (arith, past)))

-- ---- the oldest that comes after the last

pub next_ticket : (script : Script) (courses : List Course) (last : Option Ticketed) (t : Ticketed)
    → least_by (λ x. x.stamp) (tickets_after script courses last) ≡ Some t
    → sorted_by_stamp (tickets_after script courses last) ≡ t ∷ sorted_by_stamp (tickets_after script courses (Some t))
next_ticket script courses last t e =
    let all = filter_map (ticketed_in courses) (thread_numbers script) in
    let after : comes_after last t ≡ true = least_all (λ x. comes_after last x ≡ true) (filter (comes_after last) all) t (kept_passes (comes_after last) all) e in
    sorted_first (filter (comes_after last) all) t (rising_kept (comes_after last) all (tickets_rise courses (length script.threads) 1)) e
    ∙ ap (λ ts. t ∷ sorted_by_stamp ts) (filter_twice (comes_after (Some t)) (comes_after last) all (λ x h. after_both last t x after h))

pub no_ticket : (script : Script) (courses : List Course) (last : Option Ticketed)
    → least_by (λ x. x.stamp) (tickets_after script courses last) ≡ None → sorted_by_stamp (tickets_after script courses last) ≡ []
no_ticket script courses last e = ap sorted_by_stamp (none_least (tickets_after script courses last) e)
