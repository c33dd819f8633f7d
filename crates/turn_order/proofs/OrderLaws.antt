-- The actors that are left: the first of them, and those after it.
use Rattle.std.proofs.Common.{◌≡◌, ℕ, suc, ◌+◌, ◌-◌, ◌<◌, ◌≤◌, Bool, true, false, cond, List, [], ◌∷◌, ◌++◌, length, Option, Some, None, refl, sym, ap, subst, ◌∙◌, append_assoc, arith}
use Rattle.std.specs.Prelude.{filter, filter_map, is_none, map}
use Rattle.std.specs.List.{AllByRecursion}
use Rattle.ttm_base.specs.declared.Actor.{Actor}
use Rattle.ttm_base.specs.declared.Actor.TheVariants as actor
use Rattle.ttm_base.specs.ListWords.{count_from, least_by}
use Rattle.journal_model.specs.declared.script.Script.{Script}
use Rattle.journal_model.specs.declared.state.Course.{Course}
use Rattle.journal_model.specs.declared.state.State.{State}
use Rattle.journal_model.specs.statements.Complete.{thread_numbers}
use Rattle.journal_model.specs.statements.Scheduled.{Ticketed, own_order, sorted_by_stamp}
use Rattle.turn_order.specs.declared.asked.Asked.{Asked}
use Rattle.turn_order.specs.Tickets.{comes_after, stamp_in, ticketed_in, tickets_after}
use Rattle.turn_order.specs.Left.{Begins, engines_from, left_to_ask, others_from, threads_after}
use Rattle.turn_order.proofs.SortLaws.{filter_keeps}
use Rattle.turn_order.proofs.TicketLaws.{next_ticket, no_ticket}

-- ---- numbers from one on

-- the number of numbers from one on that is within
numbers_within : (n m : ℕ) → m ≤ n → count_from 1 (n + 1 - m) m ≡ m ∷ count_from 1 (n + 1 - (m + 1)) (m + 1)
numbers_within n m h =
    let e : n + 1 - m ≡ suc (n + 1 - (m + 1)) = omega arith in
    let f : 1 + m ≡ m + 1 = omega arith in
    ap (λ k. count_from 1 k m) e ∙ ap (λ s. m ∷ count_from 1 (n + 1 - (m + 1)) s) f

numbers_past : (n m : ℕ) → n < m → count_from 1 (n + 1 - m) m ≡ []
numbers_past n m h = let e : n + 1 - m ≡ 0 = omega arith in ap (λ k. count_from 1 k m) e

-- ---- engines

pub engine_next : (script : Script) (e : ℕ) → e ≤ script.sizes.engines → engines_from script e ≡ actor.Engine e ∷ engines_from script (e + 1)
engine_next script e h = ap (map actor.Engine) (numbers_within script.sizes.engines e h)

pub engines_past : (script : Script) (e : ℕ) → script.sizes.engines < e → engines_from script e ≡ []
engines_past script e h = ap (map actor.Engine) (numbers_past script.sizes.engines e h)

-- ---- threads without a ticket

others_step : (courses : List Course) (t : ℕ) (ts : List ℕ) (b : Bool) → is_none (stamp_in courses t) ≡ b
    → map actor.Thread (filter (λ u. is_none (stamp_in courses u)) (t ∷ ts)) ≡ cond b (actor.Thread t ∷ map actor.Thread (filter (λ u. is_none (stamp_in courses u)) ts)) (map actor.Thread (filter (λ u. is_none (stamp_in courses u)) ts))
others_step courses t ts true e = ap (λ b. map actor.Thread (cond b (t ∷ filter (λ u. is_none (stamp_in courses u)) ts) (filter (λ u. is_none (stamp_in courses u)) ts))) e
others_step courses t ts false e = ap (λ b. map actor.Thread (cond b (t ∷ filter (λ u. is_none (stamp_in courses u)) ts) (filter (λ u. is_none (stamp_in courses u)) ts))) e

pub other_found : (script : Script) (courses : List Course) (t : ℕ) → t ≤ length script.threads → is_none (stamp_in courses t) ≡ true
    → others_from script courses t ≡ actor.Thread t ∷ others_from script courses (t + 1)
other_found script courses t h e =
    ap (λ ts. map actor.Thread (filter (λ u. is_none (stamp_in courses u)) ts)) (numbers_within (length script.threads) t h)
    ∙ others_step courses t (count_from 1 (length script.threads + 1 - (t + 1)) (t + 1)) true e

pub other_passed : (script : Script) (courses : List Course) (t : ℕ) → t ≤ length script.threads → is_none (stamp_in courses t) ≡ false
    → others_from script courses t ≡ others_from script courses (t + 1)
other_passed script courses t h e =
    ap (λ ts. map actor.Thread (filter (λ u. is_none (stamp_in courses u)) ts)) (numbers_within (length script.threads) t h)
    ∙ others_step courses t (count_from 1 (length script.threads + 1 - (t + 1)) (t + 1)) false e

pub others_past : (script : Script) (courses : List Course) (t : ℕ) → length script.threads < t → others_from script courses t ≡ []
others_past script courses t h = ap (λ ts. map actor.Thread (filter (λ u. is_none (stamp_in courses u)) ts)) (numbers_past (length script.threads) t h)

-- ---- threads with one

pub thread_next : (script : Script) (courses : List Course) (last : Option Ticketed) (t : Ticketed)
    → least_by (λ x. x.stamp) (tickets_after script courses last) ≡ Some t
    → threads_after script courses last ≡ actor.Thread t.thread ∷ threads_after script courses (Some t)
thread_next script courses last t e = ap (λ ts. map (λ u. actor.Thread u.thread) ts ++ others_from script courses 1) (next_ticket script courses last t e)

pub threads_past : (script : Script) (courses : List Course) (last : Option Ticketed)
    → least_by (λ x. x.stamp) (tickets_after script courses last) ≡ None → threads_after script courses last ≡ others_from script courses 1
threads_past script courses last e = ap (λ ts. map (λ u. actor.Thread u.thread) ts ++ others_from script courses 1) (no_ticket script courses last e)

-- ---- all of them

-- the same list begins so
pub begins_same : (script : Script) (courses : List Course) (actors others : List Actor) (next : Option Asked) → actors ≡ others
    → Begins script courses others next → Begins script courses actors next
begins_same script courses actors others next e h = subst (λ l. Begins script courses l next) (sym e) h

-- each ticket comes after none
none_last : (ts : List Ticketed) → AllByRecursion (λ t. comes_after None t ≡ true) ts
none_last [] = tt
none_last (t ∷ ts) = (refl, none_last ts)

engines_all : (script : Script) → engines_from script 0 ≡ map actor.Engine (count_from 1 (script.sizes.engines + 1) 0)
engines_all script =
    let e : script.sizes.engines + 1 - 0 ≡ script.sizes.engines + 1 = omega arith in
    ap (λ (n : ℕ). map actor.Engine (count_from 1 n 0)) e

others_all : (script : Script) (courses : List Course)
    → others_from script courses 1 ≡ map actor.Thread (filter (λ t. is_none (stamp_in courses t)) (thread_numbers script))
others_all script courses =
    let e : length script.threads + 1 - 1 ≡ length script.threads = omega arith in
    ap (λ (n : ℕ). map actor.Thread (filter (λ t. is_none (stamp_in courses t)) (count_from 1 n 1))) e

threads_all : (script : Script) (courses : List Course)
    → threads_after script courses None
    ≡ map (λ t. actor.Thread t.thread) (sorted_by_stamp (filter_map (ticketed_in courses) (thread_numbers script)))
    ++ map actor.Thread (filter (λ t. is_none (stamp_in courses t)) (thread_numbers script))
threads_all script courses =
    let tickets = filter_map (ticketed_in courses) (thread_numbers script) in
    ap (λ (ts : List Ticketed). map (λ (t : Ticketed). actor.Thread t.thread) (sorted_by_stamp ts) ++ others_from script courses 1)
    (filter_keeps (comes_after None) tickets (none_last tickets))
    ∙ ap (λ (os : List Actor). map (λ (t : Ticketed). actor.Thread t.thread) (sorted_by_stamp tickets) ++ os) (others_all script courses)

-- where nobody was asked, all are left
pub all_left : (script : Script) (s : State) → left_to_ask script s.courses None ≡ own_order script s
all_left script s =
    let engines = map actor.Engine (count_from 1 (script.sizes.engines + 1) 0) in
    let ticketed = map (λ (t : Ticketed). actor.Thread t.thread) (sorted_by_stamp (filter_map (ticketed_in s.courses) (thread_numbers script))) in
    let others = map actor.Thread (filter (λ t. is_none (stamp_in s.courses t)) (thread_numbers script)) in
    ap (λ (es : List Actor). actor.Reaper ∷ (es ++ threads_after script s.courses None)) (engines_all script)
    ∙ (ap (λ (ts : List Actor). actor.Reaper ∷ (engines ++ ts)) (threads_all script s.courses)
    ∙ ap (λ (all : List Actor). actor.Reaper ∷ all) (sym (append_assoc engines ticketed others)))
