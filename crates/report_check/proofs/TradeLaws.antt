-- What is free once a page goes from one place to another.
use Rattle.std.proofs.Common.{◌≡◌, ℕ, zero, suc, ◌+◌, ◌<◌, ◌≤◌, Bool, true, false, cond, List, [], ◌∷◌, length, Option, Some, None, get_or, refl, sym, ◌∙◌, ap, subst, ⊎_elim, arith}
use Rattle.std.specs.Prelude.{◌&&◌, ◌||◌, not, filter_map, nat_eq, nat_lt, slice_get, slice_set, option_and_then, option_map}
use Rattle.std.proofs.Math.ListN.{length-set}
use Rattle.std.proofs.lemmas.Grind.{common_steps}
use Rattle.std.proofs.lemmas.Bool.Decides.{nat_tests}
use Rattle.std.proofs.lemmas.Bool.{cases_eq, lt-ltb, ne_eqb}
use Rattle.std.proofs.lemmas.List.{get_or-set_same, get_or-set_other}
use Rattle.ttm_base.specs.declared.BufId.{BufId}
use Rattle.ttm_base.specs.declared.Loc.{Loc}
use Rattle.journal_model.specs.declared.script.Script.{Script}
use Rattle.journal_model.specs.declared.state.Core.{Core}
use Rattle.journal_model.specs.declared.state.State.{State}
use Rattle.journal_model.specs.declared.state.Buffer.{Buffer}
use Rattle.journal_model.specs.rules.State.{live_in}
use Rattle.journal_model.specs.rules.Places.{frame_of, slot_of}
use Rattle.journal_model.specs.rules.Holds.{has_number, held_frames, held_slots}
use Rattle.journal_model.specs.rules.ApplyPages.{with_changed, with_loc}
use Rattle.journal_model.specs.statements.Account.{are_distinct}
use Rattle.laws.specs.law_owners.OneOwner.{HaveOneOwner}
use Rattle.laws.proofs.law_owners.Counts.{one, times, summed, weigh}
use Rattle.laws.proofs.law_owners.Weights.{Room, vram_pages, tt_pages, frames, slots, of_buffer, in_ghosts, weight, held, times-held}
use Rattle.laws.proofs.law_owners.Taken.{has_none}
use Rattle.laws.proofs.law_owners.Keeps.{in_loc, times-cons, loc_gain}
use Rattle.rules_holds.specs.declared.free_sets.FreeSets.{FreeSets}
use Rattle.rules_holds.specs.Free.{AreUnheld, AreFree, put}
use Rattle.report_check.specs.Kept.{loc_at}

-- ---- counts

-- a count of which some go, and to which others come
pub record Traded (old gone come new : ℕ) : Type 0 where
  pub rest : ℕ
  pub before : old ≡ rest + gone
  pub after : new ≡ rest + come

-- with more in front, and with more behind
traded_behind : (more old gone come new : ℕ) → Traded old gone come new → Traded (more + old) gone come (more + new)
traded_behind more old gone come new t =
    let before = t.before in
    let after = t.after in
    record { rest = more + t.rest; before = omega (arith, before); after = omega (arith, after) }

traded_before : (old gone come new more : ℕ) → Traded old gone come new → Traded (old + more) gone come (new + more)
traded_before old gone come new more t =
    let before = t.before in
    let after = t.after in
    record { rest = t.rest + more; before = omega (arith, before); after = omega (arith, after) }

-- ---- how often a number is held

-- in a page table, in which a page goes from l to m
table_traded : (f : Loc → Option ℕ) (n : ℕ) (table : List Loc) (page : ℕ) (l m : Loc) → slice_get table page ≡ Some l →
    Traded (times n (filter_map f table)) (in_loc f n l) (in_loc f n m) (times n (filter_map f (slice_set table page m)))
table_traded f n [] page l m there = cc
table_traded f n (x ∷ table) zero l m there =
    let it : x ≡ l = cc in
    let old = times-cons f n l table in
    let new = times-cons f n m table in
    subst (λ y. Traded (times n (filter_map f (y ∷ table))) (in_loc f n l) (in_loc f n m) (times n (filter_map f (m ∷ table)))) (sym it)
    (record { rest = times n (filter_map f table); before = omega (arith, old); after = omega (arith, new) })
table_traded f n (x ∷ table) (suc page) l m there =
    let t = table_traded f n table page l m there in
    let before = t.before in
    let after = t.after in
    let old = times-cons f n x table in
    let new = times-cons f n x (slice_set table page m) in
    record { rest = in_loc f n x + t.rest; before = omega (arith, before, old); after = omega (arith, after, new) }

-- in a buffer
page_traded : (r : Room) (n page : ℕ) (l m : Loc) (x : Buffer) → slice_get x.table page ≡ Some l →
    Traded (of_buffer r n x) (loc_gain r n l) (loc_gain r n m) (of_buffer r n (with_loc page m x))
page_traded vram_pages n page l m x there = record { rest = of_buffer vram_pages n x; before = omega arith; after = omega arith }
page_traded tt_pages n page l m x there = record { rest = of_buffer tt_pages n x; before = omega arith; after = omega arith }
page_traded frames n page l m x there = table_traded frame_of n x.table page l m there
page_traded slots n page l m x there = table_traded slot_of n x.table page l m there

-- in the buffers
buffers_traded : (w : Buffer → ℕ) (buffers : List (Option Buffer)) (i : ℕ) (x y : Buffer) (gone come : ℕ) → slice_get buffers i ≡ Some (Some x) → Traded (w x) gone come (w y) →
    Traded (summed (weigh w) buffers) gone come (summed (weigh w) (slice_set buffers i (Some y)))
buffers_traded w [] i x y gone come there t = cc
buffers_traded w (slot ∷ buffers) zero x y gone come there t =
    let it : slot ≡ Some x = cc in
    subst (λ s. Traded (summed (weigh w) (s ∷ buffers)) gone come (summed (weigh w) (Some y ∷ buffers))) (sym it)
    (traded_before (w x) gone come (w y) (summed (weigh w) buffers) t)
buffers_traded w (slot ∷ buffers) (suc i) x y gone come there t =
    traded_behind (weigh w slot) (summed (weigh w) buffers) gone come (summed (weigh w) (slice_set buffers i (Some y))) (buffers_traded w buffers i x y gone come there t)

-- a live buffer is among them
pub live_slot : (found : Option (Option Buffer)) (x : Buffer) → option_and_then (λ y. y) found ≡ Some x → found ≡ Some (Some x)
live_slot None x h = cc
live_slot (Some slot) x h = ap (λ s. Some s) h

-- in all
core_traded : (r : Room) (n : ℕ) (s : State) (b : BufId) (page : ℕ) (l m : Loc) (x : Buffer) → live_in s.core.buffers b ≡ Some x → slice_get x.table page ≡ Some l →
    Traded (weight r n s.core) (loc_gain r n l) (loc_gain r n m) (weight r n (with_changed (with_loc page m) b s).core)
core_traded r n s b page l m x live there =
    let t = buffers_traded (of_buffer r n) s.core.buffers b.0 x (with_loc page m x) (loc_gain r n l) (loc_gain r n m) (live_slot (slice_get s.core.buffers b.0) x live) (page_traded r n page l m x there) in
    let set : slice_set s.core.buffers b.0 (Some (with_loc page m x)) ≡ slice_set s.core.buffers b.0 (option_map (with_loc page m) (live_in s.core.buffers b)) =
    ap (λ o. slice_set s.core.buffers b.0 (option_map (with_loc page m) o)) (sym live) in
    subst (λ buffers. Traded (weight r n s.core) (loc_gain r n l) (loc_gain r n m) (summed (weigh (of_buffer r n)) buffers + in_ghosts r n s.core.ghosts)) set
    (traded_before (summed (weigh (of_buffer r n)) s.core.buffers) (loc_gain r n l) (loc_gain r n m) (summed (weigh (of_buffer r n)) (slice_set s.core.buffers b.0 (Some (with_loc page m x)))) (in_ghosts r n s.core.ghosts) t)

-- ---- the numbers that are free

-- a number is in a list that has it at least once
pub has_times : (ns : List ℕ) (n : ℕ) → has_number ns n ≡ nat_lt 0 (times n ns)
has_times [] n = refl
has_times (m ∷ ns) n = by (nat_eq n m) (has_times ns n)
  where
    by : (q : Bool) → has_number ns n ≡ nat_lt 0 (times n ns) → (q || has_number ns n) ≡ nat_lt 0 (one q + times n ns)
    by true rest = sym (lt-ltb 0 (1 + times n ns) (omega arith))
    by false rest = let same : times n ns ≡ 0 + times n ns = omega arith in rest ∙ ap (nat_lt 0) same

-- once at most, where the numbers are distinct
one_most : (q : Bool) → one q ≤ 1
one_most true = omega arith
one_most false = omega arith

not_both : (p q : Bool) → (not p && q) ≡ true → (p ≡ false) × (q ≡ true)
not_both true q h = cc
not_both false q h = (refl, h)

pub times_once : (ns : List ℕ) → are_distinct ns ≡ true → (n : ℕ) → times n ns ≤ 1
times_once [] h n = omega arith
times_once (m ∷ ns) h n =
    let parts = not_both (has_number ns m) (are_distinct ns) h in
    let none = has_none m ns parts.0 in
    let rest = times_once ns parts.1 n in
    ⊎_elim (λ e. subst (λ k. one (nat_eq k m) + times k ns ≤ 1) (sym e) (let most = one_most (nat_eq m m) in omega (arith, none, most)))
    (λ d. let other : one (nat_eq n m) ≡ 0 = ap one (ne_eqb n m d) in omega (arith, rest, other)) (cases_eq n m)

-- the mark of a number after one was put
put_at : (on : Bool) (free : List Bool) (o : Option ℕ) (n : ℕ) → n < length free → get_or (put on free o) n false ≡ cond (nat_lt 0 (weigh (λ k. one (nat_eq n k)) o)) on (get_or free n false)
put_at on free None n l = refl
put_at on free (Some k) n l = grind (arith, common_steps, nat_tests, get_or-set_same, get_or-set_other, cases_eq n k)

length-put : (on : Bool) (free : List Bool) (o : Option ℕ) → length (put on free o) ≡ length free
length-put on free None = refl
length-put on free (Some k) = length-set free k on

-- what is free of a number that is held once at most: it was given back, or not taken
pub unheld_is : (w w' gone come : ℕ) → w ≤ 1 → Traded w gone come w' → cond (nat_lt 0 come) false (cond (nat_lt 0 gone) true (not (nat_lt 0 w))) ≡ not (nat_lt 0 w')
unheld_is w w' gone (suc come) once t =
    let after = t.after in
    ap (λ q. cond q false (cond (nat_lt 0 gone) true (not (nat_lt 0 w)))) (lt-ltb 0 (suc come) (omega arith)) ∙ sym (ap not (lt-ltb 0 w' (omega (arith, after))))
unheld_is w w' (suc gone) zero once t =
    let before = t.before in
    let after = t.after in
    let none : w' ≡ 0 = omega (arith, once, before, after) in
    ap (λ q. cond q true (not (nat_lt 0 w))) (lt-ltb 0 (suc gone) (omega arith)) ∙ sym (ap (λ k. not (nat_lt 0 k)) none)
unheld_is w w' zero zero once t =
    let before = t.before in
    let after = t.after in
    let same : w ≡ w' = omega (arith, before, after) in
    ap (λ k. not (nat_lt 0 k)) same

-- the free numbers once a page goes from l to m
unheld_traded : (size : ℕ) (old new : List ℕ) (free : List Bool) (f : Loc → Option ℕ) (l m : Loc) → are_distinct old ≡ true
    → ((n : ℕ) → Traded (times n old) (in_loc f n l) (in_loc f n m) (times n new)) → AreUnheld size old free → AreUnheld size new (put false (put true free (f l)) (f m))
unheld_traded size old new free f l m distinct traded u = record {
  len = length-put false (put true free (f l)) (f m) ∙ length-put true free (f l) ∙ u.len;
  unheld = λ n within.
      let len = u.len in
      let given = length-put true free (f l) in
      put_at false (put true free (f l)) (f m) n (omega (arith, within, len, given))
      ∙ ap (cond (nat_lt 0 (in_loc f n m)) false)
      (put_at true free (f l) n (omega (arith, within, len)) ∙ ap (cond (nat_lt 0 (in_loc f n l)) true) (u.unheld n within ∙ ap not (has_times old n)))
      ∙ unheld_is (times n old) (times n new) (in_loc f n l) (in_loc f n m) (times_once old distinct n) (traded n)
      ∙ sym (ap not (has_times new n));
}

-- by number in place of by weight
pub counted : (r : Room) (n : ℕ) (c d : Core) (gone come : ℕ) → Traded (weight r n c) gone come (weight r n d) → Traded (times n (held r c)) gone come (times n (held r d))
counted r n c d gone come t =
    let old = times-held r n c in
    let new = times-held r n d in
    let before = t.before in
    let after = t.after in
    record { rest = t.rest; before = omega (arith, old, before); after = omega (arith, new, after) }

-- the live buffer that has the page
page_there : (found : Option Buffer) (page : ℕ) (l : Loc) → option_and_then (λ x. slice_get x.table page) found ≡ Some l → (x : Buffer) × (found ≡ Some x) × (slice_get x.table page ≡ Some l)
page_there None page l h = cc
page_there (Some x) page l h = (x, refl, h)

-- what is free in the state in which the page has gone
pub free_traded : (script : Script) (s : State) (b : BufId) (page : ℕ) (l m : Loc) (free given new : FreeSets) → HaveOneOwner script s.core → loc_at s.core b page ≡ Some l
    → given.frames ≡ put true free.frames (frame_of l) → given.slots ≡ put true free.slots (slot_of l) → new.frames ≡ put false given.frames (frame_of m) → new.slots ≡ put false given.slots (slot_of m)
    → AreFree script s.core free → AreFree script (with_changed (with_loc page m) b s).core new
free_traded script s b page l m free given new owner there fg sg fn sn are =
    let p = page_there (live_in s.core.buffers b) page l there in
    let after : Core = (with_changed (with_loc page m) b s).core in
    let by_frames = λ (n : ℕ). core_traded frames n s b page l m p.0 p.1 p.2 in
    let by_slots = λ (n : ℕ). core_traded slots n s b page l m p.0 p.1 p.2 in
    record {
      frames =
          subst (AreUnheld script.sizes.frames (held_frames after)) (sym (fn ∙ ap (λ f. put false f (frame_of m)) fg))
          (unheld_traded script.sizes.frames (held_frames s.core) (held_frames after) free.frames frame_of l m owner.frames.distinct
          (λ n. counted frames n s.core after (in_loc frame_of n l) (in_loc frame_of n m) (by_frames n)) are.frames);
      slots =
          subst (AreUnheld script.sizes.swap (held_slots after)) (sym (sn ∙ ap (λ f. put false f (slot_of m)) sg))
          (unheld_traded script.sizes.swap (held_slots s.core) (held_slots after) free.slots slot_of l m owner.slots.distinct
          (λ n. counted slots n s.core after (in_loc slot_of n l) (in_loc slot_of n m) (by_slots n)) are.slots);
    }
