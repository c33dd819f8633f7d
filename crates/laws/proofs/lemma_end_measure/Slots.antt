-- Which slots are free, and what victims of swap may still cost.
use Rattle.std.proofs.Common.{◌≡◌, ℕ, ◌≤◌, ◌+◌, zero, suc, Bool, true, false, List, [], ◌∷◌, Option, Some, None, refl, sym, ◌∙◌, ap, arith, ⊎_elim}
use Rattle.std.specs.Prelude.{slice_set, filter_map, flat_map, find, cond, not, is_some, nat_eq, sum_by, ◌||◌, ◌&&◌, if◌then◌else◌}
use Rattle.std.specs.List.{enumerate_from}
use Rattle.std.proofs.lemmas.Bool.{or_cases, or_left, or_right, not-true, not_from_false, false_from_ne_true}
use Rattle.std.proofs.lemmas.List.Folds.{list_any-append}
use Rattle.std.proofs.lemmas.List.Sums.{sum_by-cons}
use Rattle.ttm_base.specs.ListWords.{count_from}
use Rattle.journal_model.specs.declared.script.Script.{Script}
use Rattle.journal_model.specs.declared.state.State.{State}
use Rattle.journal_model.specs.declared.state.Core.{Core}
use Rattle.journal_model.specs.declared.state.Buffer.{Buffer}
use Rattle.journal_model.specs.declared.state.Victim.{Victim}
use Rattle.journal_model.specs.declared.entry.Why.TheVariants as why
use Rattle.journal_model.specs.declared.entry.Why.{Why}
use Rattle.ttm_base.specs.declared.Mem.TheVariants.{System}
use Rattle.ttm_base.specs.declared.BufId.{BufId}
use Rattle.journal_model.specs.rules.Search.{is_caught}
use Rattle.journal_model.specs.rules.State.{buffer, has_target, has_buffer, same_buffer, course}
use Rattle.journal_model.specs.rules.Places.{slots_of}
use Rattle.journal_model.specs.rules.Dry.{has_frame}
use Rattle.journal_model.specs.rules.Holds.{live_entry, held_slots, has_number, free_slot}
use Rattle.laws.proofs.law_sound.Measure.{slot_debt, slot_debts}
use Rattle.laws.proofs.law_sound.Bufs.{victims_of, same_self}

-- ---- fewer slots

-- one holds no slot but those of the other
abbrev pub OneFewer : Option Buffer → Option Buffer → Type 0
OneFewer x None = Unit {0}
OneFewer None (Some y) = (n : ℕ) → has_number (slots_of y) n ≡ true → ⊥
OneFewer (Some x) (Some y) = (n : ℕ) → has_number (slots_of y) n ≡ true → has_number (slots_of x) n ≡ true

abbrev pub Fewer : List (Option Buffer) → List (Option Buffer) → Type 0
Fewer [] [] = Unit {0}
Fewer (x ∷ xs) (y ∷ ys) = OneFewer x y × Fewer xs ys
Fewer [] (y ∷ ys) = ⊥
Fewer (x ∷ xs) [] = ⊥

pub same_one : (x : Option Buffer) → OneFewer x x
same_one None = tt
same_one (Some x) = λ n h. h

pub same_all : (xs : List (Option Buffer)) → Fewer xs xs
same_all [] = tt
same_all (x ∷ xs) = (same_one x, same_all xs)

pub through_one : (x y z : Option Buffer) → OneFewer x y → OneFewer y z → OneFewer x z
through_one x y None h k = tt
through_one None None (Some z) h k = k
through_one (Some x) None (Some z) h k = λ n q. absurd (k n q)
through_one None (Some y) (Some z) h k = λ n q. h n (k n q)
through_one (Some x) (Some y) (Some z) h k = λ n q. h n (k n q)

pub through_all : (xs ys zs : List (Option Buffer)) → Fewer xs ys → Fewer ys zs → Fewer xs zs
through_all [] [] [] h k = tt
through_all [] [] (z ∷ zs) h k = k
through_all [] (y ∷ ys) zs h k = absurd h
through_all (x ∷ xs) [] zs h k = absurd h
through_all (x ∷ xs) (y ∷ ys) [] h k = absurd k
through_all (x ∷ xs) (y ∷ ys) (z ∷ zs) h k = (through_one x y z h.0 k.0, through_all xs ys zs h.1 k.1)

-- a buffer gone
pub gone_fewer : (xs : List (Option Buffer)) (i : ℕ) → Fewer xs (slice_set xs i None)
gone_fewer [] i = tt
gone_fewer (x ∷ xs) zero = (tt, same_all xs)
gone_fewer (x ∷ xs) (suc i) = (same_one x, gone_fewer xs i)

pub slots_from : (k : ℕ) (xs ys : List (Option Buffer)) → Fewer xs ys → (n : ℕ) → has_number (flat_map (λ e. slots_of e.1) (filter_map live_entry (enumerate_from k ys))) n ≡ true →
    has_number (flat_map (λ e. slots_of e.1) (filter_map live_entry (enumerate_from k xs))) n ≡ true
slots_from k [] [] h n q = q
slots_from k [] (y ∷ ys) h n q = absurd h
slots_from k (x ∷ xs) [] h n q = absurd h
slots_from k (None ∷ xs) (None ∷ ys) h n q = slots_from (k + 1) xs ys h.1 n q
slots_from k (Some x ∷ xs) (None ∷ ys) h n q =
    list_any-append (nat_eq n) (slots_of x) _ ∙ or_right (has_number (slots_of x) n) _ (slots_from (k + 1) xs ys h.1 n q)
slots_from k (None ∷ xs) (Some y ∷ ys) h n q =
    ⊎_elim (λ a. absurd (h.0 n a)) (λ a. slots_from (k + 1) xs ys h.1 n a) (or_cases (has_number (slots_of y) n) _ (sym (list_any-append (nat_eq n) (slots_of y) _) ∙ q))
slots_from k (Some x ∷ xs) (Some y ∷ ys) h n q =
    list_any-append (nat_eq n) (slots_of x) _
    ∙ ⊎_elim (λ a. or_left (has_number (slots_of x) n) _ (h.0 n a)) (λ a. or_right (has_number (slots_of x) n) _ (slots_from (k + 1) xs ys h.1 n a)) (or_cases (has_number (slots_of y) n) _ (sym (list_any-append (nat_eq n) (slots_of y) _) ∙ q))

pub find_more : (p q : ℕ → Bool) (xs : List ℕ) → ((x : ℕ) → p x ≡ true → q x ≡ true) → is_some (find p xs) ≡ true → is_some (find q xs) ≡ true
find_more p q [] h k = k
find_more p q (x ∷ xs) h k = by (p x) (q x) (h x) k (λ z. find_more p q xs h z)
  where
    by : (a b : Bool) → (a ≡ true → b ≡ true) → is_some (cond a (Some x) (find p xs)) ≡ true → (is_some (find p xs) ≡ true → is_some (find q xs) ≡ true) → is_some (cond b (Some x) (find q xs)) ≡ true
    by a true m w rest = refl
    by true false m w rest = absurd (let z : false ≡ true = m refl in cc)
    by false false m w rest = rest w

-- with fewer slots held, one stays free
pub slot_stays : (script : Script) (c c' : Core) → Fewer c.buffers c'.buffers → is_some (free_slot script c) ≡ true → is_some (free_slot script c') ≡ true
slot_stays script c c' h k =
    find_more (λ n. not (has_number (held_slots c) n)) (λ n. not (has_number (held_slots c') n)) (count_from 1 script.sizes.swap 0)
    (λ n q. not_from_false (has_number (held_slots c') n) (false_from_ne_true (has_number (held_slots c') n) (λ z. clash (sym (slots_from 0 c.buffers c'.buffers h n z) ∙ not-true (has_number (held_slots c) n) q))))
    k
  where
    clash : true ≡ false → ⊥
    clash h = cc

-- ---- debts

pub debt_most : (a b : Bool) (x : Buffer) (v : Victim) → (a ≡ true → b ≡ true) → slot_debt b x v ≤ slot_debt a x v
debt_most a b x v h = by v.why a b (has_target System x) (has_frame x) h
  where
    by : (w : Why) (a b p q : Bool) → (a ≡ true → b ≡ true) →
        elim w [ why.Swap ↦ if p || (q && b) then 0 else 2097160 | why.Tt ↦ 0 | why.Vram ↦ 0 ] ≤ elim w [ why.Swap ↦ if p || (q && a) then 0 else 2097160 | why.Tt ↦ 0 | why.Vram ↦ 0 ]
    by why.Tt a b p q h = omega arith
    by why.Vram a b p q h = omega arith
    by why.Swap a true true q h = omega arith
    by why.Swap a true false true h = omega arith
    by why.Swap a true false false h = omega arith
    by why.Swap false false p q h = omega arith
    by why.Swap true false p q h = absurd (let z : false ≡ true = h refl in cc)

pub debts_from : (s s' : State) (a b : Bool) → (a ≡ true → b ≡ true) → (vs : List Victim) → ((v : Victim) → has_buffer (victims_of vs) v.b ≡ true → buffer s' v.b ≡ buffer s v.b) →
    sum_by (λ v. slot_debt b (buffer s' v.b) v) vs ≤ sum_by (λ v. slot_debt a (buffer s v.b) v) vs
debts_from s s' a b h [] same = omega arith
debts_from s s' a b h (v ∷ vs) same =
    let is : slot_debt b (buffer s' v.b) v ≡ slot_debt b (buffer s v.b) v = ap (λ x. slot_debt b x v) (same v (or_left (same_buffer v.b v.b) (has_buffer (victims_of vs) v.b) (same_self v.b))) in
    let here = debt_most a b (buffer s v.b) v h in
    let rest = debts_from s s' a b h vs (λ w k. same w (or_right (same_buffer w.b v.b) (has_buffer (victims_of vs) w.b) k)) in
    let now = sum_by-cons (λ v. slot_debt b (buffer s' v.b) v) v vs in
    let was = sum_by-cons (λ v. slot_debt a (buffer s v.b) v) v vs in
    omega (arith, is, here, rest, now, was)

-- a thread's debts don't rise where its victims stay and a slot stays free
pub debts_keep : (script : Script) (s s' : State) (u : ℕ) → course s' u ≡ course s u → Fewer s.core.buffers s'.core.buffers → ((b : BufId) → is_caught (course s u) b ≡ true → buffer s' b ≡ buffer s b) →
    slot_debts script s' u ≤ slot_debts script s u
debts_keep script s s' u e fewer same =
    let now : slot_debts script s' u ≡ sum_by (λ v. slot_debt (is_some (free_slot script s'.core)) (buffer s' v.b) v) (course s u).caught =
    ap (λ c. sum_by (λ v. slot_debt (is_some (free_slot script s'.core)) (buffer s' v.b) v) c.caught) e in
    let less = debts_from s s' (is_some (free_slot script s.core)) (is_some (free_slot script s'.core)) (slot_stays script s.core s'.core fewer) (course s u).caught (λ v k. same v.b k) in
    omega (arith, now, less)

-- nobody caught: no debt
pub no_debts : (script : Script) (s : State) (u : ℕ) → (course s u).caught ≡ [] → slot_debts script s u ≡ 0
no_debts script s u e = ap (λ vs. sum_by (λ v. slot_debt (is_some (free_slot script s.core)) (buffer s v.b) v) vs) e
