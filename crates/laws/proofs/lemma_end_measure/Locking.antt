-- Reservations and backoffs lower the measure.
use Rattle.std.proofs.Common.{◌≡◌, ℕ, ◌<◌, ◌≤◌, ◌+◌, zero, suc, Bool, true, false, List, [], ◌∷◌, ◌++◌, length, Option, Some, None, refl, sym, ◌∙◌, ap, ap₂, subst, arith, ◌⊎◌, inl, inr, ⊎_elim}
use Rattle.std.specs.Prelude.{sum_by, count_by, cond, filter_map, find, not, unwrap_or, is_none, nat_lt, option_map, option_to_list, ◌==◌, ◌&&◌}
use Rattle.std.specs.List.{cons_option}
use Rattle.std.proofs.lemmas.Bool.{cases_eq, and_parts, or_cases, both_ways, not-false, not_from_true, not-true, not_from_false, false_from_ne_true}
use Rattle.std.proofs.lemmas.Bool.Decides.{nat_tests}
use Rattle.std.proofs.lemmas.List.Sums.{sum_by-cons}
use Rattle.ttm_base.specs.ListWords.{count_from}
use Rattle.ttm_base.specs.declared.BufId.{BufId}
use Rattle.ttm_base.specs.declared.Stamp.{Stamp}
use Rattle.ttm_base.specs.declared.Actor.TheVariants as actor
use Rattle.journal_model.specs.declared.script.Script.{Script}
use Rattle.journal_model.specs.declared.script.Command.{Command}
use Rattle.journal_model.specs.declared.state.State.{State}
use Rattle.journal_model.specs.declared.state.Course.{Course}
use Rattle.journal_model.specs.declared.entry.Kind.{Kind}
use Rattle.journal_model.specs.declared.entry.Kind.TheVariants as kind
use Rattle.journal_model.specs.rules.State.{new_buffer, course, reservation, is_live, same_buffer, has_buffer}
use Rattle.journal_model.specs.rules.Commands.{named}
use Rattle.journal_model.specs.rules.Tasks.{first_missing}
use Rattle.journal_model.specs.rules.Next.{backs_off}
use Rattle.journal_model.specs.rules.Apply.{applied}
use Rattle.journal_model.specs.statements.Complete.{thread_numbers}
use Rattle.journal_model.specs.statements.Scheduled.{Ticketed, ticketed}
use Rattle.laws.specs.law_sound.Sound.{command_of}
use Rattle.laws.proofs.law_sound.DeadEnds.{command_is}
use Rattle.laws.proofs.law_sound.Measure.{left_of_buffer, job_left, is_elder, number_of, waits_for_elder, missing_of, missing, locks_left, locking_left, command_left, thread_left, slot_debts, measure}
use Rattle.laws.proofs.law_sound.Along.{Stepped}
use Rattle.laws.proofs.law_sound.Bufs.{same_is, has_more, has_new, missing_is_named, missing_not_held}
use Rattle.laws.proofs.law_sound.Steadies.{next_course, own_course}
use Rattle.laws.proofs.law_sound.Owners.{none_or}
use Rattle.laws.proofs.law_sound.Reservations.{reservation_other, released_other}
use Rattle.laws.proofs.lemma_end_measure.Locks.{digit, Each, Among, missing_most, locks_fall, backoff_lowers}
use Rattle.laws.proofs.lemma_end_measure.Frame.{left_of, left_is, others_left}
use Rattle.laws.proofs.lemma_end_measure.Working.{phase, phase_is, working_most}
use Rattle.laws.proofs.lemma_end_measure.Slots.{Fewer, same_all, debts_keep, no_debts}
use Rattle.laws.proofs.lemma_end_measure.Sums.{sum_one}
use Rattle.laws.proofs.lemma_end_measure.Border.{Known, shared, range, one, others_same, own_is, own_was, own_now}

-- ---- what is missing

-- what a thread misses, by its course
abbrev pub missing_in : Script → ℕ → Course → ℕ
missing_in script u c = elim (is_none c.stamp) [ true ↦ 0 | false ↦ elim (command_of script u c) [ None ↦ 0 | Some cmd ↦ missing_of c cmd ] ]

pub missing_is : (script : Script) (s : State) → length s.courses ≡ length script.threads → (u : ℕ) → missing script s u ≡ missing_in script u (course s u)
missing_is script s l u = ap (λ o. elim (is_none (course s u).stamp) [ true ↦ 0 | false ↦ elim o [ None ↦ 0 | Some cmd ↦ missing_of (course s u) cmd ] ]) (command_is script s l u)

-- a thread with a stamp at a command
missing_at : (script : Script) (u : ℕ) (c : Course) (st : Stamp) (cmd : Command) → c.stamp ≡ Some st → command_of script u c ≡ Some cmd → missing_in script u c ≡ missing_of c cmd
missing_at script u c st cmd e at =
    ap (λ q. elim q [ true ↦ 0 | false ↦ elim (command_of script u c) [ None ↦ 0 | Some x ↦ missing_of c x ] ]) (ap is_none e) ∙ ap (λ o. elim o [ None ↦ 0 | Some x ↦ missing_of c x ]) at

count_less : (p q : BufId → Bool) (bs : List BufId) → ((x : BufId) → p x ≡ true → q x ≡ true) → count_by p bs ≤ count_by q bs
count_less p q [] h = omega arith
count_less p q (x ∷ bs) h =
    let rest = count_less p q bs h in
    let a : count_by p (x ∷ bs) ≡ cond (p x) 1 0 + count_by p bs = sum_by-cons (λ y. cond (p y) 1 0) x bs in
    let b : count_by q (x ∷ bs) ≡ cond (q x) 1 0 + count_by q bs = sum_by-cons (λ y. cond (q y) 1 0) x bs in
    let here : cond (p x) 1 0 ≤ cond (q x) 1 0 = by (p x) (q x) (h x) in
    omega (arith, rest, a, b, here)
  where
    by : (a b : Bool) → (a ≡ true → b ≡ true) → cond a 1 0 ≤ cond b 1 0
    by true true k = omega arith
    by true false k = absurd (let z : false ≡ true = k refl in cc)
    by false b k = omega arith

-- one test that passed fails
count_falls : (p q : BufId → Bool) (b : BufId) (bs : List BufId) → ((x : BufId) → p x ≡ true → q x ≡ true) → p b ≡ false → q b ≡ true → has_buffer bs b ≡ true → count_by p bs + 1 ≤ count_by q bs
count_falls p q b [] h no_more one_more k = cc
count_falls p q b (x ∷ bs) h no_more one_more k =
    let a : count_by p (x ∷ bs) ≡ cond (p x) 1 0 + count_by p bs = sum_by-cons (λ y. cond (p y) 1 0) x bs in
    let c : count_by q (x ∷ bs) ≡ cond (q x) 1 0 + count_by q bs = sum_by-cons (λ y. cond (q y) 1 0) x bs in
    ⊎_elim
    (λ e.
    let is : b ≡ x = same_is b x e in
    let now : ◌≡◌ {A = ℕ} (cond (p x) 1 0) 0 = ap (λ t. cond t 1 0) (subst (λ z. p z ≡ false) is no_more) in
    let was : ◌≡◌ {A = ℕ} (cond (q x) 1 0) 1 = ap (λ t. cond t 1 0) (subst (λ z. q z ≡ true) is one_more) in
    let rest = count_less p q bs h in
    omega (arith, a, c, now, was, rest))
    (λ e.
    let rest = count_falls p q b bs h no_more one_more e in
    let here : cond (p x) 1 0 ≤ cond (q x) 1 0 = by (p x) (q x) (h x) in
    omega (arith, a, c, rest, here))
    (or_cases (same_buffer b x) (has_buffer bs b) k)
  where
    by : (a b : Bool) → (a ≡ true → b ≡ true) → cond a 1 0 ≤ cond b 1 0
    by true true k = omega arith
    by true false k = absurd (let z : false ≡ true = k refl in cc)
    by false b k = omega arith

-- with a further buffer held, one is missing less
pub reserved_misses : (held bs : List BufId) (b : BufId) → has_buffer bs b ≡ true → has_buffer held b ≡ false → count_by (λ x. not (has_buffer (held ++ b ∷ []) x)) bs + 1 ≤ count_by (λ x. not (has_buffer held x)) bs
reserved_misses held bs b h out =
    count_falls (λ x. not (has_buffer (held ++ b ∷ []) x)) (λ x. not (has_buffer held x)) b bs
    (λ x k. not_from_false (has_buffer held x) (false_from_ne_true (has_buffer held x) (λ z. both_ways (has_buffer (held ++ b ∷ []) x) (not-true (has_buffer (held ++ b ∷ []) x) k) (has_more held b x z))))
    (not_from_true (has_buffer (held ++ b ∷ []) b) (has_new held b)) (not_from_false (has_buffer held b) out) h

-- ---- who waits for an elder

-- a thread that waits for an elder
pub record Waits (s : State) (c : Course) : Type 0 where
  pub first : BufId
  pub holder : Stamp
  pub is_first : c.first ≡ Some first
  pub empty : c.held ≡ []
  pub held : (reservation s first).holder ≡ Some holder
  pub elder : is_elder (number_of c.stamp) (Some holder.0) ≡ true

pub waits_of : (s : State) (c : Course) → waits_for_elder s c ≡ true → Waits s c
waits_of s c h = by_first c.first refl h
  where
    none_elder : (o : Option ℕ) → is_elder o None ≡ true → ⊥
    none_elder None k = cc
    none_elder (Some n) k = cc

    nothing : (bs : List BufId) → (length bs == 0) ≡ true → bs ≡ []
    nothing [] k = refl
    nothing (b ∷ bs) k = absurd (grind (arith, nat_tests))

    by_holder : (b : BufId) → c.first ≡ Some b → (length c.held == 0) ≡ true → (o : Option Stamp) → (reservation s b).holder ≡ o → is_elder (number_of c.stamp) (number_of o) ≡ true → Waits s c
    by_holder b f l None g k = absurd (none_elder (number_of c.stamp) k)
    by_holder b f l (Some st) g k = record { first = b; holder = st; is_first = f; empty = nothing c.held l; held = g; elder = k }

    by_first : (o : Option BufId) → c.first ≡ o → elim o [ None ↦ false | Some b ↦ (length c.held == 0) && is_elder (number_of c.stamp) (number_of (reservation s b).holder) ] ≡ true → Waits s c
    by_first None f k = cc
    by_first (Some b) f k =
        let p = and_parts (length c.held == 0) (is_elder (number_of c.stamp) (number_of (reservation s b).holder)) k in
        by_holder b f p.0 (reservation s b).holder refl p.1

pub waits_from : (s : State) (c : Course) → Waits s c → waits_for_elder s c ≡ true
waits_from s c w =
    ap (λ o. elim o [ None ↦ false | Some b ↦ (length c.held == 0) && is_elder (number_of c.stamp) (number_of (reservation s b).holder) ]) w.is_first
    ∙ (ap (λ bs. (length bs == 0) && is_elder (number_of c.stamp) (number_of (reservation s w.first).holder)) w.empty
    ∙ (ap (λ o. is_elder (number_of c.stamp) (number_of o)) w.held ∙ w.elder))

-- who waits for an elder wants what the elder holds
waits_misses : (s : State) (c : Course) (cmd : Command) (w : Waits s c) → first_missing c cmd ≡ Some w.first
waits_misses s c cmd w = ap₂ (λ h o. find (λ b. not (has_buffer h b)) (option_to_list o ++ named cmd)) w.empty w.is_first

module _ (script : Script) (s : State) (t : ℕ) (k : Kind) (known : Known script s) (st : Stepped script s t k) where
  pub stamps_same : (next_course script s t k).stamp ≡ (course s t).stamp → (u : ℕ) → (course (applied script s (actor.Thread t) k) u).stamp ≡ (course s u).stamp
  stamps_same e u =
      ⊎_elim
      (λ q. subst (λ v. (course (applied script s (actor.Thread t) k) v).stamp ≡ (course s v).stamp) (sym q) (ap (λ c. c.stamp) (own_course script s t k st.here) ∙ e))
      (λ n. ap (λ c. c.stamp) ((one script s t k known st).others u n))
      (cases_eq u t)

  pub missing_other : (u : ℕ) → (u ≡ t → ⊥) → missing script (applied script s (actor.Thread t) k) u ≡ missing script s u
  missing_other u n =
      missing_is script (applied script s (actor.Thread t) k) ((one script s t k known st).lengths.courses ∙ known.owned.courses) u
      ∙ (ap (missing_in script u) ((one script s t k known st).others u n) ∙ sym (missing_is script s known.owned.courses u))

  pub missing_own : missing script (applied script s (actor.Thread t) k) t ≡ missing_in script t (next_course script s t k)
  missing_own =
      missing_is script (applied script s (actor.Thread t) k) ((one script s t k known st).lengths.courses ∙ known.owned.courses) t
      ∙ ap (missing_in script t) (own_course script s t k st.here)

  -- locks fall, and nothing else rises
  lock_falls : (next_course script s t k).caught ≡ [] → (applied script s (actor.Thread t) k).core ≡ s.core
      → left_of script (applied script s (actor.Thread t) k) t (next_course script s t k) ≤ left_of script s t (course s t)
      → locks_left script (applied script s (actor.Thread t) k) + 1 ≤ locks_left script s → measure script (applied script s (actor.Thread t) k) + 1 ≤ measure script s
  lock_falls empty core less locks =
      let r = range script s t k known st in
      let a = r.0 in
      let b = r.1 in
      let threads = sum_one (thread_left script (applied script s (actor.Thread t) k)) (thread_left script s) t (length script.threads) 1 a b
      (λ u n. let e = others_left script s (applied script s (actor.Thread t) k) t u (one script s t k known st) known.owned.courses n (λ d h. others_same script s t k known st u d n h) in omega (arith, e)) in
      let debts = sum_one (slot_debts script (applied script s (actor.Thread t) k)) (slot_debts script s) t (length script.threads) 1 a b
      (λ u n. debts_keep script s (applied script s (actor.Thread t) k) u ((one script s t k known st).others u n) (subst (λ c. Fewer s.core.buffers c.buffers) (sym core) (same_all s.core.buffers))
      (λ d h. ap (λ p. unwrap_or p (new_buffer 0)) (others_same script s t k known st u d n (inr h)))) in
      let mine = own_is script s t k known st in
      let was = left_is script s known.owned.courses t in
      let none = no_debts script (applied script s (actor.Thread t) k) t (ap (λ c. c.caught) (own_course script s t k st.here) ∙ empty) in
      let same : shared (applied script s (actor.Thread t) k) ≡ shared s = ap (λ c. sum_by left_of_buffer c.buffers + sum_by job_left c.jobs + length c.ghosts) core in
      omega (arith, threads, debts, mine, was, none, less, locks, same)

-- ---- a reservation

module _ (script : Script) (s : State) (t : ℕ) (b : BufId) (stamp : Stamp) (known : Known script s) (st : Stepped script s t (kind.Reserve b)) (e : (course s t).stamp ≡ Some stamp) (made : (course s t).made ≡ false)
    (wants : first_missing (course s t) st.step.cmd ≡ Some b) (free : (reservation s b).holder ≡ None) (alone : (course s t).caught ≡ []) where
  some_is : (x y : BufId) → Some x ≡ Some y → x ≡ y
  some_is x y q = cc

  digits_keep : (x : Ticketed) → digit s x ≡ false → digit (applied script s (actor.Thread t) (kind.Reserve b)) x ≡ false
  digits_keep x h = by (cases_eq x.thread t)
    where
      waits : Waits s (course s x.thread)
      waits = waits_of s (course s x.thread) (not-false (waits_for_elder s (course s x.thread)) h)

      by : (x.thread ≡ t) ⊎ (x.thread ≡ t → ⊥) → digit (applied script s (actor.Thread t) (kind.Reserve b)) x ≡ false
      by (inl q) =
          let mine : Waits s (course s t) = subst (λ u. Waits s (course s u)) q waits in
          let it : mine.first ≡ b = some_is mine.first b (sym (waits_misses s (course s t) st.step.cmd mine) ∙ wants) in
          absurd (none_or (reservation s b).holder mine.holder free (subst (λ z. (reservation s z).holder ≡ Some mine.holder) it mine.held))
      by (inr n) =
          let other : waits.first ≡ b → ⊥ = λ q. none_or (reservation s b).holder waits.holder free (subst (λ z. (reservation s z).holder ≡ Some waits.holder) q waits.held) in
          let held : (reservation (applied script s (actor.Thread t) (kind.Reserve b)) waits.first).holder ≡ Some waits.holder = ap (λ g. g.holder) (reservation_other s.reservations b waits.first _ other) ∙ waits.held in
          not_from_true (waits_for_elder (applied script s (actor.Thread t) (kind.Reserve b)) (course (applied script s (actor.Thread t) (kind.Reserve b)) x.thread))
          (ap (waits_for_elder (applied script s (actor.Thread t) (kind.Reserve b))) ((one script s t (kind.Reserve b) known st).others x.thread n)
          ∙ waits_from (applied script s (actor.Thread t) (kind.Reserve b)) (course s x.thread) (record { first = waits.first; holder = waits.holder; is_first = waits.is_first; empty = waits.empty; held = held; elder = waits.elder }))

  reserve_locks : locks_left script (applied script s (actor.Thread t) (kind.Reserve b)) + 1 ≤ locks_left script s
  reserve_locks =
      let r = range script s t (kind.Reserve b) known st in
      locks_fall script s (applied script s (actor.Thread t) (kind.Reserve b)) (stamps_same script s t (kind.Reserve b) known st refl) t r.0 r.1 digits_keep
      (λ u n. let m = missing_other script s t (kind.Reserve b) known st u n in omega (arith, m))
      (let now = missing_own script s t (kind.Reserve b) known st in
      let here = missing_at script t (record (course s t) { held = (course s t).held ++ b ∷ [] }) stamp st.step.cmd e st.at in
      let was = missing_is script s known.owned.courses t in
      let before = missing_at script t (course s t) stamp st.step.cmd e st.at in
      let fewer = reserved_misses (course s t).held (named st.step.cmd) b (missing_is_named (course s t) st.step.cmd b wants ((known.owned.steady t).named_first b st.step.cmd st.at)) (missing_not_held (course s t) st.step.cmd b wants) in
      omega (arith, now, here, was, before, fewer))

  pub reserve_falls : measure script (applied script s (actor.Thread t) (kind.Reserve b)) + 1 ≤ measure script s
  reserve_falls =
      lock_falls script s t (kind.Reserve b) known st alone refl
      (let now = own_now script s t (kind.Reserve b) known st (applied script s (actor.Thread t) (kind.Reserve b)) (record (course s t) { held = (course s t).held ++ b ∷ [] }) refl in
      let was = own_was script s t (kind.Reserve b) known st in
      let before = phase_is script s (course s t) st.step.cmd false false false made (ap is_none e) (ap is_none wants) in
      let after = begun (is_none (first_missing (record (course s t) { held = (course s t).held ++ b ∷ [] }) st.step.cmd)) refl in
      omega (arith, now, was, before, after))
      reserve_locks
    where
      begun : (w : Bool) → is_none (first_missing (record (course s t) { held = (course s t).held ++ b ∷ [] }) st.step.cmd) ≡ w → command_left script s (record (course s t) { held = (course s t).held ++ b ∷ [] }) st.step.cmd ≤ locking_left script st.step.cmd
      begun w f =
          subst (λ n. n ≤ locking_left script st.step.cmd) (sym (phase_is script s (record (course s t) { held = (course s t).held ++ b ∷ [] }) st.step.cmd false false w made (ap is_none e) f)) (by w)
        where
          by : (q : Bool) → phase script s (record (course s t) { held = (course s t).held ++ b ∷ [] }) st.step.cmd false false q ≤ locking_left script st.step.cmd
          by true = working_most script s known.good known.pages (record (course s t) { held = (course s t).held ++ b ∷ [] }) st.step.cmd alone
          by false = omega arith

-- ---- a backoff

-- each ticket is that of its thread
each_ticket : (s : State) (ts : List ℕ) → Each (λ y. (course s y.thread).stamp ≡ Some (record { 0 = y.stamp })) (filter_map (ticketed s) ts)
each_ticket s [] = tt
each_ticket s (t ∷ ts) = by (course s t).stamp refl (each_ticket s ts)
  where
    by : (o : Option Stamp) → (course s t).stamp ≡ o → Each (λ y. (course s y.thread).stamp ≡ Some (record { 0 = y.stamp })) (filter_map (ticketed s) ts) →
        Each (λ y. (course s y.thread).stamp ≡ Some (record { 0 = y.stamp })) (cons_option (option_map (λ stamp. record { thread = t; stamp = stamp.0 }) o) (filter_map (ticketed s) ts))
    by None e rest = rest
    by (Some st) e rest = (e, rest)

among_chosen : (s : State) (t : ℕ) (stamp : Stamp) (n from : ℕ) → from ≤ t → t < from + n → (course s t).stamp ≡ Some stamp → Among (record { thread = t; stamp = stamp.0 }) (filter_map (ticketed s) (count_from 1 n from))
among_chosen s t stamp zero from low high e = absurd (omega arith)
among_chosen s t stamp (suc n) from low high e =
    ⊎_elim
    (λ q. subst (λ o. Among (record { thread = t; stamp = stamp.0 }) (cons_option o (filter_map (ticketed s) (count_from 1 n (1 + from))))) (sym (ap (ticketed s) q ∙ ap (option_map (λ st. record { thread = t; stamp = st.0 })) e)) (inl refl))
    (λ d. let ne : from ≡ t → ⊥ = d in behind (ticketed s from) (among_chosen s t stamp n (1 + from) (grind arith) (omega arith) e))
    (cases_eq from t)
  where
    behind : (o : Option Ticketed) → Among (record { thread = t; stamp = stamp.0 }) (filter_map (ticketed s) (count_from 1 n (1 + from))) →
        Among (record { thread = t; stamp = stamp.0 }) (cons_option o (filter_map (ticketed s) (count_from 1 n (1 + from))))
    behind None h = h
    behind (Some u) h = inr h

module _ (script : Script) (s : State) (t : ℕ) (b : BufId) (holder stamp : Stamp) (known : Known script s) (st : Stepped script s t (kind.Backoff b holder)) (e : (course s t).stamp ≡ Some stamp) (made : (course s t).made ≡ false)
    (wants : first_missing (course s t) st.step.cmd ≡ Some b) (held : (reservation s b).holder ≡ Some holder) (backs : backs_off (course s t) holder ≡ true) (alone : (course s t).caught ≡ []) where
  -- it holds something, and the other is older
  parts : (nat_lt holder.0 stamp.0 ≡ true) × (nat_lt 0 (length (course s t).held) ≡ true)
  parts =
      and_parts (nat_lt holder.0 stamp.0) (nat_lt 0 (length (course s t).held))
      (sym (ap (λ o. elim o [ None ↦ false | Some mine ↦ nat_lt holder.0 mine.0 && nat_lt 0 (length (course s t).held) ]) e) ∙ backs)

  goes_before : digit s (record { thread = t; stamp = stamp.0 }) ≡ true
  goes_before = not_from_false (waits_for_elder s (course s t)) (false_from_ne_true (waits_for_elder s (course s t)) (λ h. let w = waits_of s (course s t) h in empty (ap length w.empty)))
    where
      empty : length (course s t).held ≡ 0 → ⊥
      empty l = let p = parts.1 in absurd (grind (arith, nat_tests))

  holder_stays : (d : BufId) (other : Stamp) → (reservation s d).holder ≡ Some other → nat_lt other.0 stamp.0 ≡ true → (reservation (applied script s (actor.Thread t) (kind.Backoff b holder)) d).holder ≡ Some other
  holder_stays d other h less = ap (λ g. g.holder) (released_other (course s t).held s.reservations d (false_from_ne_true (has_buffer (course s t).held d) (λ k. not_mine (known.owned.held t d (inl k))))) ∙ h
    where
      not_mine : ((own : Stamp) × (is_live s d ≡ true) × ((reservation s d).holder ≡ Some own) × ((course s t).stamp ≡ Some own)) → ⊥
      not_mine w =
          let x : Some other ≡ Some w.0 = sym h ∙ w.2 in
          let y : Some stamp ≡ Some w.0 = sym e ∙ w.3 in
          let a : other ≡ w.0 = cc in
          let c : stamp ≡ w.0 = cc in
          let same : other.0 ≡ stamp.0 = ap (λ q. q.0) (a ∙ sym c) in
          absurd (grind (arith, nat_tests))

  waits_now : digit (applied script s (actor.Thread t) (kind.Backoff b holder)) (record { thread = t; stamp = stamp.0 }) ≡ false
  waits_now =
      not_from_true _
      (ap (waits_for_elder (applied script s (actor.Thread t) (kind.Backoff b holder))) (own_course script s t (kind.Backoff b holder) st.here)
      ∙ waits_from (applied script s (actor.Thread t) (kind.Backoff b holder)) (record (course s t) { held = []; first = Some b })
      (record { first = b; holder = holder; is_first = refl; empty = refl; held = holder_stays b holder held parts.0; elder = ap (λ o. is_elder (number_of o) (Some holder.0)) e ∙ parts.0 }))

  elders_keep : (y : Ticketed) → (course s y.thread).stamp ≡ Some (record { 0 = y.stamp }) → y.stamp ≤ stamp.0 → digit s y ≡ false → digit (applied script s (actor.Thread t) (kind.Backoff b holder)) y ≡ false
  elders_keep y own low h = by (cases_eq y.thread t)
    where
      waits : Waits s (course s y.thread)
      waits = waits_of s (course s y.thread) (not-false (waits_for_elder s (course s y.thread)) h)

      below : nat_lt waits.holder.0 y.stamp ≡ true
      below = sym (ap (λ o. is_elder (number_of o) (Some waits.holder.0)) own) ∙ waits.elder

      less : nat_lt waits.holder.0 stamp.0 ≡ true
      less = let a = below in let l = low in grind (arith, nat_tests)

      by : (y.thread ≡ t) ⊎ (y.thread ≡ t → ⊥) → digit (applied script s (actor.Thread t) (kind.Backoff b holder)) y ≡ false
      by (inl q) = absurd (both_ways (digit s y) h (ap (λ u. not (waits_for_elder s (course s u))) q ∙ goes_before))
      by (inr n) =
          not_from_true (waits_for_elder (applied script s (actor.Thread t) (kind.Backoff b holder)) (course (applied script s (actor.Thread t) (kind.Backoff b holder)) y.thread))
          (ap (waits_for_elder (applied script s (actor.Thread t) (kind.Backoff b holder))) ((one script s t (kind.Backoff b holder) known st).others y.thread n)
          ∙ waits_from (applied script s (actor.Thread t) (kind.Backoff b holder)) (course s y.thread)
          (record { first = waits.first; holder = waits.holder; is_first = waits.is_first; empty = waits.empty; held = holder_stays waits.first waits.holder waits.held less; elder = waits.elder }))

  backoff_locks : locks_left script (applied script s (actor.Thread t) (kind.Backoff b holder)) + 1 ≤ locks_left script s
  backoff_locks =
      let r = range script s t (kind.Backoff b holder) known st in
      let low = r.0 in
      let high = r.1 in
      backoff_lowers script s (applied script s (actor.Thread t) (kind.Backoff b holder)) (stamps_same script s t (kind.Backoff b holder) known st refl)
      (λ y. (course s y.thread).stamp ≡ Some (record { 0 = y.stamp })) (record { thread = t; stamp = stamp.0 })
      (each_ticket s (thread_numbers script)) (among_chosen s t stamp (length script.threads) 1 low high e) goes_before waits_now elders_keep
      (let sum = sum_one (missing script (applied script s (actor.Thread t) (kind.Backoff b holder))) (missing script s) t (length script.threads) 1 low high
      (λ u n. let m = missing_other script s t (kind.Backoff b holder) known st u n in omega (arith, m)) in
      let most = missing_most script known.rules known.threads (applied script s (actor.Thread t) (kind.Backoff b holder)) t in
      omega (arith, sum, most))

  pub backoff_falls : measure script (applied script s (actor.Thread t) (kind.Backoff b holder)) + 1 ≤ measure script s
  backoff_falls =
      lock_falls script s t (kind.Backoff b holder) known st alone refl
      (let now = own_now script s t (kind.Backoff b holder) known st (applied script s (actor.Thread t) (kind.Backoff b holder)) (record (course s t) { held = []; first = Some b }) refl in
      let was = own_was script s t (kind.Backoff b holder) known st in
      let before = phase_is script s (course s t) st.step.cmd false false false made (ap is_none e) (ap is_none wants) in
      let after = phase_is script s (record (course s t) { held = []; first = Some b }) st.step.cmd false false false made (ap is_none e) refl in
      omega (arith, now, was, before, after))
      backoff_locks
