-- The measure of the first state, against the limit of turns.
use Rattle.std.proofs.Common.{◌≡◌, ℕ, ◌<◌, ◌+◌, ◌*◌, ◌-◌, zero, suc, true, false, List, [], ◌∷◌, length, Option, Some, None, refl, sym, ◌∙◌, ap, ap₂, arith}
use Rattle.std.specs.Prelude.{slice_get, map, filter_map, sum_by, unwrap_or, is_none, option_map, drop, not, ◌==◌, if◌then◌else◌}
use Rattle.std.specs.List.{cons_option}
use Rattle.std.proofs.lemmas.Bool.Decides.{nat_tests}
use Rattle.std.proofs.lemmas.List.Sums.{sum_by-cons}
use Rattle.ttm_base.specs.ListWords.{count_from}
use Rattle.journal_model.specs.declared.script.Script.{Script}
use Rattle.journal_model.specs.declared.script.Command.{Command}
use Rattle.journal_model.specs.declared.script.Command.TheVariants as command
use Rattle.journal_model.specs.declared.state.Course.{Course}
use Rattle.journal_model.specs.rules.State.{course, new_course}
use Rattle.journal_model.specs.rules.Commands.{commands_of, command_at_work}
use Rattle.journal_model.specs.statements.Complete.{thread_numbers}
use Rattle.journal_model.specs.rules.Legal.{first_state}
use Rattle.journal_model.specs.statements.Scheduled.{ticketed, packets_in, turn_limit, scheduled_actors}
use Rattle.laws.proofs.law_sound.DeadEnds.{command_is}
use Rattle.laws.proofs.law_sound.OthersSame.{sum_same}
use Rattle.laws.proofs.law_sound.Measure.{all_pages, packet_count, whole_command, command_left, thread_left, slot_debts, left_of_buffer, missing, binary, by_age, may_lock, measure, missing_of, waits_for_elder}
use Rattle.laws.proofs.lemma_end_measure.Slots.{no_debts}
use Rattle.laws.proofs.law_sound.Along.{first_course, sound_first}

-- ---- sums and products

times_suc : (k n : ℕ) → k * suc n ≡ k + k * n
times_suc k n = grind arith

times_add : (k a b : ℕ) → k * (a + b) ≡ k * a + k * b
times_add k a b = grind arith

product_more : (c p : ℕ) → 134217728 * (p + 17) * c < 134217728 * (c + 17) * (p + 17)
product_more c p = grind arith

sum_zero : {X : Type 0} (f : X → ℕ) (xs : List X) → ((x : X) → f x ≡ 0) → sum_by f xs ≡ 0
sum_zero f [] h = refl
sum_zero f (x ∷ xs) h = let here = h x in let rest = sum_zero f xs h in let sum = sum_by-cons f x xs in omega (arith, here, rest, sum)

whole_sum : (k : ℕ) (cs : List Command) → sum_by (λ cmd. k + packet_count cmd) cs ≡ k * length cs + sum_by packet_count cs
whole_sum k [] = grind arith
whole_sum k (c ∷ cs) =
    let rest = whole_sum k cs in
    let a = sum_by-cons (λ cmd. k + packet_count cmd) c cs in
    let b = sum_by-cons packet_count c cs in
    let n = times_suc k (length cs) in
    omega (arith, rest, a, b, n)

all_whole : (k : ℕ) (threads : List (List Command)) → sum_by (sum_by (λ cmd. k + packet_count cmd)) threads ≡ k * sum_by length threads + sum_by (sum_by packet_count) threads
all_whole k [] = grind arith
all_whole k (cs ∷ threads) =
    let here = whole_sum k cs in
    let rest = all_whole k threads in
    let a = sum_by-cons (sum_by (λ cmd. k + packet_count cmd)) cs threads in
    let b = sum_by-cons (sum_by packet_count) cs threads in
    let l = sum_by-cons length cs threads in
    let n = times_add k (length cs) (sum_by length threads) in
    let m : k * sum_by length (cs ∷ threads) ≡ k * (length cs + sum_by length threads) = ap (λ z. k * z) l in
    omega (arith, here, rest, a, b, n, m)

-- a sum over the numbers of a list's elements
numbered : (f : ℕ → ℕ) (w : List Command → ℕ) (xs : List (List Command)) (from : ℕ) → ((i : ℕ) (cs : List Command) → slice_get xs i ≡ Some cs → f (from + i) ≡ w cs) → sum_by f (count_from 1 (length xs) from) ≡ sum_by w xs
numbered f w [] from h = refl
numbered f w (x ∷ xs) from h =
    let now : from ≡ from + 0 = omega arith in
    let here : f from ≡ w x = ap f now ∙ h zero x refl in
    let rest = numbered f w xs (1 + from) (λ i cs e. (let on : 1 + from + i ≡ from + suc i = omega arith in ap f on ∙ h (suc i) cs e)) in
    let a = sum_by-cons f from (count_from 1 (length xs) (1 + from)) in
    let b = sum_by-cons w x xs in
    omega (arith, here, rest, a, b)

-- ---- the first state

module _ (script : Script) where
  -- a thread's part, by its command and its course
  abbrev part : List Command → Option Command → Course → ℕ
  part cs o c = elim o [ None ↦ 0 | Some cmd ↦ command_left script (first_state script) c cmd + sum_by (whole_command script) (drop (c.answered + 1) cs) ]

  first_command : (t : ℕ) → command_at_work script (first_state script) t ≡ slice_get (commands_of script t) 0
  first_command t = command_is script (first_state script) (sound_first script).owned.courses t ∙ ap (λ c. slice_get (commands_of script t) c.answered) (first_course script t)

  thread_first : (t : ℕ) → thread_left script (first_state script) t ≡ sum_by (whole_command script) (commands_of script t)
  thread_first t = ap₂ (part (commands_of script t)) (first_command t) (first_course script t) ∙ by (commands_of script t)
    where
      by : (cs : List Command) → part cs (slice_get cs 0) (new_course 0) ≡ sum_by (whole_command script) cs
      by [] = refl
      by (cmd ∷ cs) = sym (sum_by-cons (whole_command script) cmd cs)

  commands_at : (i : ℕ) (cs : List Command) → slice_get script.threads i ≡ Some cs → commands_of script (1 + i) ≡ cs
  commands_at i cs e =
      let some : (1 + i == 0) ≡ false = grind (arith, nat_tests) in
      let number : 1 + i - 1 ≡ i = omega arith in
      ap₂ (λ q j. if q then [] else unwrap_or (slice_get script.threads j) []) some number ∙ ap (λ o. unwrap_or o []) e

  threads_first : sum_by (thread_left script (first_state script)) (thread_numbers script) ≡ sum_by (sum_by (whole_command script)) script.threads
  threads_first = numbered (thread_left script (first_state script)) (sum_by (whole_command script)) script.threads 1 (λ i cs e. thread_first (1 + i) ∙ ap (sum_by (whole_command script)) (commands_at i cs e))

  debts_first : sum_by (slot_debts script (first_state script)) (thread_numbers script) ≡ 0
  debts_first = sum_zero (slot_debts script (first_state script)) (thread_numbers script) (λ t. no_debts script (first_state script) t (ap (λ c. c.caught) (first_course script t)))

  buffers_first : {X : Type 0} (xs : List X) → sum_by left_of_buffer (map (λ d. None) xs) ≡ 0
  buffers_first [] = refl
  buffers_first (x ∷ xs) = let rest = buffers_first xs in let sum = sum_by-cons left_of_buffer None (map (λ d. None) xs) in omega (arith, rest, sum)

  none_ticketed : (ts : List ℕ) → filter_map (ticketed (first_state script)) ts ≡ []
  none_ticketed [] = refl
  none_ticketed (t ∷ ts) = ap₂ cons_option (ap (λ c. option_map (λ stamp. record { thread = t; stamp = stamp.0 }) c.stamp) (first_course script t)) (none_ticketed ts)

  digits_first : binary (may_lock script (first_state script)) ≡ 0
  digits_first = ap (λ ts. binary (map (λ t. not (waits_for_elder (first_state script) (course (first_state script) t.thread))) (by_age ts))) (none_ticketed (thread_numbers script))

  missing_first : sum_by (missing script (first_state script)) (thread_numbers script) ≡ 0
  missing_first =
      sum_zero (missing script (first_state script)) (thread_numbers script)
      (λ t. ap (λ c. elim (is_none c.stamp) [ true ↦ 0 | false ↦ elim (command_at_work script (first_state script) t) [ None ↦ 0 | Some cmd ↦ missing_of (course (first_state script) t) cmd ] ]) (first_course script t))

  pub measure_first : measure script (first_state script) ≡ 134217728 * (all_pages script + 17) * sum_by length script.threads + sum_by (sum_by packet_count) script.threads
  measure_first =
      let threads = threads_first in
      let whole = all_whole (134217728 * (all_pages script + 17)) script.threads in
      let debts = debts_first in
      let buffers = buffers_first script.buffers in
      let digits = digits_first in
      let missed = missing_first in
      omega (arith, threads, whole, debts, buffers, digits, missed)

  packets_same : (cmd : Command) → packet_count cmd ≡ packets_in cmd
  packets_same (command.Submit engine ops) = refl
  packets_same cmd = refl

  -- the measure and the schedule stay below the limit
  pub first_below : measure script (first_state script) + length (scheduled_actors script) < turn_limit script
  first_below =
      let first = measure_first in
      let packets = sum_same (sum_by packet_count) (sum_by packets_in) script.threads (λ cs. sum_same packet_count packets_in cs packets_same) in
      let more = product_more (sum_by length script.threads) (sum_by (λ d. d.pages) script.buffers) in
      omega (arith, first, packets, more)
