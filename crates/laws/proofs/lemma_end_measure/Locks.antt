-- The part of the measure that counts reservations: how high it is at most, and what keeps or lowers it.
use Rattle.std.proofs.Common.{◌≡◌, ℕ, ◌<◌, ◌≤◌, ◌+◌, ◌*◌, zero, suc, Bool, true, false, List, [], ◌∷◌, length, Option, Some, None, IsTrue, refl, sym, ◌∙◌, ap, ap₂, subst, arith, ◌⊎◌, inl, inr}
use Rattle.std.specs.Prelude.{map, filter_map, count_by, sum_by, cond, not, nat_le, is_none, option_map, if◌then◌else◌}
use Rattle.std.specs.List.{list_all, cons_option}
use Rattle.std.proofs.lemmas.Bool.{and_parts, and_from}
use Rattle.std.proofs.lemmas.Bool.Decides.{nat_tests}
use Rattle.std.proofs.lemmas.List.Sums.{sum_by-cons}
use Rattle.ttm_base.specs.ListWords.{count_from}
use Rattle.journal_model.specs.declared.script.Script.{Script}
use Rattle.journal_model.specs.declared.script.Command.{Command}
use Rattle.journal_model.specs.declared.script.Command.TheVariants as command
use Rattle.journal_model.specs.declared.state.State.{State}
use Rattle.journal_model.specs.rules.State.{course, has_buffer}
use Rattle.journal_model.specs.rules.Commands.{command_at_work, named}
use Rattle.journal_model.specs.scripts.CommandRules.{is_command}
use Rattle.journal_model.specs.scripts.ScriptRules.{is_script}
use Rattle.journal_model.specs.statements.Complete.{thread_numbers}
use Rattle.journal_model.specs.statements.Scheduled.{Ticketed, ticketed}
use Rattle.laws.proofs.law_state.Rules.{Rules, at_work_rules}
use Rattle.laws.proofs.law_sound.Measure.{waits_for_elder, put_by_age, by_age, binary, may_lock, missing_of, missing, locks_left}
use Rattle.laws.proofs.law_sound.MeasureFalls.{sum_most, sum_but_one}
use Rattle.laws.proofs.law_sound.BackoffLowers.{NoneRises, OneFalls, nil, same, falls, here, later, binary_keeps, binary_falls, binary_most, two_to}

-- ---- at most

pub count_most : {X : Type 0} (p : X → Bool) (xs : List X) → count_by p xs ≤ length xs
count_most p [] = omega arith
count_most p (x ∷ xs) =
    let rest = count_most p xs in
    let sum : count_by p (x ∷ xs) ≡ cond (p x) 1 0 + count_by p xs = sum_by-cons (λ y. cond (p y) 1 0) x xs in
    let here : cond (p x) 1 0 ≤ 1 = digit (p x) in
    omega (arith, rest, sum, here)
  where
    digit : (q : Bool) → cond q 1 0 ≤ 1
    digit true = omega arith
    digit false = omega arith

length-put : (t : Ticketed) (us : List Ticketed) → length (put_by_age t us) ≡ suc (length us)
length-put t [] = refl
length-put t (u ∷ us) = by (nat_le u.stamp t.stamp) (length-put t us)
  where
    by : (q : Bool) → length (put_by_age t us) ≡ suc (length us) → length (if q then t ∷ u ∷ us else u ∷ put_by_age t us) ≡ suc (suc (length us))
    by true e = refl
    by false e = ap suc e

length-by_age : (ts : List Ticketed) → length (by_age ts) ≡ length ts
length-by_age [] = refl
length-by_age (t ∷ ts) = length-put t (by_age ts) ∙ ap suc (length-by_age ts)

length-chosen : {X Y : Type 0} (f : X → Option Y) (xs : List X) → length (filter_map f xs) ≤ length xs
length-chosen f [] = omega arith
length-chosen {X = X} {Y = Y} f (x ∷ xs) = let rest = length-chosen f xs in by (f x) rest
  where
    by : (o : Option Y) → length (filter_map f xs) ≤ length xs → length (cons_option o (filter_map f xs)) ≤ suc (length xs)
    by None h = omega arith
    by (Some y) h = omega arith

length-count : (n from : ℕ) → length (count_from 1 n from) ≡ n
length-count zero from = refl
length-count (suc n) from = ap suc (length-count n (1 + from))

length-map : {X Y : Type 0} (f : X → Y) (xs : List X) → length (map f xs) ≡ length xs
length-map f [] = refl
length-map f (x ∷ xs) = ap suc (length-map f xs)

two_most : (n m : ℕ) → n ≤ m → two_to n ≤ two_to m
two_most zero zero h = omega arith
two_most zero (suc m) h = let rest : two_to 0 ≤ two_to m = two_most zero m (omega arith) in omega (arith, rest)
two_most (suc n) zero h = absurd (omega arith)
two_most (suc n) (suc m) h = let rest : two_to n ≤ two_to m = two_most n m (omega arith) in omega (arith, rest)

few_named : (script : Script) (cmd : Command) → is_command script cmd ≡ true → length (named cmd) ≤ 16
few_named script (command.Submit engine ops) h = grind (arith, nat_tests)
few_named script cmd h = omega arith

sum_below : (f : ℕ → ℕ) (xs : List ℕ) → ((x : ℕ) → f x ≤ 16) → sum_by f xs ≤ 16 * length xs
sum_below f [] h = omega arith
sum_below f (x ∷ xs) h = let here = h x in let rest = sum_below f xs h in let sum = sum_by-cons f x xs in omega (arith, here, rest, sum)

pub few_threads : (script : Script) → IsTrue (is_script script) → length script.threads ≤ 16
few_threads script h = grind (arith, nat_tests)

module _ (script : Script) (r : Rules script) (few : length script.threads ≤ 16) (s : State) where
  pub missing_most : (t : ℕ) → missing script s t ≤ 16
  missing_most t = by_stamp (is_none (course s t).stamp) (command_at_work script s t) refl
    where
      by_stamp : (q : Bool) (o : Option Command) → command_at_work script s t ≡ o → elim q [ true ↦ 0 | false ↦ elim o [ None ↦ 0 | Some cmd ↦ missing_of (course s t) cmd ] ] ≤ 16
      by_stamp true o e = omega arith
      by_stamp false None e = omega arith
      by_stamp false (Some cmd) e =
          let rules = at_work_rules script r s t cmd e in
          let n = few_named script cmd rules.command in
          let c = count_most (λ b. not (has_buffer (course s t).held b)) (named cmd) in
          omega (arith, n, c)

  pub locks_most : locks_left script s ≤ 2097152
  locks_most =
      let each = sum_below (missing script s) (thread_numbers script) missing_most in
      let numbers = length-count (length script.threads) 1 in
      let chosen = length-chosen (ticketed s) (thread_numbers script) in
      let aged = length-by_age (filter_map (ticketed s) (thread_numbers script)) in
      let digits = length-map (λ t. not (waits_for_elder s (course s t.thread))) (by_age (filter_map (ticketed s) (thread_numbers script))) in
      let low = binary_most (may_lock script s) in
      let short : length (may_lock script s) ≤ 16 = omega (arith, digits, aged, chosen, numbers, few) in
      let power : two_to (length (may_lock script s)) ≤ 65536 = two_most (length (may_lock script s)) 16 short in
      omega (arith, each, numbers, low, power, few)

-- ---- digits

ticketed_same : (s s' : State) (ts : List ℕ) → ((t : ℕ) → (course s' t).stamp ≡ (course s t).stamp) → filter_map (ticketed s') ts ≡ filter_map (ticketed s) ts
ticketed_same s s' [] h = refl
ticketed_same s s' (t ∷ ts) h = ap₂ cons_option (ap (option_map (λ stamp. record { thread = t; stamp = stamp.0 })) (h t)) (ticketed_same s s' ts h)

none_rises : (f g : Ticketed → Bool) (ts : List Ticketed) → ((x : Ticketed) → f x ≡ false → g x ≡ false) → NoneRises (map f ts) (map g ts)
none_rises f g [] h = nil
none_rises f g (t ∷ ts) h = by (f t) (g t) (h t) (none_rises f g ts h)
  where
    by : (p q : Bool) → (p ≡ false → q ≡ false) → NoneRises (map f ts) (map g ts) → NoneRises (p ∷ map f ts) (q ∷ map g ts)
    by true true k r = same r
    by true false k r = falls r
    by false true k r = absurd (let z : true ≡ false = k refl in cc)
    by false false k r = same r

-- in falling order of stamps
abbrev pub Falling : List Ticketed → Type 0
Falling [] = Unit {0}
Falling (t ∷ ts) = (list_all (λ u. nat_le u.stamp t.stamp) ts ≡ true) × Falling ts

below_more : (t u : Ticketed) (ts : List Ticketed) → nat_le u.stamp t.stamp ≡ true → list_all (λ v. nat_le v.stamp u.stamp) ts ≡ true → list_all (λ v. nat_le v.stamp t.stamp) ts ≡ true
below_more t u [] h k = refl
below_more t u (v ∷ ts) h k =
    let p = and_parts (nat_le v.stamp u.stamp) (list_all (λ v. nat_le v.stamp u.stamp) ts) k in
    and_from (nat_le v.stamp t.stamp) (list_all (λ v. nat_le v.stamp t.stamp) ts) (through v.stamp u.stamp t.stamp p.0 h) (below_more t u ts h p.1)
  where
    through : (a b c : ℕ) → nat_le a b ≡ true → nat_le b c ≡ true → nat_le a c ≡ true
    through a b c h k = grind (arith, nat_tests)

put_below : (t u : Ticketed) (ts : List Ticketed) → nat_le t.stamp u.stamp ≡ true → list_all (λ v. nat_le v.stamp u.stamp) ts ≡ true → list_all (λ v. nat_le v.stamp u.stamp) (put_by_age t ts) ≡ true
put_below t u [] h k = and_from (nat_le t.stamp u.stamp) true h refl
put_below t u (v ∷ ts) h k = by (nat_le v.stamp t.stamp) (λ z. put_below t u ts h z)
  where
    p : (nat_le v.stamp u.stamp ≡ true) × (list_all (λ v. nat_le v.stamp u.stamp) ts ≡ true)
    p = and_parts (nat_le v.stamp u.stamp) (list_all (λ v. nat_le v.stamp u.stamp) ts) k

    by : (q : Bool) → (list_all (λ v. nat_le v.stamp u.stamp) ts ≡ true → list_all (λ v. nat_le v.stamp u.stamp) (put_by_age t ts) ≡ true) →
        list_all (λ v. nat_le v.stamp u.stamp) (if q then t ∷ v ∷ ts else v ∷ put_by_age t ts) ≡ true
    by true rest = and_from (nat_le t.stamp u.stamp) _ h k
    by false rest = and_from (nat_le v.stamp u.stamp) _ p.0 (rest p.1)

put_falling : (t : Ticketed) (ts : List Ticketed) → Falling ts → Falling (put_by_age t ts)
put_falling t [] h = (refl, tt)
put_falling t (u ∷ ts) h = by (nat_le u.stamp t.stamp) refl (put_falling t ts h.1)
  where
    turned : (a b : ℕ) → nat_le a b ≡ false → nat_le b a ≡ true
    turned a b k = grind (arith, nat_tests)

    by : (q : Bool) → nat_le u.stamp t.stamp ≡ q → Falling (put_by_age t ts) → Falling (if q then t ∷ u ∷ ts else u ∷ put_by_age t ts)
    by true e rest = (and_from (nat_le u.stamp t.stamp) _ e (below_more t u ts e h.0), h)
    by false e rest = (put_below t u ts (turned u.stamp t.stamp e) h.0, rest)

pub by_age_falls : (ts : List Ticketed) → Falling (by_age ts)
by_age_falls [] = tt
by_age_falls (t ∷ ts) = put_falling t (by_age ts) (by_age_falls ts)

-- the ticket stands in the list
abbrev pub Among : Ticketed → List Ticketed → Type 0
Among x [] = ⊥
Among x (t ∷ ts) = (x ≡ t) ⊎ Among x ts

among_put : (x t : Ticketed) (ts : List Ticketed) → (x ≡ t) ⊎ Among x ts → Among x (put_by_age t ts)
among_put x t [] (inl e) = inl e
among_put x t [] (inr h) = absurd h
among_put x t (u ∷ ts) h = by (nat_le u.stamp t.stamp) h (λ w. among_put x t ts w)
  where
    by : (q : Bool) → (x ≡ t) ⊎ ((x ≡ u) ⊎ Among x ts) → ((x ≡ t) ⊎ Among x ts → Among x (put_by_age t ts)) → Among x (if q then t ∷ u ∷ ts else u ∷ put_by_age t ts)
    by true w rest = w
    by false (inl e) rest = inr (rest (inl e))
    by false (inr (inl e)) rest = inl e
    by false (inr (inr w)) rest = inr (rest (inr w))

pub among_aged : (x : Ticketed) (ts : List Ticketed) → Among x ts → Among x (by_age ts)
among_aged x [] h = h
among_aged x (t ∷ ts) (inl e) = among_put x t (by_age ts) (inl e)
among_aged x (t ∷ ts) (inr h) = among_put x t (by_age ts) (inr (among_aged x ts h))

-- what holds of each ticket
abbrev pub Each : (Ticketed → Type 0) → List Ticketed → Type 0
Each P [] = Unit {0}
Each P (t ∷ ts) = P t × Each P ts

each_put : (P : Ticketed → Type 0) (t : Ticketed) (ts : List Ticketed) → P t → Each P ts → Each P (put_by_age t ts)
each_put P t [] h k = (h, tt)
each_put P t (u ∷ ts) h k = by (nat_le u.stamp t.stamp) (each_put P t ts h k.1)
  where
    by : (q : Bool) → Each P (put_by_age t ts) → Each P (if q then t ∷ u ∷ ts else u ∷ put_by_age t ts)
    by true rest = (h, k)
    by false rest = (k.0, rest)

each_aged : (P : Ticketed → Type 0) (ts : List Ticketed) → Each P ts → Each P (by_age ts)
each_aged P [] h = tt
each_aged P (t ∷ ts) h = each_put P t (by_age ts) h.0 (each_aged P ts h.1)

one_falls : (P : Ticketed → Type 0) (f g : Ticketed → Bool) (x : Ticketed) (ts : List Ticketed) → Falling ts → Each P ts → Among x ts → f x ≡ true → g x ≡ false → ((y : Ticketed) → P y → y.stamp ≤ x.stamp → f y ≡ false → g y ≡ false) → OneFalls (map f ts) (map g ts)
one_falls P f g x [] fall each h a b k = absurd h
one_falls P f g x (t ∷ ts) fall each (inr h) a b k = later (one_falls P f g x ts fall.1 each.1 h a b k)
one_falls P f g x (t ∷ ts) fall each (inl e) a b k =
    subst (λ p. OneFalls (p ∷ map f ts) (map g (t ∷ ts))) (sym (sym (ap f e) ∙ a))
    (subst (λ q. OneFalls (true ∷ map f ts) (q ∷ map g ts)) (sym (sym (ap g e) ∙ b)) (here (elders ts (subst (λ z. list_all (λ u. nat_le u.stamp z.stamp) ts ≡ true) (sym e) fall.0) each.1)))
  where
    low : (m n : ℕ) → nat_le m n ≡ true → m ≤ n
    low m n h = grind (arith, nat_tests)

    put : (p q : Bool) (us : List Ticketed) → (p ≡ false → q ≡ false) → NoneRises (map f us) (map g us) → NoneRises (p ∷ map f us) (q ∷ map g us)
    put true true us k r = same r
    put true false us k r = falls r
    put false true us k r = absurd (let z : true ≡ false = k refl in cc)
    put false false us k r = same r

    elders : (us : List Ticketed) → list_all (λ u. nat_le u.stamp x.stamp) us ≡ true → Each P us → NoneRises (map f us) (map g us)
    elders [] h w = nil
    elders (u ∷ us) h w =
        let p = and_parts (nat_le u.stamp x.stamp) (list_all (λ u. nat_le u.stamp x.stamp) us) h in
        put (f u) (g u) us (k u w.0 (low u.stamp x.stamp p.0)) (elders us p.1 w.1)

-- ---- what keeps it, and what lowers it

-- the digit of a thread
abbrev pub digit : State → Ticketed → Bool
digit s t = not (waits_for_elder s (course s t.thread))

module _ (script : Script) (s s' : State) (stamps : (t : ℕ) → (course s' t).stamp ≡ (course s t).stamp) where
  aged : by_age (filter_map (ticketed s') (thread_numbers script)) ≡ by_age (filter_map (ticketed s) (thread_numbers script))
  aged = ap by_age (ticketed_same s s' (thread_numbers script) stamps)

  -- no digit rises and nobody misses more
  pub locks_keep : ((x : Ticketed) → digit s x ≡ false → digit s' x ≡ false) → ((t : ℕ) → missing script s' t ≤ missing script s t) → locks_left script s' ≤ locks_left script s
  locks_keep h m =
      let low : binary (map (digit s') (by_age (filter_map (ticketed s) (thread_numbers script)))) ≤ binary (may_lock script s) =
      binary_keeps (none_rises (digit s) (digit s') (by_age (filter_map (ticketed s) (thread_numbers script))) h) in
      let now : binary (may_lock script s') ≡ binary (map (digit s') (by_age (filter_map (ticketed s) (thread_numbers script)))) = ap (λ ts. binary (map (digit s') ts)) aged in
      let sum = sum_most (missing script s') (missing script s) (thread_numbers script) m in
      omega (arith, low, now, sum)

  -- no digit rises, and one thread misses one buffer less
  pub locks_fall : (t : ℕ) → 1 ≤ t → t < 1 + length script.threads → ((x : Ticketed) → digit s x ≡ false → digit s' x ≡ false) → ((u : ℕ) → (u ≡ t → ⊥) → missing script s' u ≤ missing script s u)
      → missing script s' t + 1 ≤ missing script s t → locks_left script s' + 1 ≤ locks_left script s
  locks_fall t l u h m one =
      let low : binary (map (digit s') (by_age (filter_map (ticketed s) (thread_numbers script)))) ≤ binary (may_lock script s) =
      binary_keeps (none_rises (digit s) (digit s') (by_age (filter_map (ticketed s) (thread_numbers script))) h) in
      let now : binary (may_lock script s') ≡ binary (map (digit s') (by_age (filter_map (ticketed s) (thread_numbers script)))) = ap (λ ts. binary (map (digit s') ts)) aged in
      let sum : sum_by (missing script s') (thread_numbers script) + 1 ≤ sum_by (missing script s) (thread_numbers script) = sum_but_one (missing script s') (missing script s) t 1 (length script.threads) 1 l u m one in
      omega (arith, low, now, sum)

  -- a thread backs off: its digit falls, no elder one's rises, and it misses at most 16 buffers
  pub backoff_lowers : (P : Ticketed → Type 0) (x : Ticketed) → Each P (filter_map (ticketed s) (thread_numbers script)) → Among x (filter_map (ticketed s) (thread_numbers script)) → digit s x ≡ true → digit s' x ≡ false
      → ((y : Ticketed) → P y → y.stamp ≤ x.stamp → digit s y ≡ false → digit s' y ≡ false)
      → sum_by (missing script s') (thread_numbers script) ≤ sum_by (missing script s) (thread_numbers script) + 16 → locks_left script s' + 1 ≤ locks_left script s
  backoff_lowers P x each h a b k m =
      let less : binary (map (digit s') (by_age (filter_map (ticketed s) (thread_numbers script)))) < binary (may_lock script s) =
      binary_falls (one_falls P (digit s) (digit s') x (by_age (filter_map (ticketed s) (thread_numbers script))) (by_age_falls (filter_map (ticketed s) (thread_numbers script)))
      (each_aged P (filter_map (ticketed s) (thread_numbers script)) each) (among_aged x (filter_map (ticketed s) (thread_numbers script)) h) a b k) in
      let now : binary (may_lock script s') ≡ binary (map (digit s') (by_age (filter_map (ticketed s) (thread_numbers script)))) = ap (λ ts. binary (map (digit s') ts)) aged in
      omega (arith, less, now, m)
