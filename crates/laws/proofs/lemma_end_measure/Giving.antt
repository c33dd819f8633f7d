-- What a failed search of a named buffer gives back lowers the measure.
use Rattle.std.proofs.Common.{◌≡◌, ℕ, ◌<◌, ◌≤◌, ◌+◌, ◌*◌, zero, suc, Bool, true, false, List, [], ◌∷◌, length, Option, Some, None, refl, sym, ◌∙◌, ap, subst, arith, inr, ⊎_elim}
use Rattle.std.specs.Prelude.{slice_get, slice_set, map, filter_map, nat_eq, count_by, sum_by, cond, not, unwrap_or, is_none, option_map, option_and_then, ◌||◌, ◌&&◌, if◌then◌else◌}
use Rattle.std.specs.List.{list_any, enumerate_from}
use Rattle.std.proofs.lemmas.Bool.{cases_Bool, and_parts, or_cases, or_left, or_right, both_ways}
use Rattle.std.proofs.lemmas.List.Sums.{sum_by-cons}
use Rattle.ttm_base.specs.declared.Mem.{Mem}
use Rattle.ttm_base.specs.declared.Mem.TheVariants.{System, Tt, Vram}
use Rattle.ttm_base.specs.declared.BufId.{BufId}
use Rattle.ttm_base.specs.declared.Deny.{Deny}
use Rattle.ttm_base.specs.declared.Stamp.{Stamp}
use Rattle.ttm_base.specs.declared.Loc.{Loc}
use Rattle.ttm_base.specs.declared.Loc.TheVariants as loc
use Rattle.ttm_base.specs.declared.Actor.TheVariants as actor
use Rattle.ttm_base.specs.Reach.{same_mem}
use Rattle.journal_model.specs.declared.script.Script.{Script}
use Rattle.journal_model.specs.declared.script.Decl.{Decl}
use Rattle.journal_model.specs.declared.script.Command.{Command}
use Rattle.journal_model.specs.declared.state.State.{State}
use Rattle.journal_model.specs.declared.state.Buffer.{Buffer}
use Rattle.journal_model.specs.declared.entry.Kind.{Kind}
use Rattle.journal_model.specs.declared.entry.Kind.TheVariants as kind
use Rattle.journal_model.specs.rules.State.{new_buffer, buffer, course, same_buffer, has_buffer, has_target, live_in, changed}
use Rattle.journal_model.specs.rules.Commands.{named}
use Rattle.journal_model.specs.rules.Places.{is_frame, slot_of}
use Rattle.journal_model.specs.rules.Holds.{has_number}
use Rattle.journal_model.specs.rules.Dry.{has_frame}
use Rattle.journal_model.specs.rules.Ready.{has_some_target}
use Rattle.journal_model.specs.rules.Tasks.{gives_back}
use Rattle.journal_model.specs.rules.PageSteps.{target_to_untake}
use Rattle.journal_model.specs.rules.Apply.{applied}
use Rattle.journal_model.specs.rules.ApplyPages.{with_spans, without_frame, without_frames}
use Rattle.laws.proofs.law_sound.Measure.{one_if, packet_count, frame_count, target_count, to_give_back, if_named, search_left, later_commands, left_of_buffer, job_left, page_left, thread_left, slot_debts, locks_left, measure}
use Rattle.laws.proofs.law_sound.MeasureFalls.{sum_set, sum_most}
use Rattle.laws.proofs.law_state.Lists.{get_within}
use Rattle.laws.proofs.law_sound.Along.{Stepped}
use Rattle.laws.proofs.law_sound.Turns.{Works}
use Rattle.laws.proofs.law_sound.Bufs.{same_is}
use Rattle.laws.proofs.law_sound.Steadies.{next_course, own_course}
use Rattle.laws.proofs.lemma_end_measure.Frame.{left_of, left_is, others_left, untouched}
use Rattle.laws.proofs.lemma_end_measure.Working.{phase_is}
use Rattle.laws.proofs.lemma_end_measure.Slots.{OneFewer, Fewer, debts_keep, no_debts}
use Rattle.laws.proofs.lemma_end_measure.Sums.{sum_one, fewer_kept}
use Rattle.laws.proofs.lemma_end_measure.Border.{Known, range, one, others_same, own_is, own_now}

-- ---- one buffer

pub count_cons : {X : Type 0} (p : X → Bool) (x : X) (xs : List X) → count_by p (x ∷ xs) ≡ cond (p x) 1 0 + count_by p xs
count_cons p x xs = sum_by-cons (λ y. cond (p y) 1 0) x xs

-- without frames there is none, and each page is one without a frame
bare_frames : (table : List Loc) → count_by is_frame (map without_frame table) ≡ 0
bare_frames [] = refl
bare_frames (l ∷ table) = let rest = bare_frames table in let sum = count_cons is_frame (without_frame l) (map without_frame table) in let here = by l in omega (arith, rest, sum, here)
  where
    by : (l : Loc) → ◌≡◌ {A = ℕ} (cond (is_frame (without_frame l)) 1 0) 0
    by loc.Zero = refl
    by (loc.Frame f) = refl
    by (loc.Slot k) = refl

bare_others : (table : List Loc) → count_by (λ l. not (is_frame l)) (map without_frame table) ≡ count_by (λ l. not (is_frame l)) table + count_by is_frame table
bare_others [] = refl
bare_others (l ∷ table) =
    let rest = bare_others table in
    let a = count_cons (λ l. not (is_frame l)) (without_frame l) (map without_frame table) in
    let b = count_cons (λ l. not (is_frame l)) l table in
    let c = count_cons is_frame l table in
    let here = by l in
    omega (arith, rest, a, b, c, here)
  where
    by : (l : Loc) → ◌≡◌ {A = ℕ} (cond (not (is_frame (without_frame l))) 1 0) (cond (not (is_frame l)) 1 0 + cond (is_frame l) 1 0)
    by loc.Zero = refl
    by (loc.Frame f) = refl
    by (loc.Slot k) = refl

pub length-bare : (table : List Loc) → length (map without_frame table) ≡ length table
length-bare [] = refl
length-bare (l ∷ table) = ap suc (length-bare table)

pub some_frame : (table : List Loc) → list_any is_frame table ≡ true → 1 ≤ count_by is_frame table
some_frame [] h = cc
some_frame (l ∷ table) h =
    let sum = count_cons is_frame l table in
    ⊎_elim (λ k. (let one : ◌≡◌ {A = ℕ} (cond (is_frame l) 1 0) 1 = ap (λ q. cond q 1 0) k in omega (arith, sum, one))) (λ k. (let rest = some_frame table k in omega (arith, sum, rest))) (or_cases (is_frame l) (list_any is_frame table) h)

-- what a buffer in VRAM costs
pub vram_left : (y : Buffer) → y.mem ≡ Vram → left_of_buffer (Some y) ≡ 75497472 * length y.table + count_by (λ l. not (is_frame l)) y.table
vram_left y e = ap (λ z. elim z [ System ↦ sum_by page_left y.table | Tt ↦ 71303168 * length y.table | Vram ↦ 75497472 * length y.table + count_by (λ l. not (is_frame l)) y.table ]) e

pub vram_gift : (y : Buffer) → y.mem ≡ Vram → to_give_back y ≡ 2 * frame_count y + target_count y
vram_gift y e = ap (λ z. elim z [ Vram ↦ 2 * frame_count y | Tt ↦ 0 | System ↦ 0 ] + target_count y) e

-- the frames that a buffer in VRAM gives back: what is to be given falls by twice as much as the buffer's part rises
pub frames_given : (x : Buffer) → x.mem ≡ Vram → to_give_back (without_frames x) + 2 * frame_count x ≤ to_give_back x
frames_given x m =
    let give = vram_gift x m in
    let gave = vram_gift (without_frames x) m in
    let none = bare_frames x.table in
    omega (arith, give, gave, none)

pub frames_rise : (x : Buffer) → x.mem ≡ Vram → left_of_buffer (Some (without_frames x)) ≤ left_of_buffer (Some x) + frame_count x
frames_rise x m =
    let was = vram_left x m in
    let now = vram_left (without_frames x) m in
    let others = bare_others x.table in
    let len = length-bare x.table in
    omega (arith, was, now, others, len)

-- a target that is there and goes
pub target_given : (m : Mem) (x : Buffer) → has_target m x ≡ true → to_give_back (with_spans m None x) + 1 ≤ to_give_back x
target_given System x h = let one : ◌≡◌ {A = ℕ} (one_if (has_target System x)) 1 = ap one_if h in omega (arith, one)
target_given Tt x h = let one : ◌≡◌ {A = ℕ} (one_if (has_target Tt x)) 1 = ap one_if h in omega (arith, one)
target_given Vram x h = let one : ◌≡◌ {A = ℕ} (one_if (has_target Vram x)) 1 = ap one_if h in omega (arith, one)

-- the target to untake is there
pub target_there : (x : Buffer) → gives_back x ≡ true → (x.mem ≡ Vram → has_frame x ≡ false) → has_target (target_to_untake x) x ≡ true
target_there x h bare = by_target (has_target Vram x) (has_target Tt x) refl refl some
  where
    vram_is : (m : Mem) → x.mem ≡ m → same_mem m Vram ≡ true → x.mem ≡ Vram
    vram_is Vram e k = e
    vram_is Tt e k = cc
    vram_is System e k = cc

    some : has_some_target x ≡ true
    some =
        ⊎_elim
        (λ k. let p = and_parts (same_mem x.mem Vram) (has_frame x) k in absurd (both_ways (has_frame x) (bare (vram_is x.mem refl p.0)) p.1))
        (λ k. k)
        (or_cases (same_mem x.mem Vram && has_frame x) (has_some_target x) h)

    by_target : (v t : Bool) → has_target Vram x ≡ v → has_target Tt x ≡ t → ((has_target System x || t) || v) ≡ true → has_target (if v then Vram else if t then Tt else System) x ≡ true
    by_target true t e f k = e
    by_target false true e f k = f
    by_target false false e f k = ⊎_elim (λ q. ⊎_elim (λ r. r) (λ r. absurd (let z : false ≡ true = r in cc)) (or_cases (has_target System x) false q)) (λ q. absurd (let z : false ≡ true = q in cc)) (or_cases (has_target System x || false) false k)

-- ---- a sum over declared buffers of which one falls

pub enumerate_falls : (f g : ℕ × Decl → ℕ) (n : ℕ) (xs : List Decl) (k i : ℕ) (d : Decl) → slice_get xs i ≡ Some d → ((e : ℕ × Decl) → f e ≤ g e) → f (k + i, d) + n ≤ g (k + i, d) → sum_by f (enumerate_from k xs) + n ≤ sum_by g (enumerate_from k xs)
enumerate_falls f g n [] k i d h most less = cc
enumerate_falls f g n (x ∷ xs) k zero d h most less =
    let it : x ≡ d = cc in
    let now : k + 0 ≡ k = omega arith in
    let here : f (k, x) + n ≤ g (k, x) = subst (λ y. f (k, y) + n ≤ g (k, y)) (sym it) (subst (λ m. f (m, d) + n ≤ g (m, d)) now less) in
    let rest = sum_most f g (enumerate_from (k + 1) xs) most in
    omega (arith, here, rest, sum_by-cons f (k, x) (enumerate_from (k + 1) xs), sum_by-cons g (k, x) (enumerate_from (k + 1) xs))
enumerate_falls f g n (x ∷ xs) k (suc i) d h most less =
    let on : k + suc i ≡ k + 1 + i = omega arith in
    let rest = enumerate_falls f g n xs (k + 1) i d h most (subst (λ m. f (m, d) + n ≤ g (m, d)) on less) in
    let here = most (k, x) in
    omega (arith, here, rest, sum_by-cons f (k, x) (enumerate_from (k + 1) xs), sum_by-cons g (k, x) (enumerate_from (k + 1) xs))

-- ---- a buffer set

pub live_at : (xs : List (Option Buffer)) (b : BufId) (x : Buffer) → live_in xs b ≡ Some x → slice_get xs b.0 ≡ Some (Some x)
live_at xs b x h = by (slice_get xs b.0) h
  where
    by : (o : Option (Option Buffer)) → option_and_then (λ y. y) o ≡ Some x → o ≡ Some (Some x)
    by None k = cc
    by (Some None) k = cc
    by (Some (Some y)) k = let it : y ≡ x = cc in ap (λ z. Some (Some z)) it

pub set_here : (xs : List (Option Buffer)) (i : ℕ) (o : Option Buffer) (x : Buffer) → slice_get xs i ≡ Some (Some x) → slice_get (slice_set xs i o) i ≡ Some o
set_here [] i o x h = cc
set_here (y ∷ xs) zero o x h = refl
set_here (y ∷ xs) (suc i) o x h = set_here xs i o x h

pub changed_here : (f : Buffer → Buffer) (xs : List (Option Buffer)) (b : BufId) (x : Buffer) → live_in xs b ≡ Some x → live_in (changed f xs b) b ≡ Some (f x)
changed_here f xs b x h = ap (option_and_then (λ y. y)) (set_here xs b.0 (option_map f (live_in xs b)) x (live_at xs b x h)) ∙ ap (option_map f) h

pub get_below : (xs : List Decl) (i : ℕ) → i < length xs → (d : Decl) × (slice_get xs i ≡ Some d)
get_below [] i h = absurd (omega arith)
get_below (x ∷ xs) zero h = (x, refl)
get_below (x ∷ xs) (suc i) h = get_below xs i (omega arith)

-- ---- the entry

-- the costs of giving back
abbrev gift : State → Command → ℕ × Decl → ℕ
gift z cmd e = if_named cmd (λ b. to_give_back (buffer z b)) e

module _ (script : Script) (s : State) (t : ℕ) (k : Kind) (known : Known script s) (st : Stepped script s t k) (b : BufId) (x : Buffer) (f : Buffer → Buffer) (live : live_in s.core.buffers b ≡ Some x)
    (core : (applied script s (actor.Thread t) k).core ≡ record s.core { buffers = changed f s.core.buffers b })
    (others : (d : BufId) → same_buffer b d ≡ false → live_in (applied script s (actor.Thread t) k).core.buffers d ≡ live_in s.core.buffers d)
    (member : has_buffer (named st.step.cmd) b ≡ true) where
  now_is : buffer (applied script s (actor.Thread t) k) b ≡ f x
  now_is = ap (λ c. unwrap_or (live_in c.buffers b) (new_buffer 0)) core ∙ ap (λ o. unwrap_or o (new_buffer 0)) (changed_here f s.core.buffers b x live)

  was_is : buffer s b ≡ x
  was_is = ap (λ o. unwrap_or o (new_buffer 0)) live

  gift_most : to_give_back (f x) ≤ to_give_back x → (e : ℕ × Decl) → gift (applied script s (actor.Thread t) k) st.step.cmd e ≤ gift s st.step.cmd e
  gift_most less e = by (has_buffer (named st.step.cmd) (record { 0 = e.0 }))
    where
      cost : to_give_back (buffer (applied script s (actor.Thread t) k) (record { 0 = e.0 })) ≤ to_give_back (buffer s (record { 0 = e.0 }))
      cost =
          ⊎_elim
          (λ q.
          let it : b ≡ record { 0 = e.0 } = same_is b (record { 0 = e.0 }) q in
          let a : to_give_back (buffer (applied script s (actor.Thread t) k) b) ≡ to_give_back (f x) = ap to_give_back now_is in
          let c : to_give_back (buffer s b) ≡ to_give_back x = ap to_give_back was_is in
          subst (λ z. to_give_back (buffer (applied script s (actor.Thread t) k) z) ≤ to_give_back (buffer s z)) it (omega (arith, a, c, less)))
          (λ q.
          let same : to_give_back (buffer (applied script s (actor.Thread t) k) (record { 0 = e.0 })) ≡ to_give_back (buffer s (record { 0 = e.0 })) = ap (λ o. to_give_back (unwrap_or o (new_buffer 0))) (others (record { 0 = e.0 }) q) in
          omega (arith, same))
          (cases_Bool (same_buffer b (record { 0 = e.0 })))

      by : (q : Bool) → (if q then to_give_back (buffer (applied script s (actor.Thread t) k) (record { 0 = e.0 })) else 0) ≤ (if q then to_give_back (buffer s (record { 0 = e.0 })) else 0)
      by true = cost
      by false = omega arith

  -- the sum of what is to be given back falls as the buffer's part does
  gifts_fall : (n : ℕ) → to_give_back (f x) + n ≤ to_give_back x → sum_by (gift (applied script s (actor.Thread t) k) st.step.cmd) (enumerate_from 0 script.buffers) + n ≤ sum_by (gift s st.step.cmd) (enumerate_from 0 script.buffers)
  gifts_fall n less =
      let inside = get_within s.core.buffers b.0 (Some x) (live_at s.core.buffers b x live) in
      let many = known.good.many in
      let d = get_below script.buffers b.0 (omega (arith, inside, many)) in
      enumerate_falls (gift (applied script s (actor.Thread t) k) st.step.cmd) (gift s st.step.cmd) n script.buffers 0 b.0 d.0 d.1 (gift_most (omega (arith, less)))
      (let zero_more : b.0 ≡ 0 + b.0 = omega arith in
      subst (λ m. gift (applied script s (actor.Thread t) k) st.step.cmd (m, d.0) + n ≤ gift s st.step.cmd (m, d.0)) zero_more
      (let now : gift (applied script s (actor.Thread t) k) st.step.cmd (b.0, d.0) ≡ to_give_back (f x) = ap (λ q. if q then to_give_back (buffer (applied script s (actor.Thread t) k) b) else 0) member ∙ ap to_give_back now_is in
      let was : gift s st.step.cmd (b.0, d.0) ≡ to_give_back x = ap (λ q. if q then to_give_back (buffer s b) else 0) member ∙ ap to_give_back was_is in
      omega (arith, now, was, less)))

  -- a failed command
  fail_was : (z : State) (stamp : Stamp) (d : Deny) → Works (course s t) st.step.cmd → (course s t).stamp ≡ Some stamp → (course s t).fail ≡ Some d
      → left_of script z t (course s t) ≡ 2097153 + sum_by (gift z st.step.cmd) (enumerate_from 0 script.buffers) + later_commands script t (course s t).answered
  fail_was z stamp d works e fail =
      own_now script s t k known st z (course s t) refl
      ∙ ap (λ n. n + later_commands script t (course s t).answered)
      (phase_is script z (course s t) st.step.cmd false false true works.unmade (ap is_none e) (ap is_none works.whole)
      ∙ ap (λ o. elim o [
        | Some deny ↦ 2097153 + sum_by (gift z st.step.cmd) (enumerate_from 0 script.buffers)
        | None ↦ packet_count st.step.cmd + search_left script z (course s t) st.step.cmd
      ]) fail)

  -- a named buffer gives back
  pub give_falls : (n rise : ℕ) → next_course script s t k ≡ course s t → (course s t).caught ≡ [] → locks_left script (applied script s (actor.Thread t) k) ≡ locks_left script s → (stamp : Stamp) (d : Deny)
      → Works (course s t) st.step.cmd → (course s t).stamp ≡ Some stamp → (course s t).fail ≡ Some d → Fewer s.core.buffers (applied script s (actor.Thread t) k).core.buffers
      → to_give_back (f x) + n ≤ to_give_back x → left_of_buffer (Some (f x)) ≤ left_of_buffer (Some x) + rise → rise + 1 ≤ n → measure script (applied script s (actor.Thread t) k) + 1 ≤ measure script s
  give_falls n rise own alone locks stamp d works e fail fewer less more enough =
      let r = range script s t k known st in
      let low = r.0 in
      let high = r.1 in
      let threads = sum_one (thread_left script (applied script s (actor.Thread t) k)) (thread_left script s) t (length script.threads) 1 low high
      (λ u w. let same = others_left script s (applied script s (actor.Thread t) k) t u (one script s t k known st) known.owned.courses w (λ y h. others_same script s t k known st u y w h) in omega (arith, same)) in
      let debts = sum_one (slot_debts script (applied script s (actor.Thread t) k)) (slot_debts script s) t (length script.threads) 1 low high
      (λ u w. debts_keep script s (applied script s (actor.Thread t) k) u ((one script s t k known st).others u w) fewer (λ y h. ap (λ p. unwrap_or p (new_buffer 0)) (others_same script s t k known st u y w (inr h)))) in
      let mine = own_is script s t k known st in
      let now = ap (left_of script (applied script s (actor.Thread t) k) t) own ∙ fail_was (applied script s (actor.Thread t) k) stamp d works e fail in
      let was = left_is script s known.owned.courses t in
      let before = fail_was s stamp d works e fail in
      let gifts = gifts_fall n less in
      let none = no_debts script (applied script s (actor.Thread t) k) t (ap (λ c. c.caught) (own_course script s t k st.here ∙ own) ∙ alone) in
      let buffers : sum_by left_of_buffer (applied script s (actor.Thread t) k).core.buffers ≡ sum_by left_of_buffer (changed f s.core.buffers b) = ap (λ c. sum_by left_of_buffer c.buffers) core in
      let set : sum_by left_of_buffer (changed f s.core.buffers b) ≡ sum_by left_of_buffer (slice_set s.core.buffers b.0 (Some (f x))) = ap (λ o. sum_by left_of_buffer (slice_set s.core.buffers b.0 (option_map f o))) live in
      let sum = sum_set left_of_buffer s.core.buffers b.0 (Some x) (Some (f x)) (live_at s.core.buffers b x live) in
      let jobs : sum_by job_left (applied script s (actor.Thread t) k).core.jobs ≡ sum_by job_left s.core.jobs = ap (λ c. sum_by job_left c.jobs) core in
      let ghosts : length (applied script s (actor.Thread t) k).core.ghosts ≡ length s.core.ghosts = ap (λ c. length c.ghosts) core in
      omega (arith, threads, debts, mine, now, was, before, gifts, none, buffers, set, sum, jobs, ghosts, locks, more, enough)

-- ---- frames, and a target

pub depopulated_fewer : (xs : List (Option Buffer)) (b : BufId) → Fewer xs (changed without_frames xs b)
depopulated_fewer xs b = fewer_kept (option_map without_frames) less xs b.0
  where
    slots : (table : List Loc) (n : ℕ) → has_number (filter_map slot_of (map without_frame table)) n ≡ true → has_number (filter_map slot_of table) n ≡ true
    slots [] n h = h
    slots (loc.Zero ∷ table) n h = slots table n h
    slots (loc.Frame f ∷ table) n h = slots table n h
    slots (loc.Slot k ∷ table) n h = ⊎_elim (λ q. or_left (nat_eq n k) (has_number (filter_map slot_of table) n) q) (λ q. or_right (nat_eq n k) (has_number (filter_map slot_of table) n) (slots table n q)) (or_cases (nat_eq n k) (has_number (filter_map slot_of (map without_frame table)) n) h)

    less : (o : Option Buffer) → OneFewer o (option_map without_frames o)
    less None = tt
    less (Some x) = λ n h. slots x.table n h

pub untaken_fewer : (m : Mem) (xs : List (Option Buffer)) (b : BufId) → Fewer xs (changed (with_spans m None) xs b)
untaken_fewer m xs b = fewer_kept (option_map (with_spans m None)) less xs b.0
  where
    less : (o : Option Buffer) → OneFewer o (option_map (with_spans m None) o)
    less None = tt
    less (Some x) = λ n h. h

pub depopulate_falls : (script : Script) (s : State) (t : ℕ) (b : BufId) (x : Buffer) (stamp : Stamp) (d : Deny) → Known script s → (st : Stepped script s t (kind.Depopulate b)) → live_in s.core.buffers b ≡ Some x → has_buffer (named st.step.cmd) b ≡ true
    → (course s t).caught ≡ [] → Works (course s t) st.step.cmd → (course s t).stamp ≡ Some stamp → (course s t).fail ≡ Some d → x.mem ≡ Vram → has_frame x ≡ true
    → measure script (applied script s (actor.Thread t) (kind.Depopulate b)) + 1 ≤ measure script s
depopulate_falls script s t b x stamp d known st live member alone works e fail m f =
    give_falls script s t (kind.Depopulate b) known st b x without_frames live refl (λ y h. untouched script s t (kind.Depopulate b) y h) member
    (2 * frame_count x) (frame_count x) refl alone refl stamp d works e fail (depopulated_fewer s.core.buffers b) (frames_given x m) (frames_rise x m) (let some = some_frame x.table f in omega (arith, some))

pub untake_falls : (script : Script) (s : State) (t : ℕ) (b : BufId) (x : Buffer) (stamp : Stamp) (d : Deny) (m : Mem) → Known script s → (st : Stepped script s t (kind.Untake b m)) → live_in s.core.buffers b ≡ Some x → has_buffer (named st.step.cmd) b ≡ true
    → (course s t).caught ≡ [] → Works (course s t) st.step.cmd → (course s t).stamp ≡ Some stamp → (course s t).fail ≡ Some d → has_target m x ≡ true
    → measure script (applied script s (actor.Thread t) (kind.Untake b m)) + 1 ≤ measure script s
untake_falls script s t b x stamp d m known st live member alone works e fail h =
    give_falls script s t (kind.Untake b m) known st b x (with_spans m None) live refl (λ y q. untouched script s t (kind.Untake b m) y q) member
    1 0 refl alone refl stamp d works e fail (untaken_fewer m s.core.buffers b) (target_given m x h) (omega arith) (omega arith)
