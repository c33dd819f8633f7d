-- Holders in lists of reservations, what is live, and what keeps its length.
use Rattle.std.proofs.Common.{◌≡◌, ℕ, ◌<◌, zero, suc, Bool, true, false, List, [], ◌∷◌, length, Option, Some, None, IsSome, refl, sym, ◌∙◌, ap, subst, arith, ⊎_elim}
use Rattle.std.specs.Prelude.{slice_get, slice_set, unwrap_or, is_some, is_none, option_map, option_and_then, fold, ◌&&◌, ◌==◌, ◌-◌, if◌then◌else◌, not}
use Rattle.std.proofs.lemmas.Bool.{and_parts, or_parts, or_cases}
use Rattle.std.proofs.Math.ListN.{length-set}
use Rattle.ttm_base.specs.declared.BufId.{BufId}
use Rattle.ttm_base.specs.declared.Stamp.{Stamp}
use Rattle.ttm_base.specs.declared.JobId.{JobId}
use Rattle.ttm_base.specs.declared.Op.{Op}
use Rattle.ttm_base.specs.declared.Place.{Place}
use Rattle.ttm_base.specs.Reach.{same_mem}
use Rattle.ttm_base.specs.Reach.{intersects}
use Rattle.ttm_base.specs.declared.Actor.TheVariants as actor
use Rattle.journal_model.specs.declared.script.Script.{Script}
use Rattle.journal_model.specs.declared.script.Command.{Command}
use Rattle.journal_model.specs.declared.script.Command.TheVariants as command
use Rattle.journal_model.specs.declared.state.State.{State}
use Rattle.journal_model.specs.declared.state.Reservation.{Reservation}
use Rattle.journal_model.specs.declared.state.Buffer.{Buffer}
use Rattle.journal_model.specs.declared.entry.Kind.{Kind}
use Rattle.journal_model.specs.declared.entry.Kind.TheVariants as kind
use Rattle.journal_model.specs.declared.state.Course.{Course}
use Rattle.journal_model.specs.rules.State.{new_buffer, same_buffer, has_buffer, live_in, is_live, buffer, changed, no_reservation, reservation_in, reservation, reservation_changed, course, course_of}
use Rattle.journal_model.specs.rules.Commands.{command_at_work}
use Rattle.journal_model.specs.rules.Dry.{is_loose, is_evictable, victim, swap_victim, has_frame}
use Rattle.journal_model.specs.rules.Lists.{in_order}
use Rattle.journal_model.specs.rules.Choice.{reach_of}
use Rattle.journal_model.specs.rules.Apply.{applied}
use Rattle.journal_model.specs.rules.ApplyCommands.{with_holder, released, with_pins, pinned_more, pinned_less}
use Rattle.journal_model.specs.rules.ApplyJobs.{with_use}
use Rattle.journal_model.proofs.KeptLengths.{length-applied}
use Rattle.laws.proofs.law_state.JournalCourses.{next_course, others_kept, courses_after}
use Rattle.laws.proofs.law_state.Lists.{set_at, live_changed}
use Rattle.laws.proofs.law_sound.Bufs.{same_self, same_is, same_or_other, found_passes, clash}
use Rattle.laws.proofs.law_sound.Owners.{OneCourse}

-- ---- one reservation set

gone_at : (reservations : List Reservation) (i : ℕ) (g : Reservation) → g.holder ≡ None → (unwrap_or (slice_get (slice_set reservations i g) i) no_reservation).holder ≡ None
gone_at [] i g h = refl
gone_at (x ∷ xs) zero g h = h
gone_at (x ∷ xs) (suc i) g h = gone_at xs i g h

pub reservation_other : (reservations : List Reservation) (b d : BufId) (g : Reservation) → (d ≡ b → ⊥) → reservation_in (slice_set reservations b.0 g) d ≡ reservation_in reservations d
reservation_other reservations b d g n = ⊎_elim (λ e. ap (λ o. unwrap_or o no_reservation) e) (λ e. absurd (n (ap (λ i. record { 0 = i }) (sym e.0)))) (set_at reservations b.0 d.0 g)

here_at : (reservations : List Reservation) (i : ℕ) (g : Reservation) → i < length reservations → slice_get (slice_set reservations i g) i ≡ Some g
here_at [] i g h = absurd (omega arith)
here_at (x ∷ xs) zero g h = refl
here_at (x ∷ xs) (suc i) g h = here_at xs i g (omega arith)

pub reservation_here : (reservations : List Reservation) (b : BufId) (g : Reservation) → b.0 < length reservations → reservation_in (slice_set reservations b.0 g) b ≡ g
reservation_here reservations b g h = ap (λ o. unwrap_or o no_reservation) (here_at reservations b.0 g h)

pub reservation_gone : (reservations : List Reservation) (b : BufId) (g : Reservation) → g.holder ≡ None → (reservation_in (slice_set reservations b.0 g) b).holder ≡ None
reservation_gone reservations b g h = gone_at reservations b.0 g h

-- ---- several let go

stays_none : (bs : List BufId) (reservations : List Reservation) (d : BufId) → (reservation_in reservations d).holder ≡ None → (reservation_in (released reservations bs) d).holder ≡ None
stays_none [] reservations d h = h
stays_none (b ∷ bs) reservations d h =
    stays_none bs (reservation_changed (with_holder None) reservations b) d
    (⊎_elim
    (λ e. subst (λ z. (reservation_in (reservation_changed (with_holder None) reservations b) z).holder ≡ None) (sym e) (reservation_gone reservations b (with_holder None (reservation_in reservations b)) refl))
    (λ n. ap (λ g. g.holder) (reservation_other reservations b d (with_holder None (reservation_in reservations b)) n) ∙ h)
    (same_or_other d b))

pub released_gone : (bs : List BufId) (reservations : List Reservation) (d : BufId) → has_buffer bs d ≡ true → (reservation_in (released reservations bs) d).holder ≡ None
released_gone [] reservations d h = cc
released_gone (b ∷ bs) reservations d h =
    ⊎_elim
    (λ q.
    stays_none bs (reservation_changed (with_holder None) reservations b) d
    (subst (λ z. (reservation_in (reservation_changed (with_holder None) reservations b) z).holder ≡ None) (sym (same_is d b q)) (reservation_gone reservations b (with_holder None (reservation_in reservations b)) refl)))
    (λ q. released_gone bs (reservation_changed (with_holder None) reservations b) d q)
    (or_cases (same_buffer d b) (has_buffer bs d) h)

pub released_other : (bs : List BufId) (reservations : List Reservation) (d : BufId) → has_buffer bs d ≡ false → reservation_in (released reservations bs) d ≡ reservation_in reservations d
released_other [] reservations d h = refl
released_other (b ∷ bs) reservations d h =
    let p = or_parts (same_buffer d b) (has_buffer bs d) h in
    released_other bs (reservation_changed (with_holder None) reservations b) d p.1
    ∙ reservation_other reservations b d (with_holder None (reservation_in reservations b)) (λ e. clash (sym (subst (λ z. same_buffer d z ≡ true) e (same_self d)) ∙ p.0))

-- a pin changes no holder
pin_set : (reservations : List Reservation) (b d : BufId) (g : Reservation) → g.holder ≡ (reservation_in reservations b).holder → (reservation_in (slice_set reservations b.0 g) d).holder ≡ (reservation_in reservations d).holder
pin_set reservations b d g h =
    ⊎_elim
    (λ e. ap (λ o. (unwrap_or o no_reservation).holder) e)
    (λ e. ap (λ o. (unwrap_or o no_reservation).holder) e.1 ∙ (h ∙ ap (λ i. (unwrap_or (slice_get reservations i) no_reservation).holder) e.0))
    (set_at reservations b.0 d.0 g)

pub pins_hold : (o : Option Command) (reservations : List Reservation) (d : BufId) → (reservation_in (with_pins o reservations) d).holder ≡ (reservation_in reservations d).holder
pins_hold None reservations d = refl
pins_hold (Some (command.Pin b)) reservations d = pin_set reservations b d (pinned_more (reservation_in reservations b)) refl
pins_hold (Some (command.Unpin b)) reservations d = pin_set reservations b d (pinned_less (reservation_in reservations b)) refl
pins_hold (Some cmd) reservations d = refl

-- ---- what is live

pub live_same : (f : Buffer → Buffer) (buffers : List (Option Buffer)) (b d : BufId) → is_some (live_in (changed f buffers b) d) ≡ is_some (live_in buffers d)
live_same f buffers b d = ⊎_elim (λ e. ap is_some e) (λ e. ap is_some e ∙ some_map (live_in buffers d)) (live_changed f buffers b d)
  where
    some_map : (o : Option Buffer) → is_some (option_map f o) ≡ is_some o
    some_map None = refl
    some_map (Some x) = refl

pub live_uses : (job : JobId) (ops : List Op) (buffers : List (Option Buffer)) (bs : List BufId) (d : BufId) → is_some (live_in (fold (with_use job ops) buffers bs) d) ≡ is_some (live_in buffers d)
live_uses job ops buffers [] d = refl
live_uses job ops buffers (b ∷ bs) d = live_uses job ops (with_use job ops buffers b) bs d ∙ live_same _ buffers b d

pub live_set : (buffers : List (Option Buffer)) (b d : BufId) (o : Option Buffer) → (d ≡ b → ⊥) → live_in (slice_set buffers b.0 o) d ≡ live_in buffers d
live_set buffers b d o n = ⊎_elim (λ e. ap (option_and_then (λ x. x)) e) (λ e. absurd (n (ap (λ i. record { 0 = i }) (sym e.0)))) (set_at buffers b.0 d.0 o)

pub live_more : (buffers : List (Option Buffer)) (b d : BufId) (x : Buffer) → is_some (live_in buffers d) ≡ true → is_some (live_in (slice_set buffers b.0 (Some x)) d) ≡ true
live_more buffers b d x h =
    ⊎_elim (λ e. ap (λ o. is_some (option_and_then (λ y. y) o)) e ∙ h) (λ e. ap (λ o. is_some (option_and_then (λ y. y) o)) e.1) (set_at buffers b.0 d.0 (Some x))

pub live_within : (buffers : List (Option Buffer)) (i : ℕ) → is_some (option_and_then (λ x. x) (slice_get buffers i)) ≡ true → i < length buffers
live_within [] i h = cc
live_within (x ∷ xs) zero h = omega arith
live_within (x ∷ xs) (suc i) h = let l : i < length xs = live_within xs i h in omega arith

-- ---- victims are live and have no holder

pub record IsFree (s : State) (b : BufId) : Type 0 where
  pub live : is_live s b ≡ true
  pub loose : is_loose (reservation s b) ≡ true
  pub free : (reservation s b).holder ≡ None

loose_free : (g : Reservation) → is_loose g ≡ true → g.holder ≡ None
loose_free g h = by g.holder (and_parts (g.pins == 0) (is_none g.holder) h).1
  where
    by : (o : Option Stamp) → is_none o ≡ true → o ≡ None
    by None e = refl
    by (Some st) e = cc

pub victim_passes : (script : Script) (s : State) (skips : List BufId) (place : Place) (v : BufId) → victim script s skips place ≡ Some v → is_evictable script s skips place v ≡ true
victim_passes script s skips place v h = found_passes (is_evictable script s skips place) (in_order s place.mem) v h

pub victim_free : (script : Script) (s : State) (skips : List BufId) (place : Place) (v : BufId) → victim script s skips place ≡ Some v → IsFree s v
victim_free script s skips place v h =
    let p = victim_passes script s skips place v h in
    let l = loose script place p in
    record { live = by (live_in s.core.buffers v) p; loose = l; free = loose_free (reservation s v) l }
  where
    by : (o : Option Buffer) → (same_mem (unwrap_or o (new_buffer 0)).mem place.mem && intersects (unwrap_or o (new_buffer 0)).spans (reach_of script place) && is_loose (reservation s v) && not (has_buffer skips v)) ≡ true → is_some o ≡ true
    by (Some x) k = refl
    by None k = grind arith

    loose : (script : Script) (place : Place) → is_evictable script s skips place v ≡ true → is_loose (reservation s v) ≡ true
    loose script place k = grind arith

pub swap_passes : (s : State) (v : BufId) → swap_victim s ≡ Some v → (is_loose (reservation s v) && has_frame (buffer s v)) ≡ true
swap_passes s v h = found_passes (λ b. is_loose (reservation s b) && has_frame (buffer s b)) _ v h

pub swap_free : (s : State) (v : BufId) → swap_victim s ≡ Some v → IsFree s v
swap_free s v h =
    let p = and_parts (is_loose (reservation s v)) (has_frame (buffer s v)) (swap_passes s v h) in
    record { live = by (live_in s.core.buffers v) p.1; loose = p.0; free = loose_free (reservation s v) p.0 }
  where
    by : (o : Option Buffer) → has_frame (unwrap_or o (new_buffer 0)) ≡ true → is_some o ≡ true
    by (Some x) k = refl
    by None k = cc

-- ---- lengths

length-released : (bs : List BufId) (reservations : List Reservation) → length (released reservations bs) ≡ length reservations
length-released [] reservations = refl
length-released (b ∷ bs) reservations = length-released bs (reservation_changed (with_holder None) reservations b) ∙ length-set reservations b.0 _

length-pins : (o : Option Command) (reservations : List Reservation) → length (with_pins o reservations) ≡ length reservations
length-pins None reservations = refl
length-pins (Some (command.Pin b)) reservations = length-set reservations b.0 _
length-pins (Some (command.Unpin b)) reservations = length-set reservations b.0 _
length-pins (Some cmd) reservations = refl

length-reservations : (script : Script) (s : State) (t : ℕ) (k : Kind) → length (applied script s (actor.Thread t) k).reservations ≡ length s.reservations
length-reservations script s t (kind.Reserve b) = length-set s.reservations b.0 _
length-reservations script s t (kind.Backoff b stamp) = length-released (course s t).held s.reservations
length-reservations script s t (kind.New b) = length-set s.reservations b.0 _
length-reservations script s t (kind.Free b g) = length-set s.reservations b.0 _
length-reservations script s t (kind.Catch b w) = length-set s.reservations b.0 _
length-reservations script s t (kind.Loose b) = length-set s.reservations b.0 _
length-reservations script s t (kind.Skip b) = length-set s.reservations b.0 _
length-reservations script s t (kind.Result r) = length-pins (command_at_work script s t) (released s.reservations (course s t).held) ∙ length-released (course s t).held s.reservations
length-reservations script s t (kind.Refused d) = length-released (course s t).held s.reservations
length-reservations script s t k = refl

length-courses : (script : Script) (s : State) (t : ℕ) (k : Kind) → length (applied script s (actor.Thread t) k).courses ≡ length s.courses
length-courses script s t k = ⊎_elim (λ e. ap length e ∙ set (t == 0) (next_course script s t k)) (λ e. ap length e.0) (courses_after script s t k)
  where
    set : (q : Bool) (c : Course) → length (if q then s.courses else slice_set s.courses (t - 1) c) ≡ length s.courses
    set true c = refl
    set false c = length-set s.courses (t - 1) c

pub one_course : (script : Script) (s : State) (t : ℕ) (k : Kind) → IsSome (course_of s t) → OneCourse s (applied script s (actor.Thread t) k) t
one_course script s t k here =
    record {
      lengths = record { courses = length-courses script s t k; reservations = length-reservations script s t k; buffers = length-applied script s (actor.Thread t) k };
      others = λ u d. others_kept script s t u k here d;
    }
