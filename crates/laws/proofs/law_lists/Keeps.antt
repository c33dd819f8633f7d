-- Each entry leaves each buffer on its own list.
use Rattle.std.proofs.Common.{◌≡◌, ℕ, ◌<◌, zero, suc, Bool, true, false, List, [], ◌∷◌, length, Option, Some, None, refl, sym, ◌∙◌, ap, ap₂, subst, arith, ◌⊎◌, inl, inr, ⊎_elim}
use Rattle.std.specs.Prelude.{slice_get, slice_set, fold, cond, unwrap_or, option_map, option_and_then}
use Rattle.std.proofs.lemmas.Bool.{ltb-true, or_left}
use Rattle.ttm_base.specs.declared.Mem.{Mem}
use Rattle.ttm_base.specs.declared.Mem.TheVariants.{System, Tt, Vram}
use Rattle.ttm_base.specs.declared.BufId.{BufId}
use Rattle.ttm_base.specs.declared.JobId.{JobId}
use Rattle.ttm_base.specs.declared.Op.{Op}
use Rattle.ttm_base.specs.declared.Loc.TheVariants as loc
use Rattle.ttm_base.specs.declared.Usage.TheVariants as usage
use Rattle.ttm_base.specs.declared.Actor.{Actor}
use Rattle.ttm_base.specs.declared.Actor.TheVariants as actor
use Rattle.journal_model.specs.declared.script.Script.{Script}
use Rattle.journal_model.specs.declared.script.Command.{Command}
use Rattle.journal_model.specs.declared.script.Command.TheVariants as command
use Rattle.journal_model.specs.declared.state.State.{State}
use Rattle.journal_model.specs.declared.state.Buffer.{Buffer}
use Rattle.journal_model.specs.declared.state.Reservation.{Reservation}
use Rattle.journal_model.specs.declared.state.Course.{Course}
use Rattle.journal_model.specs.declared.state.Task.{Task}
use Rattle.journal_model.specs.declared.state.Task.TheVariants as task
use Rattle.journal_model.specs.declared.entry.Kind.{Kind}
use Rattle.journal_model.specs.declared.entry.Kind.TheVariants as kind
use Rattle.journal_model.specs.declared.entry.Shown.{Shown}
use Rattle.journal_model.specs.rules.State.{new_buffer, reservation_in, no_reservation, reservation_changed, live_in, changed, has_buffer, same_buffer, course}
use Rattle.journal_model.specs.rules.Commands.{decl, named, command_at_work}
use Rattle.journal_model.specs.scripts.CommandRules.{is_command}
use Rattle.journal_model.specs.rules.Lists.{taken_off, listed_as, touched}
use Rattle.journal_model.specs.rules.Waits.{use_of, jobs_before_target}
use Rattle.journal_model.specs.rules.Apply.{applied}
use Rattle.journal_model.specs.rules.ApplyCommands.{with_holder, released, with_pins, pinned_more, pinned_less, named_in, held_as_named}
use Rattle.journal_model.specs.rules.ApplyJobs.{ops_of, with_use}
use Rattle.journal_model.specs.rules.ApplyPages.{with_fence, with_spans, with_loc, without_frames, with_kernel_fences, bound, unbound}
use Rattle.journal_model.specs.rules.ApplyMoves.{moved}
use Rattle.journal_model.specs.rules.ApplyVictims.{leaves_tt}
use Rattle.laws.specs.law_state.GoodState.{GoodState}
use Rattle.laws.specs.law_state.Courses.{GoodCourses, makes as asks_to_make}
use Rattle.laws.proofs.law_state.Rules.{Rules, at_work_rules}
use Rattle.laws.proofs.law_state.Lists.{set_at, live_changed}
use Rattle.laws.proofs.law_state.Pins.{at_number}
use Rattle.laws.proofs.law_state.Courses.{is_shown_by, shown_by_task}
use Rattle.laws.proofs.law_sound.Turns.{Turn, answer, act}
use Rattle.laws.proofs.law_sound.Gifts.{Gives, makes, seeks, fills}
use Rattle.laws.proofs.law_sound.Bufs.{same_self, same_or_other, none_missing, clash}
use Rattle.laws.proofs.law_sound.Reservations.{reservation_other, live_set}
use Rattle.laws.proofs.law_sound.Along.{Stepped, OfWorker, packet, done, reap}
use Rattle.laws.proofs.law_lists.OneList.{list_of, list_in}
use Rattle.laws.proofs.law_lists.TwelveLists.{Fit, set_here, fit_same, fit_bulk, fit_off, fit_listed, fit_touched, fit_all_touched}

-- each buffer is where it belongs, by its pins and its memory type
abbrev pub AreListed : Script → State → Type 0
AreListed script s = Fit script (list_in script s.reservations s.core.buffers) s.lists

-- ---- pins

pins_set : (reservations : List Reservation) (b d : BufId) (g : Reservation) → g.pins ≡ (reservation_in reservations b).pins → (reservation_in (slice_set reservations b.0 g) d).pins ≡ (reservation_in reservations d).pins
pins_set reservations b d g h =
    ⊎_elim
    (λ e. ap (λ o. (unwrap_or o no_reservation).pins) e)
    (λ e. ap (λ o. (unwrap_or o no_reservation).pins) e.1 ∙ (h ∙ ap (λ i. (unwrap_or (slice_get reservations i) no_reservation).pins) e.0))
    (set_at reservations b.0 d.0 g)

pins_released : (bs : List BufId) (reservations : List Reservation) (d : BufId) → (reservation_in (released reservations bs) d).pins ≡ (reservation_in reservations d).pins
pins_released [] reservations d = refl
pins_released (b ∷ bs) reservations d = pins_released bs (reservation_changed (with_holder None) reservations b) d ∙ pins_set reservations b d (with_holder None (reservation_in reservations b)) refl

fresh_reservation : (reservations : List Reservation) (b : BufId) → reservation_in (slice_set reservations b.0 no_reservation) b ≡ no_reservation
fresh_reservation reservations b = at reservations b.0
  where
    at : (gs : List Reservation) (i : ℕ) → unwrap_or (slice_get (slice_set gs i no_reservation) i) no_reservation ≡ no_reservation
    at [] i = refl
    at (x ∷ xs) zero = refl
    at (x ∷ xs) (suc i) = at xs i

-- ---- where buffers stand

gone : (buffers : List (Option Buffer)) (b : BufId) → live_in (slice_set buffers b.0 None) b ≡ None
gone buffers b = at buffers b.0
  where
    at : (xs : List (Option Buffer)) (i : ℕ) → option_and_then (λ x. x) (slice_get (slice_set xs i None) i) ≡ None
    at [] i = refl
    at (x ∷ xs) zero = refl
    at (x ∷ xs) (suc i) = at xs i

same_mem : (script : Script) (f : Buffer → Buffer) → ((x : Buffer) → (f x).mem ≡ x.mem) → (d : BufId) (pins : ℕ) (o : Option Buffer) → list_of script d pins (option_map f o) ≡ list_of script d pins o
same_mem script f same d pins None = refl
same_mem script f same d pins (Some x) = ap (λ m. list_of script d pins (Some (record x { mem = m }))) (same x)

list_changed : (script : Script) (f : Buffer → Buffer) → ((x : Buffer) → (f x).mem ≡ x.mem) → (buffers : List (Option Buffer)) (b d : BufId) (pins : ℕ) → list_of script d pins (live_in (changed f buffers b) d) ≡ list_of script d pins (live_in buffers d)
list_changed script f same buffers b d pins =
    ⊎_elim (λ e. ap (list_of script d pins) e) (λ e. ap (list_of script d pins) e ∙ same_mem script f same d pins (live_in buffers d)) (live_changed f buffers b d)

list_used : (script : Script) (job : JobId) (ops : List Op) (bs : List BufId) (buffers : List (Option Buffer)) (d : BufId) (pins : ℕ) → list_of script d pins (live_in (fold (with_use job ops) buffers bs) d) ≡ list_of script d pins (live_in buffers d)
list_used script job ops [] buffers d pins = refl
list_used script job ops (b ∷ bs) buffers d pins = list_used script job ops bs (with_use job ops buffers b) d pins ∙ list_changed script (with_fence job (use_of ops b)) (λ x. refl) buffers b d pins

fenced_mem : (jobs : List JobId) (x : Buffer) → (with_kernel_fences jobs x).mem ≡ x.mem
fenced_mem [] x = refl
fenced_mem (j ∷ jobs) x = fenced_mem jobs (with_fence j usage.Kernel x)

leaves_mem : (m : Mem) (x : Buffer) → (leaves_tt m x).mem ≡ x.mem
leaves_mem System x = refl
leaves_mem Tt x = refl
leaves_mem Vram x = refl

-- ---- kinds that leave lists alone

module _ (script : Script) (s : State) (h : AreListed script s) where
  -- other reservations with as many pins
  other_reservations : (reservations : List Reservation) → ((d : BufId) → (reservation_in reservations d).pins ≡ (reservation_in s.reservations d).pins) → Fit script (list_in script reservations s.core.buffers) s.lists
  other_reservations reservations same = fit_same script (list_in script s.reservations s.core.buffers) (list_in script reservations s.core.buffers) s.lists (λ d. ap (λ p. list_of script d p (live_in s.core.buffers d)) (same d)) h

  -- one buffer changed where it stands
  one_changed : (f : Buffer → Buffer) → ((x : Buffer) → (f x).mem ≡ x.mem) → (b : BufId) → Fit script (list_in script s.reservations (changed f s.core.buffers b)) s.lists
  one_changed f same b =
      fit_same script (list_in script s.reservations s.core.buffers) (list_in script s.reservations (changed f s.core.buffers b)) s.lists (λ d. list_changed script f same s.core.buffers b d (reservation_in s.reservations d).pins) h

  -- ---- kinds that list a buffer again

  new_listed : Rules script → (b : BufId) → b.0 < length s.core.buffers → (x : Buffer) → Fit script (list_in script (slice_set s.reservations b.0 no_reservation) (slice_set s.core.buffers b.0 (Some x))) (listed_as script s.lists b no_reservation (Some x))
  new_listed r b within x =
      fit_listed script b r (list_in script s.reservations s.core.buffers) (list_in script (slice_set s.reservations b.0 no_reservation) (slice_set s.core.buffers b.0 (Some x))) s.lists no_reservation (Some x)
      (λ d n. ap₂ (λ g o. list_of script d g.pins o) (reservation_other s.reservations b d no_reservation n) (live_set s.core.buffers b d (Some x) n))
      (ap₂ (λ g o. list_of script b g.pins o) (fresh_reservation s.reservations b) (ap (option_and_then (λ y. y)) (set_here s.core.buffers b.0 (Some x) within))) h

  free_listed : (b : BufId) → Fit script (list_in script (slice_set s.reservations b.0 no_reservation) (slice_set s.core.buffers b.0 None)) (taken_off s.lists b)
  free_listed b =
      fit_off script b (list_in script s.reservations s.core.buffers) (list_in script (slice_set s.reservations b.0 no_reservation) (slice_set s.core.buffers b.0 None)) s.lists
      (λ d n. ap₂ (λ g o. list_of script d g.pins o) (reservation_other s.reservations b d no_reservation n) (live_set s.core.buffers b d None n))
      (ap (list_of script b (reservation_in (slice_set s.reservations b.0 no_reservation) b).pins) (gone s.core.buffers b)) h

  relisted : Rules script → (f : Buffer → Buffer) (b : BufId) → Fit script (list_in script s.reservations (changed f s.core.buffers b)) (touched script (changed f s.core.buffers b) s.reservations s.lists b)
  relisted r f b =
      fit_touched script r (changed f s.core.buffers b) s.reservations (list_in script s.reservations s.core.buffers) s.lists b
      (λ d n. ap (list_of script d (reservation_in s.reservations d).pins) (live_set s.core.buffers b d (option_map f (live_in s.core.buffers b)) n)) h

  loose_listed : Rules script → (b : BufId) (g : Reservation) → Fit script (list_in script (slice_set s.reservations b.0 g) s.core.buffers) (touched script s.core.buffers (slice_set s.reservations b.0 g) s.lists b)
  loose_listed r b g =
      fit_touched script r s.core.buffers (slice_set s.reservations b.0 g) (list_in script s.reservations s.core.buffers) s.lists b
      (λ d n. ap (λ z. list_of script d z.pins (live_in s.core.buffers d)) (reservation_other s.reservations b d g n)) h

-- ---- a result

-- a command that pins or unpins holds its buffer when it is answered
abbrev HoldsPinned : Course → Option Command → Type 0
HoldsPinned c o = (b : BufId) → (o ≡ Some (command.Pin b)) ⊎ (o ≡ Some (command.Unpin b)) → has_buffer c.held b ≡ true

pins_elsewhere : (c : Course) (o : Option Command) (reservations : List Reservation) → HoldsPinned c o → (d : BufId) → has_buffer (held_as_named c o) d ≡ false → (reservation_in (with_pins o reservations) d).pins ≡ (reservation_in reservations d).pins
pins_elsewhere c None reservations held d h = refl
pins_elsewhere c (Some (command.Pin b)) reservations held d h = by (same_or_other d b)
  where
    there : (q : Bool) → q ≡ true → has_buffer (cond q (b ∷ []) []) b ≡ true
    there true e = or_left (same_buffer b b) false (same_self b)
    there false e = cc

    by : (d ≡ b) ⊎ (d ≡ b → ⊥) → (reservation_in (slice_set reservations b.0 (pinned_more (reservation_in reservations b))) d).pins ≡ (reservation_in reservations d).pins
    by (inl e) = absurd (clash (sym (there (has_buffer c.held b) (held b (inl refl))) ∙ subst (λ z. has_buffer (held_as_named c (Some (command.Pin b))) z ≡ false) e h))
    by (inr n) = ap (λ g. g.pins) (reservation_other reservations b d (pinned_more (reservation_in reservations b)) n)
pins_elsewhere c (Some (command.Unpin b)) reservations held d h = by (same_or_other d b)
  where
    there : (q : Bool) → q ≡ true → has_buffer (cond q (b ∷ []) []) b ≡ true
    there true e = or_left (same_buffer b b) false (same_self b)
    there false e = cc

    by : (d ≡ b) ⊎ (d ≡ b → ⊥) → (reservation_in (slice_set reservations b.0 (pinned_less (reservation_in reservations b))) d).pins ≡ (reservation_in reservations d).pins
    by (inl e) = absurd (clash (sym (there (has_buffer c.held b) (held b (inr refl))) ∙ subst (λ z. has_buffer (held_as_named c (Some (command.Unpin b))) z ≡ false) e h))
    by (inr n) = ap (λ g. g.pins) (reservation_other reservations b d (pinned_less (reservation_in reservations b)) n)
pins_elsewhere c (Some (command.New b)) reservations held d h = refl
pins_elsewhere c (Some cmd) reservations held d h = refl

-- it pins or unpins the buffer
abbrev Pins : Command → BufId → Type 0
Pins cmd b = (cmd ≡ command.Pin b) ⊎ (cmd ≡ command.Unpin b)

pins_unmade : (cmd : Command) (b : BufId) → Pins cmd b → asks_to_make cmd ≡ true → ⊥
pins_unmade cmd b (inl e) h = clash (sym h ∙ ap asks_to_make e)
pins_unmade cmd b (inr e) h = clash (sym h ∙ ap asks_to_make e)

pins_named : (cmd : Command) (b : BufId) → Pins cmd b → has_buffer (named cmd) b ≡ true
pins_named cmd b (inl e) = ap (λ k. has_buffer (named k) b) e ∙ or_left (same_buffer b b) false (same_self b)
pins_named cmd b (inr e) = ap (λ k. has_buffer (named k) b) e ∙ or_left (same_buffer b b) false (same_self b)

held_at : (script : Script) (s : State) (c : Course) (cmd : Command) (t : Task) (r : Shown) → Turn script s c cmd t → is_shown_by cmd t (kind.Result r) ≡ true → (c.made ≡ true → asks_to_make cmd ≡ true) → (b : BufId) → Pins cmd b → has_buffer c.held b ≡ true
held_at script s c cmd task.Answer r (answer made) g m b p = absurd (pins_unmade cmd b p (m made))
held_at script s c cmd task.Act r (act on a f u) g m b p = none_missing c cmd b on.works.whole (pins_named cmd b p)
held_at script s c cmd t r turn g m b p = cc

result_holds : (script : Script) (s : State) (t : ℕ) (r : Shown) → GoodCourses script s → Stepped script s t (kind.Result r) → HoldsPinned (course s t) (command_at_work script s t)
result_holds script s t r good st b p =
    held_at script s (course s t) st.step.cmd st.step.task r st.turn (shown_by_task script s (course s t) st.step.cmd st.step.task (kind.Result r) st.step.step)
    (good.makes t st.step.cmd (at_number script s t st.step.cmd st.step.at_work)) b
    (⊎_elim (λ e. inl (same st.step.cmd (command.Pin b) (sym st.step.at_work ∙ e))) (λ e. inr (same st.step.cmd (command.Unpin b) (sym st.step.at_work ∙ e))) p)
  where
    same : (x y : Command) → Some x ≡ Some y → x ≡ y
    same x y e = cc

-- ---- each entry

new_command : (script : Script) (s : State) (c : Course) (cmd : Command) (t : Task) (b : BufId) → Gives script s c cmd t (kind.New b) → cmd ≡ command.New b
new_command script s c cmd t b (makes e l) = e
new_command script s c cmd t b (seeks sought) = elim sought [ ]
new_command script s c cmd t b (fills filled) = elim filled [ ]

-- a buffer that is made is declared
new_within : (script : Script) → Rules script → (s : State) (t : ℕ) (b : BufId) → GoodState script s → Stepped script s t (kind.New b) → b.0 < length s.core.buffers
new_within script r s t b good st = declared (new_command script s (course s t) st.step.cmd st.step.task b st.gives)
  where
    declared : st.step.cmd ≡ command.New b → b.0 < length s.core.buffers
    declared e =
        let ok : is_command script (command.New b) ≡ true = subst (λ k. is_command script k ≡ true) e (at_work_rules script r s t st.step.cmd st.step.at_work).command in
        let low = ltb-true b.0 (length script.buffers) ok in
        let many = good.many in
        omega (arith, low, many)

module _ (script : Script) (r : Rules script) (s : State) (t : ℕ) (good : GoodState script s) (courses : GoodCourses script s) (h : AreListed script s) where
  pub listed_keeps : (k : Kind) → Stepped script s t k → AreListed script (applied script s (actor.Thread t) k)
  listed_keeps (kind.Reserve b) st = other_reservations script s h (reservation_changed (with_holder (course s t).stamp) s.reservations b) (λ d. pins_set s.reservations b d (with_holder (course s t).stamp (reservation_in s.reservations b)) refl)
  listed_keeps (kind.Backoff b stamp) st = other_reservations script s h (released s.reservations (course s t).held) (pins_released (course s t).held s.reservations)
  listed_keeps (kind.New b) st = new_listed script s h r b (new_within script r s t b good st) (new_buffer (decl script b).pages)
  listed_keeps (kind.Free b g) st = free_listed script s h b
  listed_keeps (kind.Take b mem spans) st =
      one_changed script s h (λ x. with_kernel_fences (jobs_before_target s.core mem) (with_spans mem (Some spans) x)) (λ x. fenced_mem (jobs_before_target s.core mem) (with_spans mem (Some spans) x)) b
  listed_keeps (kind.Untake b mem) st = one_changed script s h (with_spans mem None) (λ x. refl) b
  listed_keeps (kind.Populate b page frame) st = one_changed script s h (with_loc page (loc.Frame frame)) (λ x. refl) b
  listed_keeps (kind.SwapIn b page slot frame) st = one_changed script s h (with_loc page (loc.Frame frame)) (λ x. refl) b
  listed_keeps (kind.Depopulate b) st = one_changed script s h without_frames (λ x. refl) b
  listed_keeps (kind.Bind b) st = relisted script s h r bound b
  listed_keeps (kind.Unbind b) st = relisted script s h r unbound b
  listed_keeps (kind.Move b mem n l) st = relisted script s h r (moved mem (record { ctx = 0; num = n })) b
  listed_keeps (kind.Catch b w) st =
      fit_same script (list_in script (reservation_changed (with_holder (course s t).stamp) s.reservations b) s.core.buffers) (list_in script (reservation_changed (with_holder (course s t).stamp) s.reservations b) (changed (λ x. leaves_tt x.mem x) s.core.buffers b)) s.lists
      (λ d. list_changed script (λ x. leaves_tt x.mem x) (λ x. leaves_mem x.mem x) s.core.buffers b d (reservation_in (reservation_changed (with_holder (course s t).stamp) s.reservations b) d).pins)
      (other_reservations script s h (reservation_changed (with_holder (course s t).stamp) s.reservations b) (λ d. pins_set s.reservations b d (with_holder (course s t).stamp (reservation_in s.reservations b)) refl))
  listed_keeps (kind.Loose b) st = loose_listed script s h r b (with_holder None (reservation_in s.reservations b))
  listed_keeps (kind.Skip b) st = other_reservations script s h (reservation_changed (with_holder None) s.reservations b) (λ d. pins_set s.reservations b d (with_holder None (reservation_in s.reservations b)) refl)
  listed_keeps (kind.SwapOut b page slot) st = one_changed script s h (with_loc page (loc.Slot slot)) (λ x. refl) b
  listed_keeps (kind.Arm engine n) st =
      fit_same script (list_in script s.reservations s.core.buffers) _ s.lists
      (λ d. list_used script (record { ctx = engine; num = n }) (ops_of (command_at_work script s t)) (named_in (command_at_work script s t)) s.core.buffers d (reservation_in s.reservations d).pins) h
  listed_keeps (kind.Bulk group) st = fit_bulk script (list_in script s.reservations s.core.buffers) group s.lists h
  listed_keeps (kind.Result shown) st =
      fit_all_touched script r s.core.buffers (with_pins (command_at_work script s t) (released s.reservations (course s t).held)) (held_as_named (course s t) (command_at_work script s t)) (list_in script s.reservations s.core.buffers) s.lists
      (λ d none.
      ap (λ p. list_of script d p (live_in s.core.buffers d))
      (pins_elsewhere (course s t) (command_at_work script s t) (released s.reservations (course s t).held) (result_holds script s t shown courses st) d none ∙ pins_released (course s t).held s.reservations d))
      h
  listed_keeps (kind.Refused d) st = other_reservations script s h (released s.reservations (course s t).held) (pins_released (course s t).held s.reservations)
  listed_keeps k st = h

pub listed_stays : (script : Script) (s : State) (who : Actor) (k : Kind) → OfWorker k → AreListed script s → AreListed script (applied script s who k)
listed_stays script s who k packet h = h
listed_stays script s who k done h = h
listed_stays script s who k reap h = h
