-- A held buffer with targets is the one at work, on its way to where the command wants it: what keeps this.
use Rattle.std.proofs.Common.{◌≡◌, ℕ, Bool, true, false, List, [], ◌∷◌, ◌++◌, length, Option, Some, None, refl, sym, ◌∙◌, ap, ap₂, subst, inl, ⊎_elim}
use Rattle.std.specs.Prelude.{slice_get, slice_set, map, option_to_list, find, cond, unwrap_or, is_none, not, ◌&&◌, if◌then◌else◌}
use Rattle.std.proofs.lemmas.Bool.{cases_Bool, both_ways, or_left, or_right}
use Rattle.ttm_base.specs.declared.BufId.{BufId}
use Rattle.ttm_base.specs.declared.Deny.{Deny}
use Rattle.ttm_base.specs.declared.Deny.TheVariants as deny
use Rattle.ttm_base.specs.Placement.{forced_places}
use Rattle.journal_model.specs.declared.script.Script.{Script}
use Rattle.journal_model.specs.declared.script.Command.{Command}
use Rattle.journal_model.specs.declared.script.Command.TheVariants as command
use Rattle.journal_model.specs.declared.state.State.{State}
use Rattle.journal_model.specs.declared.state.Course.{Course}
use Rattle.journal_model.specs.declared.state.Reservation.{Reservation}
use Rattle.journal_model.specs.declared.state.Task.{Task}
use Rattle.journal_model.specs.declared.state.Task.TheVariants as task
use Rattle.journal_model.specs.declared.entry.Kind.{Kind}
use Rattle.journal_model.specs.declared.entry.Kind.TheVariants as kind
use Rattle.journal_model.specs.declared.entry.Shown.{Shown}
use Rattle.journal_model.specs.rules.State.{new_buffer, buffer, reservation, reservation_in, no_reservation, reservation_changed, course, has_buffer, same_buffer}
use Rattle.journal_model.specs.rules.Commands.{named, command_at_work}
use Rattle.journal_model.specs.rules.Ready.{is_in_place, is_filled, is_ready, first_unready, has_some_target}
use Rattle.journal_model.specs.rules.Search.{is_caught, place_search_at_work}
use Rattle.journal_model.specs.rules.Tasks.{starts}
use Rattle.journal_model.specs.rules.ApplyCommands.{with_holder, released, with_pins, pinned_more, pinned_less}
use Rattle.journal_model.specs.rules.ApplyPages.{search_over}
use Rattle.journal_model.specs.rules.ApplyVictims.{failed_if, with_fail, gone_dry, course_after_dry}
use Rattle.laws.specs.law_state.Courses.{GoodCourses, makes}
use Rattle.laws.proofs.law_state.Lists.{set_at}
use Rattle.laws.specs.law_sound.Sound.{Has, Owned, Carried, Fits, asks, command_of}
use Rattle.laws.proofs.law_sound.Along.{Stepped}
use Rattle.laws.proofs.law_sound.Turns.{Turn, Works, answer, act}
use Rattle.laws.proofs.law_sound.Gifts.{Gives, answers, seeks, fills, acts}
use Rattle.laws.proofs.law_sound.Bufs.{same_self, same_is, same_or_other, has_found, none_missing, clash}
use Rattle.laws.proofs.law_sound.Owners.{OneCourse, none_or}
use Rattle.laws.proofs.law_sound.Reservations.{reservation_other}
use Rattle.laws.proofs.law_sound.OwnedKeeps.{HasIn}
use Rattle.laws.proofs.lemma_end_measure.Frame.{touches, untouched, touched_mine}
use Rattle.laws.proofs.lemma_end_measure.Parts.{after}
use Rattle.laws.proofs.lemma_end_ways.Rows.{carried_map}

-- a held buffer on its way
pub record OnWay (script : Script) (s : State) (c : Course) (cmd : Command) (b : BufId) : Type 0 where
  pub works : Works c cmd
  pub first : first_unready script s cmd ≡ Some b
  pub asked : asks cmd ≡ true
  pub loose : (reservation s b).pins ≡ 0
  pub row : Carried (Fits script c cmd b (buffer s b)) (buffer s b)

-- a buffer with targets has a holder, and where a thread holds it by name, it is on its way
pub record Carrying (script : Script) (s : State) : Type 0 where
  pub targets : (b : BufId) → has_some_target (buffer s b) ≡ true → (reservation s b).holder ≡ None → ⊥
  pub carried : (t : ℕ) (cmd : Command) (b : BufId) → command_of script t (course s t) ≡ Some cmd → has_buffer (course s t).held b ≡ true → has_some_target (buffer s b) ≡ true → OnWay script s (course s t) cmd b

-- ---- the first that passes

pub find_same : (p q : BufId → Bool) (bs : List BufId) → ((d : BufId) → has_buffer bs d ≡ true → q d ≡ p d) → find q bs ≡ find p bs
find_same p q [] h = refl
find_same p q (b ∷ bs) h =
    ap₂ (λ w o. cond w (Some b) o) (h b (or_left (same_buffer b b) (has_buffer bs b) (same_self b)))
    (find_same p q bs (λ d k. h d (or_right (same_buffer d b) (has_buffer bs d) k)))

-- it stays the first, where only it changes, and it still passes
pub find_stays : (p q : BufId → Bool) (bs : List BufId) (b : BufId) → find p bs ≡ Some b → q b ≡ true → ((d : BufId) → (d ≡ b → ⊥) → q d ≡ p d) → find q bs ≡ Some b
find_stays p q [] b e h others = cc
find_stays p q (d ∷ bs) b e h others =
    ⊎_elim
    (λ k. ap (λ w. cond w (Some d) (find q bs)) (subst (λ z. q z ≡ true) (sym k) h) ∙ ap Some k)
    (λ n. by n (p d) refl e (λ f. find_stays p q bs b f h others))
    (same_or_other d b)
  where
    by : (d ≡ b → ⊥) → (w : Bool) → p d ≡ w → cond w (Some d) (find p bs) ≡ Some b → (find p bs ≡ Some b → find q bs ≡ Some b) → find q (d ∷ bs) ≡ Some b
    by n true f g rest = absurd (n (let it : d ≡ b = cc in it))
    by n false f g rest = ap (λ w. cond w (Some d) (find q bs)) (others d n ∙ f) ∙ rest g

-- ---- courses that stay in their locks

pub record SameLock (c c' : Course) : Type 0 where
  pub answered : c'.answered ≡ c.answered
  pub made : c'.made ≡ c.made
  pub stamp : c'.stamp ≡ c.stamp
  pub held : c'.held ≡ c.held
  pub first : c'.first ≡ c.first

pub lock_same : (c : Course) → SameLock c c
lock_same c = record { answered = refl; made = refl; stamp = refl; held = refl; first = refl }

starts_alike : (c c' : Course) (cmd : Command) → c'.stamp ≡ c.stamp → starts c' cmd ≡ starts c cmd
starts_alike c c' (command.New b) e = refl
starts_alike c c' (command.Touch group) e = refl
starts_alike c c' cmd e = ap is_none e

pub works_alike : (c c' : Course) (cmd : Command) → SameLock c c' → Works c cmd → Works c' cmd
works_alike c c' cmd l w = record {
  unmade = l.made ∙ w.unmade;
  begun = starts_alike c c' cmd l.stamp ∙ w.begun;
  whole = ap₂ (λ bs o. find (λ b. not (has_buffer bs b)) (option_to_list o ++ named cmd)) l.held l.first ∙ w.whole;
}

pub search_lock : (b : BufId) (c : Course) → SameLock c (search_over b c)
search_lock b c = by (is_caught c b)
  where
    by : (q : Bool) → SameLock c (if q then c else record c { forced = false; dry = 0 })
    by true = lock_same c
    by false = record { answered = refl; made = refl; stamp = refl; held = refl; first = refl }

pub fail_lock : (b : BufId) (d : Deny) (c : Course) → SameLock c (with_fail b d c)
fail_lock b d c = by (is_caught c b)
  where
    by : (q : Bool) → SameLock c (if q then record c { caught = map (failed_if d b) c.caught } else record c { fail = Some d })
    by true = record { answered = refl; made = refl; stamp = refl; held = refl; first = refl }
    by false = record { answered = refl; made = refl; stamp = refl; held = refl; first = refl }

pub dry_lock : (script : Script) (s : State) (b : BufId) (k : ℕ) (o : Option Command) (c : Course) → SameLock c (course_after_dry script s b k o c)
dry_lock script s b k None c = lock_same c
dry_lock script s b k (Some cmd) c = by (is_caught c b)
  where
    by : (q : Bool) → SameLock c (if q then with_fail b deny.NoSpace c else gone_dry k (length (forced_places (place_search_at_work script s c cmd b).list)) c)
    by true = fail_lock b deny.NoSpace c
    by false = record { answered = refl; made = refl; stamp = refl; held = refl; first = refl }

-- ---- pins

pins_set : (reservations : List Reservation) (b d : BufId) (g : Reservation) → g.pins ≡ (reservation_in reservations b).pins → (reservation_in (slice_set reservations b.0 g) d).pins ≡ (reservation_in reservations d).pins
pins_set reservations b d g h =
    ⊎_elim
    (λ e. ap (λ o. (unwrap_or o no_reservation).pins) e)
    (λ e. ap (λ o. (unwrap_or o no_reservation).pins) e.1 ∙ (h ∙ ap (λ i. (unwrap_or (slice_get reservations i) no_reservation).pins) e.0))
    (set_at reservations b.0 d.0 g)

pins_released : (bs : List BufId) (reservations : List Reservation) (d : BufId) → (reservation_in (released reservations bs) d).pins ≡ (reservation_in reservations d).pins
pins_released [] reservations d = refl
pins_released (b ∷ bs) reservations d = pins_released bs (reservation_changed (with_holder None) reservations b) d ∙ pins_set reservations b d (with_holder None (reservation_in reservations b)) refl

abbrev pub pinned_by : Option Command → BufId → Bool
pinned_by (Some (command.Pin b)) d = same_buffer b d
pinned_by (Some (command.Unpin b)) d = same_buffer b d
pinned_by _ d = false

-- the pins of the buffer may change
abbrev pub repinned : Script → State → ℕ → Kind → BufId → Bool
repinned script s t (kind.New b) d = same_buffer b d
repinned script s t (kind.Free b g) d = same_buffer b d
repinned script s t (kind.Result r) d = pinned_by (command_at_work script s t) d
repinned script s t _ d = false

not_it : (b d : BufId) → same_buffer b d ≡ false → d ≡ b → ⊥
not_it b d h e = both_ways (same_buffer b d) h (subst (λ z. same_buffer b z ≡ true) (sym e) (same_self b))

pins_with : (o : Option Command) (reservations : List Reservation) (d : BufId) → pinned_by o d ≡ false → (reservation_in (with_pins o reservations) d).pins ≡ (reservation_in reservations d).pins
pins_with None reservations d h = refl
pins_with (Some (command.Pin b)) reservations d h = ap (λ g. g.pins) (reservation_other reservations b d (pinned_more (reservation_in reservations b)) (not_it b d h))
pins_with (Some (command.Unpin b)) reservations d h = ap (λ g. g.pins) (reservation_other reservations b d (pinned_less (reservation_in reservations b)) (not_it b d h))
pins_with (Some cmd) reservations d h = refl

pub pins_same : (script : Script) (s : State) (t : ℕ) (k : Kind) (d : BufId) → repinned script s t k d ≡ false → (reservation (after script s t k) d).pins ≡ (reservation s d).pins
pins_same script s t (kind.New b) d h = ap (λ g. g.pins) (reservation_other s.reservations b d no_reservation (not_it b d h))
pins_same script s t (kind.Free b g) d h = ap (λ g. g.pins) (reservation_other s.reservations b d no_reservation (not_it b d h))
pins_same script s t (kind.Result r) d h = pins_with (command_at_work script s t) (released s.reservations (course s t).held) d h ∙ pins_released (course s t).held s.reservations d
pins_same script s t (kind.Refused x) d h = pins_released (course s t).held s.reservations d
pins_same script s t (kind.Backoff b stamp) d h = pins_released (course s t).held s.reservations d
pins_same script s t (kind.Reserve b) d h = pins_set s.reservations b d (with_holder (course s t).stamp (reservation s b)) refl
pins_same script s t (kind.Catch b w) d h = pins_set s.reservations b d (with_holder (course s t).stamp (reservation s b)) refl
pins_same script s t (kind.Loose b) d h = pins_set s.reservations b d (with_holder None (reservation s b)) refl
pins_same script s t (kind.Skip b) d h = pins_set s.reservations b d (with_holder None (reservation s b)) refl
pins_same script s t k d h = refl

-- ---- on its way still

-- the buffers of the command are the same, and the course stays in its locks
pub on_way_kept : (script : Script) (s s' : State) (c c' : Course) (cmd : Command) (b : BufId) → SameLock c c' → (c'.fail ≡ None → c.fail ≡ None)
    → ((d : BufId) → has_buffer (named cmd) d ≡ true → buffer s' d ≡ buffer s d) → (reservation s' b).pins ≡ (reservation s b).pins → OnWay script s c cmd b → OnWay script s' c' cmd b
on_way_kept script s s' c c' cmd b lock fails same pins w =
    record {
      works = works_alike c c' cmd lock w.works;
      first =
          find_same (λ d. not (is_ready script s cmd d)) (λ d. not (is_ready script s' cmd d)) (named cmd)
          (λ d h. ap (λ x. not (is_in_place script cmd d x && is_filled cmd x)) (same d h))
          ∙ w.first;
      asked = w.asked;
      loose = pins ∙ w.loose;
      row =
          subst (λ x. Carried (Fits script c' cmd b x) x) (sym (same b (has_found (λ d. not (is_ready script s cmd d)) (named cmd) b w.first)))
          (carried_map (Fits script c cmd b (buffer s b)) (Fits script c' cmd b (buffer s b)) (buffer s b) (λ m h. λ f. h (fails f)) w.row);
    }

-- ---- what other threads hold

module _ (script : Script) (s : State) (t : ℕ) (k : Kind) (owned : Owned script s) (good : GoodCourses script s) (st : Stepped script s t k) where
  -- what another thread has is none of this one's
  not_mine : (u : ℕ) (d : BufId) → (u ≡ t → ⊥) → Has s u d → HasIn (course s t) d → ⊥
  not_mine u d other h m =
      let a = owned.held t d m in
      let b = owned.held u d h in
      other (owned.one u t b.0 b.3 (a.3 ∙ ap Some (let it : Some a.0 ≡ Some b.0 = sym a.2 ∙ b.2 in let same : a.0 ≡ b.0 = cc in same)))

  pub not_touched : (u : ℕ) (d : BufId) → (u ≡ t → ⊥) → Has s u d → touches script s t k d ≡ false
  not_touched u d other h =
      ⊎_elim
      (λ g. absurd (⊎_elim
      (λ m. not_mine u d other h m)
      (λ f. let b = owned.held u d h in none_or (reservation s d).holder b.0 f b.2)
      (touched_mine script s t st.step.cmd st.step.at_work owned st.step.task k d st.turn st.gives g)))
      (λ g. g)
      (cases_Bool (touches script s t k d))

  pinned_named : (x : Command) (d : BufId) → pinned_by (Some x) d ≡ true → (has_buffer (named x) d ≡ true) × (makes x ≡ false)
  pinned_named (command.Pin b) d h = (or_left (same_buffer d b) false (subst (λ z. same_buffer z b ≡ true) (same_is b d h) (same_self b)), refl)
  pinned_named (command.Unpin b) d h = (or_left (same_buffer d b) false (subst (λ z. same_buffer z b ≡ true) (same_is b d h) (same_self b)), refl)
  pinned_named cmd d h = cc

  made_of : Turn script s (course s t) st.step.cmd task.Answer → (course s t).made ≡ true
  made_of (answer m) = m

  works_of : Turn script s (course s t) st.step.cmd task.Act → Works (course s t) st.step.cmd
  works_of (act on a f u) = on.works

  -- an answer pins what its thread holds
  answered_pin : (x : Task) (r : Shown) (d : BufId) → Turn script s (course s t) st.step.cmd x → Gives script s (course s t) st.step.cmd x (kind.Result r) → pinned_by (Some st.step.cmd) d ≡ true → HasIn (course s t) d
  answered_pin x r d turn answers h = absurd (clash (sym (good.makes t st.step.cmd st.at (made_of turn)) ∙ (pinned_named st.step.cmd d h).1))
  answered_pin x r d turn acts h = inl (none_missing (course s t) st.step.cmd d (works_of turn).whole (pinned_named st.step.cmd d h).0)
  answered_pin x r d turn (seeks sought) h = elim sought [ ]
  answered_pin x r d turn (fills filled) h = elim filled [ ]

  not_repinned : (x : Kind) → k ≡ x → (u : ℕ) (d : BufId) → (u ≡ t → ⊥) → Has s u d → repinned script s t x d ≡ false
  not_repinned (kind.New b) e u d other h = subst (λ z. touches script s t z d ≡ false) e (not_touched u d other h)
  not_repinned (kind.Free b g) e u d other h = subst (λ z. touches script s t z d ≡ false) e (not_touched u d other h)
  not_repinned (kind.Result r) e u d other h =
      ⊎_elim
      (λ q. absurd (not_mine u d other h
      (answered_pin st.step.task r d st.turn (subst (Gives script s (course s t) st.step.cmd st.step.task) e st.gives) (subst (λ o. pinned_by o d ≡ true) st.step.at_work q))))
      (λ q. q)
      (cases_Bool (pinned_by (command_at_work script s t) d))
  not_repinned k e u d other h = refl

  -- it is on its way as it was
  pub others_on_way : Carrying script s → OneCourse s (after script s t k) t → (u : ℕ) (cmd : Command) (b : BufId) → (u ≡ t → ⊥) → command_of script u (course (after script s t k) u) ≡ Some cmd
      → has_buffer (course (after script s t k) u).held b ≡ true → has_some_target (buffer (after script s t k) b) ≡ true → OnWay script (after script s t k) (course (after script s t k) u) cmd b
  others_on_way carrying one u cmd b other at held some =
      let same = one.others u other in
      let held' = subst (λ c. has_buffer c.held b ≡ true) same held in
      let at' = subst (λ c. command_of script u c ≡ Some cmd) same at in
      let here : buffer (after script s t k) b ≡ buffer s b = ap (λ o. unwrap_or o (new_buffer 0)) (untouched script s t k b (not_touched u b other (inl held'))) in
      let w = carrying.carried u cmd b at' held' (subst (λ x. has_some_target x ≡ true) here some) in
      subst (λ c. OnWay script (after script s t k) c cmd b) (sym same)
      (on_way_kept script s (after script s t k) (course s u) (course s u) cmd b (lock_same (course s u)) (λ f. f)
      (λ d h. ap (λ o. unwrap_or o (new_buffer 0)) (untouched script s t k d (not_touched u d other (inl (none_missing (course s u) cmd d w.works.whole h)))))
      (pins_same script s t k b (not_repinned k refl u b other (inl held')))
      w)
