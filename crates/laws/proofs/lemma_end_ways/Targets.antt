-- After each entry a buffer with targets still has a holder, and is on its way where it is held by name.
use Rattle.std.proofs.Common.{◌≡◌, ℕ, true, false, Option, Some, None, IsSome, refl, sym, ◌∙◌, ap, subst, arith, inl, ⊎_elim}
use Rattle.std.specs.Prelude.{unwrap_or, is_some, option_and_then, nat_lt, not, ◌&&◌, if◌then◌else◌}
use Rattle.std.proofs.lemmas.Bool.{cases_Bool, cases_eq, or_left, or_cases, or_parts}
use Rattle.ttm_base.specs.ListWords.{last_of}
use Rattle.ttm_base.specs.Reach.{same_mem}
use Rattle.ttm_base.specs.declared.Mem.TheVariants.{System, Vram}
use Rattle.ttm_base.specs.declared.BufId.{BufId}
use Rattle.ttm_base.specs.declared.Deny.{Deny}
use Rattle.ttm_base.specs.declared.Deny.TheVariants as deny
use Rattle.ttm_base.specs.declared.Actor.{Actor}
use Rattle.journal_model.specs.declared.script.Script.{Script}
use Rattle.journal_model.specs.declared.script.Command.{Command}
use Rattle.journal_model.specs.declared.script.Command.TheVariants as command
use Rattle.journal_model.specs.declared.state.State.{State}
use Rattle.journal_model.specs.declared.state.Course.{Course}
use Rattle.journal_model.specs.declared.state.Buffer.{Buffer}
use Rattle.journal_model.specs.declared.state.Victim.{Victim}
use Rattle.journal_model.specs.declared.state.Task.{Task}
use Rattle.journal_model.specs.declared.state.Task.TheVariants as task
use Rattle.journal_model.specs.declared.state.SearchAim.{SearchAim}
use Rattle.journal_model.specs.declared.entry.Why.{Why}
use Rattle.journal_model.specs.declared.entry.Why.TheVariants as why
use Rattle.journal_model.specs.declared.entry.Kind.{Kind}
use Rattle.journal_model.specs.declared.entry.Kind.TheVariants as kind
use Rattle.journal_model.specs.rules.State.{new_buffer, buffer, reservation, reservation_in, no_reservation, course, course_of, has_buffer, has_target, same_buffer, live_in, is_live}
use Rattle.journal_model.specs.rules.Commands.{named, command_at_work}
use Rattle.journal_model.specs.rules.Dry.{has_frame}
use Rattle.journal_model.specs.rules.Ready.{is_ready, first_unready, has_some_target}
use Rattle.journal_model.specs.rules.Search.{place_search}
use Rattle.journal_model.specs.rules.Tasks.{forbidden}
use Rattle.journal_model.specs.rules.ApplyCommands.{named_in, released, with_holder}
use Rattle.journal_model.specs.rules.Apply.{applied}
use Rattle.journal_model.specs.rules.Legal.{first_state}
use Rattle.laws.specs.law_state.Courses.{GoodCourses}
use Rattle.laws.proofs.law_state.Lists.{set_at}
use Rattle.laws.specs.law_sound.Sound.{asks, command_of, locks, OnItsWay, in_vram, to_tt, out_of_vram, in_tt, in_system}
use Rattle.laws.proofs.law_sound.Along.{Stepped, OfWorker, packet, done, reap}
use Rattle.laws.proofs.law_sound.Turns.{Turn, Works, OnNamed, Emptied, for_tt, for_swap, left_vram, Refusal, ban, pinned, Surrender, bare, ready, answer, start, lock, victim_empty, victim_skip, refuse, give_up, act}
use Rattle.laws.proofs.law_sound.Gifts.{Gives, SearchOutcome, Filled, answers, makes, exists, shifts, draws, no_buffer, reserves, backs, seeks, binds, unbinds, moves, fills, lets_go, empties, depopulates, untakes, skips, gives_up, refuses, arms, frees, swaps, no_swap, acts, finds, evicts, dries, fresh, again, back, evicts_for_swap, nothing}
use Rattle.laws.proofs.law_sound.Bufs.{same_self, same_is, same_or_other, other_is, has_found, none_missing, clash}
use Rattle.laws.proofs.law_sound.Owners.{none_or}
use Rattle.laws.proofs.law_sound.Reservations.{IsFree, reservation_other, reservation_here, released_other, pins_hold, live_set, live_within, victim_free, swap_free, one_course}
use Rattle.laws.proofs.law_sound.OwnedKeeps.{HasIn, unlocked, at_search, at_fill, has_stamp, begun_locks}
use Rattle.laws.proofs.law_sound.Steadies.{own_course}
use Rattle.laws.proofs.lemma_end_measure.Frame.{touches, untouched, turn_has}
use Rattle.laws.proofs.lemma_end_measure.Border.{Known}
use Rattle.laws.proofs.lemma_end_measure.Parts.{after}
use Rattle.laws.proofs.lemma_end_ways.Rows.{some_is}
use Rattle.laws.proofs.lemma_end_ways.Spanless.{AreBare, first_live}
use Rattle.laws.proofs.lemma_end_ways.OnWays.{OnWay, Carrying, others_on_way}
use Rattle.laws.proofs.lemma_end_ways.Keeps.{LeftPlaces, clear, clear_ready, clear_locking, own_keeps}

-- one that is there is not none, and is one alone
none_some : {X : Type 0} (x : X) → None ≡ Some x → ⊥
none_some x e = cc

some_alone : {X : Type 0} (x y : X) → Some x ≡ Some y → x ≡ y
some_alone x y e = cc

-- what the last victim caught tells of its buffer
abbrev pub LastWay : State → Course → Type 0
LastWay s c = (v : Victim) → last_of c.caught ≡ Some v → OnItsWay (buffer s v.b) v.why v.fail

-- a victim that is let go has no target
way_bare : (v : Victim) (x : Buffer) → has_target System x ≡ false → Emptied v x → (w : Why) (fail : Option Deny) → v.why ≡ w → OnItsWay x w fail → has_some_target x ≡ false
way_bare v x n e w fail r (in_vram m ts) = some_is x false false false ts
way_bare v x n (for_tt q) w fail r (to_tt m ts) = absurd (let z : why.Tt ≡ why.Vram = sym q ∙ r in cc)
way_bare v x n (for_swap q) w fail r (to_tt m ts) = absurd (let z : why.Swap ≡ why.Vram = sym q ∙ r in cc)
way_bare v x n (left_vram q out) w fail r (to_tt m ts) = absurd (out m)
way_bare v x n e w fail r (out_of_vram m ts) = some_is x false false false ts
way_bare v x n e w fail r (in_tt d m ts) = absurd (clash (sym ts.0 ∙ n))
way_bare v x n e w fail r (in_system d m ts) = some_is x false false false ts

module _ (script : Script) (s : State) (t : ℕ) (cmd : Command) (here : IsSome (course_of s t)) (at : command_of script t (course s t) ≡ Some cmd) (at_work : command_at_work script s t ≡ Some cmd) (known : Known script s) (spanless : AreBare s.core.buffers)
    (carrying : Carrying script s) (places : LeftPlaces script s (course s t) cmd) (way : LastWay s (course s t)) where
  abbrev Clear : Type 0
  Clear = (d : BufId) → has_buffer (course s t).held d ≡ true → has_some_target (buffer s d) ≡ false

  abbrev Held : Kind → Type 0
  Held k = (d : BufId) → has_some_target (buffer (after script s t k) d) ≡ true → (reservation (after script s t k) d).holder ≡ None → ⊥

  is_clear : ((d : BufId) → OnWay script s (course s t) cmd d → has_some_target (buffer s d) ≡ true → ⊥) → Clear
  is_clear = clear script s t cmd here at known spanless carrying places

  -- only buffers that the thread has change, and no holder
  changes_own : (k : Kind) → ((d : BufId) → touches script s t k d ≡ true → HasIn (course s t) d) → ((d : BufId) → (reservation (after script s t k) d).holder ≡ (reservation s d).holder) → Held k
  changes_own k own holders d some none =
      ⊎_elim
      (λ g. let w = known.owned.held t d (own d g) in none_or (reservation s d).holder w.0 (sym (holders d) ∙ none) w.2)
      (λ g. carrying.targets d (subst (λ y. has_some_target y ≡ true) (ap (λ o. unwrap_or o (new_buffer 0)) (untouched script s t k d g)) some) (sym (holders d) ∙ none))
      (cases_Bool (touches script s t k d))

  changes_none : (k : Kind) → ((d : BufId) → touches script s t k d ≡ false) → ((d : BufId) → (reservation (after script s t k) d).holder ≡ (reservation s d).holder) → Held k
  changes_none k none holders = changes_own k (λ d g. absurd (clash (sym g ∙ none d))) holders

  its : (b d : BufId) → HasIn (course s t) b → same_buffer b d ≡ true → HasIn (course s t) d
  its b d h q = subst (HasIn (course s t)) (same_is b d q) h

  -- all that is held is let go, and has no target
  lets_all : (k : Kind) → Clear → ((d : BufId) → buffer (after script s t k) d ≡ buffer s d) → ((d : BufId) → (reservation (after script s t k) d).holder ≡ (reservation_in (released s.reservations (course s t).held) d).holder) → Held k
  lets_all k none same holders d some free =
      let was = subst (λ y. has_some_target y ≡ true) (same d) some in
      ⊎_elim
      (λ h. clash (sym was ∙ none d h))
      (λ h. carrying.targets d was (ap (λ g. g.holder) (sym (released_other (course s t).held s.reservations d h)) ∙ (sym (holders d) ∙ free)))
      (cases_Bool (has_buffer (course s t).held d))

  -- one victim is let go, and has no target
  lets_one : (k : Kind) (b : BufId) → has_some_target (buffer s b) ≡ false → ((d : BufId) → buffer (after script s t k) d ≡ buffer s d) → ((d : BufId) → (d ≡ b → ⊥) → (reservation (after script s t k) d).holder ≡ (reservation s d).holder) → Held k
  lets_one k b none same holders d some free =
      let was = subst (λ y. has_some_target y ≡ true) (same d) some in
      ⊎_elim
      (λ e. clash (sym (subst (λ z. has_some_target (buffer s z) ≡ true) e was) ∙ none))
      (λ n. carrying.targets d was (sym (holders d n) ∙ free))
      (same_or_other d b)

  catches : (v : BufId) (w : Why) → Works (course s t) cmd → IsFree s v → Held (kind.Catch v w)
  catches v w works free d some none =
      ⊎_elim
      (λ e.
      let st = has_stamp script s t cmd here at known.owned (begun_locks script s t cmd here at known.owned works.begun) works.begun in
      let now = ap (λ g. g.holder) (reservation_here s.reservations v (with_holder (course s t).stamp (reservation s v)) (let l = live_within s.core.buffers v.0 free.live in let g = known.owned.reservations in omega (arith, l, g))) ∙ st.1 in
      none_or (reservation (after script s t (kind.Catch v w)) v).holder st.0 (subst (λ z. (reservation (after script s t (kind.Catch v w)) z).holder ≡ None) e none) now)
      (λ n.
      carrying.targets d (subst (λ y. has_some_target y ≡ true) (ap (λ o. unwrap_or o (new_buffer 0)) (untouched script s t (kind.Catch v w) d (other_is v d (λ q. n (sym q))))) some)
      (sym (ap (λ g. g.holder) (reservation_other s.reservations v d (with_holder (course s t).stamp (reservation s v)) n)) ∙ none))
      (same_or_other d v)

  sought_held : (b : BufId) (aim : SearchAim) (k : Kind) → Turn script s (course s t) cmd (task.Search b aim) → SearchOutcome script s (course s t) b (place_search script cmd (course s t) b aim) k → Held k
  sought_held b aim k turn (finds place {mem} {spans} w m e) = changes_own (kind.Take b mem spans) (λ d q. its b d (turn_has script s (course s t) cmd (task.Search b aim) b turn refl) q) (λ d. refl)
  sought_held b aim k turn (evicts place {v} {w} a n e f) = catches v w (at_search script s t cmd (known.owned.steady t) b aim turn).works (victim_free script s (course s t).skips place v f)
  sought_held b aim k turn (dries place {w} a n) = changes_none (kind.Dry b (place_search script cmd (course s t) b aim).dry w) (λ d. refl) (λ d. refl)

  filled_held : (b : BufId) (k : Kind) → Turn script s (course s t) cmd (task.Fill b) → Filled script s b k → Held k
  filled_held b k turn (fresh {frame} f l) = changes_own (kind.Populate b _ frame) (λ d q. its b d (turn_has script s (course s t) cmd (task.Fill b) b turn refl) q) (λ d. refl)
  filled_held b k turn (again {f} {frame} e l) = changes_own (kind.Populate b _ frame) (λ d q. its b d (turn_has script s (course s t) cmd (task.Fill b) b turn refl) q) (λ d. refl)
  filled_held b k turn (back {slot} {frame} f l) = changes_own (kind.SwapIn b _ slot frame) (λ d q. its b d (turn_has script s (course s t) cmd (task.Fill b) b turn refl) q) (λ d. refl)
  filled_held b k turn (evicts_for_swap {slot} {v} f e) = catches v why.Swap (at_fill script s t cmd (known.owned.steady t) b turn).works (swap_free s v e)
  filled_held b k turn (nothing f) = changes_none (kind.NoPages b) (λ d. refl) (λ d. refl)

  -- a command that is forbidden carries nothing
  banned : (x : Command) (e : Deny) → cmd ≡ x → forbidden s x ≡ Some e → (d : BufId) → OnWay script s (course s t) cmd d → ⊥
  banned (command.Pin b) e is f d w = clash (sym w.asked ∙ ap asks is)
  banned (command.Unpin b) e is f d w = clash (sym w.asked ∙ ap asks is)
  banned (command.Free b) e is f d w = clash (sym w.asked ∙ ap asks is)
  banned (command.SwapOut b) e is f d w =
      let member = subst (λ z. has_buffer (named z) d ≡ true) is (has_found (λ y. not (is_ready script s cmd y)) (named cmd) d w.first) in
      let it : d ≡ b = ⊎_elim (λ q. same_is d b q) (λ q. absurd (clash (sym q))) (or_cases (same_buffer d b) false member) in
      let loose : (reservation s b).pins ≡ 0 = subst (λ z. (reservation s z).pins ≡ 0) it w.loose in
      let z : None ≡ Some e = sym (ap (λ n. if nat_lt 0 n then Some deny.Pinned else None) loose) ∙ f in none_some e z
  banned cmd e is f d w = none_some e f

  refused_clear : Refusal script s (course s t) cmd → Clear
  refused_clear (ban e f) = is_clear (λ d w some. banned cmd e refl f d w)
  refused_clear (pinned b f u p q) =
      is_clear
      (λ d w some.
      let it : d ≡ b = some_alone d b (sym w.first ∙ u) in
      let loose : (reservation s b).pins ≡ 0 = subst (λ z. (reservation s z).pins ≡ 0) it w.loose in
      clash (sym q ∙ ap (λ n. nat_lt 0 n) loose))

  given_clear : Surrender script s cmd → Clear
  given_clear (bare b u g) =
      is_clear
      (λ d w some.
      let it : d ≡ b = some_alone d b (sym w.first ∙ u) in
      clash (sym (subst (λ z. has_some_target (buffer s z) ≡ true) it some) ∙ (or_parts (same_mem (buffer s b).mem Vram && has_frame (buffer s b)) (has_some_target (buffer s b)) g).1))
  given_clear (ready u) = clear_ready script s t cmd here at known spanless carrying places u

  none_held : locks cmd ≡ false → Clear
  none_held l d h = absurd (unlocked script s t cmd here at known.owned l d (inl h))

  dead_bare : (b : BufId) → is_live s b ≡ false → has_some_target (buffer s b) ≡ false
  dead_bare b l = by (live_in s.core.buffers b) l
    where
      by : (o : Option Buffer) → is_some o ≡ false → has_some_target (unwrap_or o (new_buffer 0)) ≡ false
      by None k = refl
      by (Some x) k = absurd (clash k)

  makes_held : (b : BufId) → is_live s b ≡ false → Held (kind.New b)
  makes_held b dead d some none =
      ⊎_elim
      (λ e. ⊎_elim
      (λ same. clash (sym (subst (λ y. has_some_target y ≡ true) (ap (λ o. unwrap_or (option_and_then (λ x. x) o) (new_buffer 0)) same) some) ∙ subst (λ z. has_some_target (buffer s z) ≡ false) (sym e) (dead_bare b dead)))
      (λ now. clash (sym (subst (λ y. has_some_target y ≡ true) (ap (λ o. unwrap_or (option_and_then (λ x. x) o) (new_buffer 0)) now.1) some)))
      (set_at s.core.buffers b.0 d.0 _))
      (λ n. carrying.targets d (subst (λ y. has_some_target y ≡ true) (ap (λ o. unwrap_or o (new_buffer 0)) (live_set s.core.buffers b d _ n)) some) (sym (ap (λ g. g.holder) (reservation_other s.reservations b d no_reservation n)) ∙ none))
      (same_or_other d b)

  frees_held : (b : BufId) (g : ℕ) → has_buffer (course s t).held b ≡ true → Clear → Held (kind.Free b g)
  frees_held b g mine none d some free =
      ⊎_elim
      (λ e. ⊎_elim
      (λ same. clash (sym (subst (λ y. has_some_target y ≡ true) (ap (λ o. unwrap_or (option_and_then (λ x. x) o) (new_buffer 0)) same) some) ∙ subst (λ z. has_some_target (buffer s z) ≡ false) (sym e) (none b mine)))
      (λ now. clash (sym (subst (λ y. has_some_target y ≡ true) (ap (λ o. unwrap_or (option_and_then (λ x. x) o) (new_buffer 0)) now.1) some)))
      (set_at s.core.buffers b.0 d.0 None))
      (λ n. carrying.targets d (subst (λ y. has_some_target y ≡ true) (ap (λ o. unwrap_or o (new_buffer 0)) (live_set s.core.buffers b d None n)) some) (sym (ap (λ z. z.holder) (reservation_other s.reservations b d no_reservation n)) ∙ free))
      (same_or_other d b)

  ready_clear : first_unready script s cmd ≡ None → Clear
  ready_clear u = clear_ready script s t cmd here at known spanless carrying places u

  named_held : (b : BufId) → OnNamed s (course s t) cmd → has_buffer (named cmd) b ≡ true → HasIn (course s t) b
  named_held b on m = inl (none_missing (course s t) cmd b on.works.whole m)

  alone : (b : BufId) (x : Command) → cmd ≡ x → has_buffer (named x) b ≡ true → has_buffer (named cmd) b ≡ true
  alone b x e h = subst (λ z. has_buffer (named z) b ≡ true) (sym e) h

  pub targets_keep : (x : Task) (k : Kind) → Turn script s (course s t) cmd x → Gives script s (course s t) cmd x k → Held k
  targets_keep x k (answer m) (answers) = lets_all k (is_clear (λ d w some. clash (sym m ∙ w.works.unmade))) (λ d. refl) (λ d. pins_hold (command_at_work script s t) (released s.reservations (course s t).held) d)
  targets_keep x k (start m q) (makes {b} e dead) = makes_held b dead
  targets_keep x k (start m q) (exists e) = lets_all k (none_held (ap locks e)) (λ d. refl) (λ d. refl)
  targets_keep x k (start m q) (shifts e) = changes_none k (λ d. refl) (λ d. refl)
  targets_keep x k (start m q) (draws l) = changes_none k (λ d. refl) (λ d. refl)
  targets_keep x k (lock m n f) (no_buffer {b} l) = lets_all k (clear_locking script s t cmd here at known spanless carrying places b f) (λ d. refl) (λ d. refl)
  targets_keep x k (lock m n f) (reserves {b} l free) =
      λ d some none.
      ⊎_elim
      (λ e. carrying.targets d some (subst (λ z. (reservation s z).holder ≡ None) (sym e) free))
      (λ n. carrying.targets d some (sym (ap (λ g. g.holder) (reservation_other s.reservations b d (with_holder (course s t).stamp (reservation s b)) n)) ∙ none))
      (same_or_other d b)
  targets_keep x k (lock m n f) (backs {b} l h q) = lets_all k (clear_locking script s t cmd here at known spanless carrying places b f) (λ d. refl) (λ d. refl)
  targets_keep x k turn (seeks {b} {aim} sought) = sought_held b aim k turn sought
  targets_keep x k turn (fills {b} filled) = filled_held b k turn filled
  targets_keep x k turn (binds {b}) = changes_own k (λ d q. its b d (turn_has script s (course s t) cmd (task.Bind b) b turn refl) q) (λ d. refl)
  targets_keep x k turn (unbinds {b} i) = changes_own k (λ d q. its b d (turn_has script s (course s t) cmd (task.Unbind b) b turn refl) q) (λ d. refl)
  targets_keep x k turn (moves {b} {mem}) = changes_own k (λ d q. its b d (turn_has script s (course s t) cmd (task.Move b mem) b turn refl) q) (λ d. refl)
  targets_keep x k turn (empties {b} w f g) = changes_own k (λ d q. its b d (turn_has script s (course s t) cmd (task.Empty b) b turn refl) q) (λ d. refl)
  targets_keep x k turn (depopulates {b} m f) = changes_own k (λ d q. its b d (turn_has script s (course s t) cmd (task.GiveBack b) b turn refl) q) (λ d. refl)
  targets_keep x k turn (untakes {b} n) = changes_own k (λ d q. its b d (turn_has script s (course s t) cmd (task.GiveBack b) b turn refl) q) (λ d. refl)
  targets_keep x k (victim_empty v on q e) lets_go =
      lets_one k v.b (way_bare v (buffer s v.b) q e v.why v.fail refl (way v on.last)) (λ d. refl) (λ d n. ap (λ g. g.holder) (reservation_other s.reservations v.b d (with_holder None (reservation s v.b)) n))
  targets_keep x k (victim_skip v d on i f q) skips =
      lets_one k v.b (or_parts (same_mem (buffer s v.b).mem Vram && has_frame (buffer s v.b)) (has_some_target (buffer s v.b)) q).1 (λ d. refl) (λ d n. ap (λ g. g.holder) (reservation_other s.reservations v.b d (with_holder None (reservation s v.b)) n))
  targets_keep x k (give_up on a f u) gives_up = lets_all k (given_clear u) (λ d. refl) (λ d. refl)
  targets_keep x k (refuse on r) refuses = lets_all k (refused_clear r) (λ d. refl) (λ d. refl)
  targets_keep x k (act on a f u) (arms ops e) = changes_own k (λ d q. named_held d on (sym (ap (λ z. has_buffer (named_in z) d) at_work) ∙ q)) (λ d. refl)
  targets_keep x k (act on a f u) (frees {b} {g} e q) = frees_held b g (none_missing (course s t) cmd b on.works.whole (alone b (command.Free b) e (or_left (same_buffer b b) false (same_self b)))) (ready_clear u)
  targets_keep x k (act on a f u) (swaps {b} e q r) = changes_own k (λ d q. its b d (named_held b on (alone b (command.SwapOut b) e (or_left (same_buffer b b) false (same_self b)))) q) (λ d. refl)
  targets_keep x k (act on a f u) (no_swap e) = lets_all k (ready_clear u) (λ d. refl) (λ d. refl)
  targets_keep x k (act on a f u) acts = lets_all k (ready_clear u) (λ d. refl) (λ d. pins_hold (command_at_work script s t) (released s.reservations (course s t).held) d)

-- ---- of a state

pub carrying_keeps : (script : Script) (s : State) (t : ℕ) (k : Kind) → Known script s → GoodCourses script s → AreBare s.core.buffers → (st : Stepped script s t k) → LeftPlaces script s (course s t) st.step.cmd → LastWay s (course s t) → Carrying script s
    → Carrying script (after script s t k)
carrying_keeps script s t k known good spanless st places way carrying =
    record {
      targets = targets_keep script s t st.step.cmd st.here st.at st.step.at_work known spanless carrying places way st.step.task k st.turn st.gives;
      carried = λ u cmd b at held some.
          ⊎_elim
          (λ e. own u cmd b e at held some)
          (λ n. others_on_way script s t k known.owned good st carrying (one_course script s t k st.here) u cmd b n at held some)
          (cases_eq u t);
    }
  where
    own : (u : ℕ) (cmd : Command) (b : BufId) → u ≡ t → command_of script u (course (after script s t k) u) ≡ Some cmd → has_buffer (course (after script s t k) u).held b ≡ true → has_some_target (buffer (after script s t k) b) ≡ true
        → OnWay script (after script s t k) (course (after script s t k) u) cmd b
    own u cmd b e at held some =
        let is = own_course script s t k st.here in
        let at' = subst (λ c. command_of script t c ≡ Some cmd) is (subst (λ v. command_of script v (course (after script s t k) v) ≡ Some cmd) e at) in
        let held' = subst (λ c. has_buffer c.held b ≡ true) is (subst (λ v. has_buffer (course (after script s t k) v).held b ≡ true) e held) in
        subst (λ v. OnWay script (after script s t k) (course (after script s t k) v) cmd b) (sym e)
        (subst (λ c. OnWay script (after script s t k) c cmd b) (sym is)
        (own_keeps script s t st.step.cmd st.here st.at known spanless carrying places st.step.task k st.turn st.gives cmd b at' held' some))

pub carrying_worker : (script : Script) (s : State) (who : Actor) (k : Kind) → OfWorker k → Carrying script s → Carrying script (applied script s who k)
carrying_worker script s who k packet c = record { targets = c.targets; carried = λ u cmd b at held some. let w = c.carried u cmd b at held some in record { works = w.works; first = w.first; asked = w.asked; loose = w.loose; row = w.row } }
carrying_worker script s who k done c = record { targets = c.targets; carried = λ u cmd b at held some. let w = c.carried u cmd b at held some in record { works = w.works; first = w.first; asked = w.asked; loose = w.loose; row = w.row } }
carrying_worker script s who k reap c = record { targets = c.targets; carried = λ u cmd b at held some. let w = c.carried u cmd b at held some in record { works = w.works; first = w.first; asked = w.asked; loose = w.loose; row = w.row } }

pub carrying_first : (script : Script) → Carrying script (first_state script)
carrying_first script =
    record {
      targets = λ d some none. clash (sym some ∙ ap (λ o. has_some_target (unwrap_or o (new_buffer 0))) (first_live script d));
      carried = λ u cmd b at held some. absurd (clash (sym some ∙ ap (λ o. has_some_target (unwrap_or o (new_buffer 0))) (first_live script b)));
    }
