-- An entry of one thread leaves the others' buffers and costs alone.
use Rattle.std.proofs.Common.{◌≡◌, ℕ, Bool, true, false, List, [], ◌∷◌, length, ◌+◌, Option, Some, None, refl, sym, ◌∙◌, ap, subst, ◌⊎◌, inl, inr, ⊎_elim}
use Rattle.std.specs.Prelude.{unwrap_or, fold, not}
use Rattle.std.proofs.lemmas.Bool.{cases_Bool, or_cases, or_parts, or_left, both_ways}
use Rattle.ttm_base.specs.declared.BufId.{BufId}
use Rattle.ttm_base.specs.declared.Stamp.{Stamp}
use Rattle.ttm_base.specs.declared.JobId.{JobId}
use Rattle.ttm_base.specs.declared.Op.{Op}
use Rattle.ttm_base.specs.declared.Actor.TheVariants as actor
use Rattle.journal_model.specs.declared.script.Script.{Script}
use Rattle.journal_model.specs.declared.script.Command.{Command}
use Rattle.journal_model.specs.declared.state.State.{State}
use Rattle.journal_model.specs.declared.state.Course.{Course}
use Rattle.journal_model.specs.declared.state.Victim.{Victim}
use Rattle.journal_model.specs.declared.state.Buffer.{Buffer}
use Rattle.journal_model.specs.declared.state.Task.{Task}
use Rattle.journal_model.specs.declared.state.Task.TheVariants as task
use Rattle.journal_model.specs.declared.entry.Kind.{Kind}
use Rattle.journal_model.specs.declared.entry.Kind.TheVariants as kind
use Rattle.journal_model.specs.rules.State.{new_buffer, same_buffer, has_buffer, live_in, is_live, buffer, changed, reservation, course}
use Rattle.journal_model.specs.rules.Commands.{named, command_at_work}
use Rattle.journal_model.specs.rules.Search.{is_caught, PlaceSearch}
use Rattle.journal_model.specs.rules.Tasks.{first_missing}
use Rattle.journal_model.specs.rules.Ready.{first_unready, is_ready}
use Rattle.journal_model.specs.rules.Apply.{applied}
use Rattle.journal_model.specs.rules.ApplyJobs.{with_use, ops_of}
use Rattle.journal_model.specs.rules.ApplyCommands.{named_in}
use Rattle.laws.specs.law_sound.Sound.{Has, Owned, command_of}
use Rattle.laws.proofs.law_sound.DeadEnds.{command_is}
use Rattle.laws.proofs.law_sound.Measure.{command_left, later_commands, thread_left}
use Rattle.laws.proofs.law_sound.OthersSame.{SameHad, command_same}
use Rattle.laws.proofs.law_sound.Turns.{Turn, Works, OnVictim, OnBuffer, victim_unbind, victim_empty, victim_give, victim_skip, victim_move, victim_fill, victim_search, give, act, fill_in_place, ask, bind, fill_to_bind, hop_up, unbind, move_up, move_across, move_down, fill_to_move, hop_down}
use Rattle.laws.proofs.law_sound.Gifts.{Gives, SearchOutcome, Filled, makes, seeks, binds, unbinds, moves, fills, empties, depopulates, untakes, arms, frees, swaps, finds, evicts, dries, fresh, again, back, evicts_for_swap, nothing}
use Rattle.laws.proofs.law_sound.Bufs.{same_self, same_is, has_found, last_caught, none_missing, clash}
use Rattle.laws.proofs.law_sound.Owners.{OneCourse, none_or}
use Rattle.laws.proofs.law_sound.Reservations.{live_set, victim_free, swap_free}
use Rattle.laws.proofs.law_sound.OwnedKeeps.{HasIn}

-- ---- which buffers an entry changes

-- the buffer is one that the entry changes
abbrev pub touches : Script → State → ℕ → Kind → BufId → Bool
touches script s t (kind.New b) d = same_buffer b d
touches script s t (kind.Free b g) d = same_buffer b d
touches script s t (kind.Take b mem spans) d = same_buffer b d
touches script s t (kind.Untake b mem) d = same_buffer b d
touches script s t (kind.Populate b page frame) d = same_buffer b d
touches script s t (kind.SwapIn b page slot frame) d = same_buffer b d
touches script s t (kind.Depopulate b) d = same_buffer b d
touches script s t (kind.Bind b) d = same_buffer b d
touches script s t (kind.Unbind b) d = same_buffer b d
touches script s t (kind.Move b mem n l) d = same_buffer b d
touches script s t (kind.Catch b w) d = same_buffer b d
touches script s t (kind.SwapOut b page slot) d = same_buffer b d
touches script s t (kind.Arm engine n) d = has_buffer (named_in (command_at_work script s t)) d
touches script s t _ d = false

not_it : (b d : BufId) → same_buffer b d ≡ false → d ≡ b → ⊥
not_it b d h e = both_ways (same_buffer b d) h (subst (λ z. same_buffer b z ≡ true) (sym e) (same_self b))

other_changed : (f : Buffer → Buffer) (buffers : List (Option Buffer)) (b d : BufId) → same_buffer b d ≡ false → live_in (changed f buffers b) d ≡ live_in buffers d
other_changed f buffers b d h = live_set buffers b d _ (not_it b d h)

other_uses : (job : JobId) (ops : List Op) (bs : List BufId) (buffers : List (Option Buffer)) (d : BufId) → has_buffer bs d ≡ false → live_in (fold (with_use job ops) buffers bs) d ≡ live_in buffers d
other_uses job ops [] buffers d h = refl
other_uses job ops (b ∷ bs) buffers d h =
    let p = or_parts (same_buffer d b) (has_buffer bs d) h in
    other_uses job ops bs (with_use job ops buffers b) d p.1 ∙ live_set buffers b d _ (λ e. both_ways (same_buffer d b) p.0 (subst (λ z. same_buffer d z ≡ true) e (same_self d)))

pub untouched : (script : Script) (s : State) (t : ℕ) (k : Kind) (d : BufId) → touches script s t k d ≡ false → live_in (applied script s (actor.Thread t) k).core.buffers d ≡ live_in s.core.buffers d
untouched script s t (kind.New b) d h = live_set s.core.buffers b d _ (not_it b d h)
untouched script s t (kind.Free b g) d h = live_set s.core.buffers b d None (not_it b d h)
untouched script s t (kind.Take b mem spans) d h = other_changed _ s.core.buffers b d h
untouched script s t (kind.Untake b mem) d h = other_changed _ s.core.buffers b d h
untouched script s t (kind.Populate b page frame) d h = other_changed _ s.core.buffers b d h
untouched script s t (kind.SwapIn b page slot frame) d h = other_changed _ s.core.buffers b d h
untouched script s t (kind.Depopulate b) d h = other_changed _ s.core.buffers b d h
untouched script s t (kind.Bind b) d h = other_changed _ s.core.buffers b d h
untouched script s t (kind.Unbind b) d h = other_changed _ s.core.buffers b d h
untouched script s t (kind.Move b mem n l) d h = other_changed _ s.core.buffers b d h
untouched script s t (kind.Catch b w) d h = other_changed _ s.core.buffers b d h
untouched script s t (kind.SwapOut b page slot) d h = other_changed _ s.core.buffers b d h
untouched script s t (kind.Arm engine n) d h = other_uses (record { ctx = engine; num = n }) (ops_of (command_at_work script s t)) (named_in (command_at_work script s t)) s.core.buffers d h
untouched script s t k d h = refl

-- ---- whose they are

-- the buffer of a task on one that the thread has
abbrev pub own_buffer : Task → Option BufId
own_buffer (task.Search b aim) = Some b
own_buffer (task.Bind b) = Some b
own_buffer (task.Unbind b) = Some b
own_buffer (task.Move b mem) = Some b
own_buffer (task.Fill b) = Some b
own_buffer (task.Empty b) = Some b
own_buffer (task.GiveBack b) = Some b
own_buffer (task.Skip b) = Some b
own_buffer _ = None

module _ (script : Script) (s : State) (c : Course) (cmd : Command) where
  of_victim : (v : Victim) (b : BufId) → OnVictim c cmd v → Some v.b ≡ Some b → HasIn c b
  of_victim v b on e = let it : v.b ≡ b = cc in subst (HasIn c) it (inr (last_caught c v on.last))

  of_first : (a b : BufId) → Works c cmd → first_unready script s cmd ≡ Some a → Some a ≡ Some b → HasIn c b
  of_first a b works u e =
      let it : a ≡ b = cc in
      subst (HasIn c) it (inl (none_missing c cmd a works.whole (has_found (λ x. not (is_ready script s cmd x)) (named cmd) a u)))

  of_buffer : (a b : BufId) → OnBuffer script s c cmd a → Some a ≡ Some b → HasIn c b
  of_buffer a b on e = of_first a b on.named.works on.first e

  nothing_is : (b : BufId) → None ≡ Some b → HasIn c b
  nothing_is b h = cc

  -- the thread has the buffer of its task
  pub turn_has : (x : Task) (b : BufId) → Turn script s c cmd x → own_buffer x ≡ Some b → HasIn c b
  turn_has x b (victim_unbind v on q) e = of_victim v b on e
  turn_has x b (victim_empty v on q r) e = of_victim v b on e
  turn_has x b (victim_give v d on i f q) e = of_victim v b on e
  turn_has x b (victim_skip v d on i f q) e = of_victim v b on e
  turn_has x b (victim_move v on i f q r) e = of_victim v b on e
  turn_has x b (victim_fill v on i f q r) e = of_victim v b on e
  turn_has x b (victim_search v on i f q) e = of_victim v b on e
  turn_has x b (give {b = a} d on l f u g) e = of_first a b on.works u e
  turn_has x b (fill_in_place {b = a} on i) e = of_buffer a b on e
  turn_has x b (ask {b = a} on n) e = of_buffer a b on.on e
  turn_has x b (bind {b = a} on q r) e = of_buffer a b on.on.on e
  turn_has x b (fill_to_bind {b = a} on q r) e = of_buffer a b on.on.on e
  turn_has x b (hop_up {b = a} on q) e = of_buffer a b on.on.on e
  turn_has x b (unbind {b = a} on q) e = of_buffer a b on.on.on e
  turn_has x b (move_up {b = a} on q) e = of_buffer a b on.on.on e
  turn_has x b (move_across {b = a} on q) e = of_buffer a b on.on.on e
  turn_has x b (move_down {b = a} on q r p) e = of_buffer a b on.on.on e
  turn_has x b (fill_to_move {b = a} on q r p) e = of_buffer a b on.on.on e
  turn_has x b (hop_down {b = a} on q r) e = of_buffer a b on.on.on e
  turn_has x b it e = nothing_is b e

module _ (script : Script) (s : State) (t : ℕ) (cmd : Command) (at : command_at_work script s t ≡ Some cmd) (o : Owned script s) where
  dead_free : (b : BufId) → is_live s b ≡ false → (reservation s b).holder ≡ None
  dead_free b l = by (reservation s b).holder refl
    where
      by : (p : Option Stamp) → (reservation s b).holder ≡ p → p ≡ None
      by None e = refl
      by (Some st) e = let h = o.holder b st e in let w = o.held h.0 b h.2 in absurd (both_ways (is_live s b) l w.1)

  -- the thread has the buffer, or nobody does
  abbrev Mine : BufId → Type 0
  Mine d = HasIn (course s t) d ⊎ ((reservation s d).holder ≡ None)

  its : (b d : BufId) → HasIn (course s t) b → same_buffer b d ≡ true → Mine d
  its b d h q = inl (subst (HasIn (course s t)) (same_is b d q) h)

  nobodys : (b d : BufId) → (reservation s b).holder ≡ None → same_buffer b d ≡ true → Mine d
  nobodys b d h q = inr (subst (λ z. (reservation s z).holder ≡ None) (same_is b d q) h)

  named_mine : (d : BufId) → Works (course s t) cmd → has_buffer (named cmd) d ≡ true → HasIn (course s t) d
  named_mine d works h = inl (none_missing (course s t) cmd d works.whole h)

  mine_sought : (b d : BufId) (q : PlaceSearch) (k : Kind) → HasIn (course s t) b → SearchOutcome script s (course s t) b q k → touches script s t k d ≡ true → Mine d
  mine_sought b d q k h (finds place w m e) g = its b d h g
  mine_sought b d q k h (evicts place {v} {w} a n e f) g = nobodys v d (victim_free script s (course s t).skips place v f).free g
  mine_sought b d q k h (dries place a n) g = absurd (clash (sym g))

  mine_filled : (b d : BufId) (k : Kind) → HasIn (course s t) b → Filled script s b k → touches script s t k d ≡ true → Mine d
  mine_filled b d k h (fresh f l) g = its b d h g
  mine_filled b d k h (again f l) g = its b d h g
  mine_filled b d k h (back f l) g = its b d h g
  mine_filled b d k h (evicts_for_swap {slot} {v} f e) g = nobodys v d (swap_free s v e).free g
  mine_filled b d k h (nothing f) g = absurd (clash (sym g))

  act_works : Turn script s (course s t) cmd task.Act → Works (course s t) cmd
  act_works (act on l f u) = on.works

  pub touched_mine : (x : Task) (k : Kind) (d : BufId) → Turn script s (course s t) cmd x → Gives script s (course s t) cmd x k → touches script s t k d ≡ true → Mine d
  touched_mine x k d turn (makes {b} e l) g = nobodys b d (dead_free b l) g
  touched_mine x k d turn (seeks {b} {aim} sought) g = mine_sought b d _ k (turn_has script s (course s t) cmd (task.Search b aim) b turn refl) sought g
  touched_mine x k d turn (binds {b}) g = its b d (turn_has script s (course s t) cmd (task.Bind b) b turn refl) g
  touched_mine x k d turn (unbinds {b} i) g = its b d (turn_has script s (course s t) cmd (task.Unbind b) b turn refl) g
  touched_mine x k d turn (moves {b} {mem}) g = its b d (turn_has script s (course s t) cmd (task.Move b mem) b turn refl) g
  touched_mine x k d turn (fills {b} filled) g = mine_filled b d k (turn_has script s (course s t) cmd (task.Fill b) b turn refl) filled g
  touched_mine x k d turn (empties {b} w f e) g = its b d (turn_has script s (course s t) cmd (task.Empty b) b turn refl) g
  touched_mine x k d turn (depopulates {b} m f) g = its b d (turn_has script s (course s t) cmd (task.GiveBack b) b turn refl) g
  touched_mine x k d turn (untakes {b} n) g = its b d (turn_has script s (course s t) cmd (task.GiveBack b) b turn refl) g
  touched_mine x k d turn (arms ops e) g = inl (named_mine d (act_works turn) (sym (ap (λ z. has_buffer (named_in z) d) at) ∙ g))
  touched_mine x k d turn (frees {b} e q) g = its b d (named_mine b (act_works turn) (subst (λ z. has_buffer (named z) b ≡ true) (sym e) (or_left (same_buffer b b) false (same_self b)))) g
  touched_mine x k d turn (swaps {b} e q r) g = its b d (named_mine b (act_works turn) (subst (λ z. has_buffer (named z) b ≡ true) (sym e) (or_left (same_buffer b b) false (same_self b)))) g
  touched_mine x k d turn it g = absurd (clash (sym g))

  -- what another thread has stays as it is
  pub others_buffer : (x : Task) (k : Kind) (u : ℕ) (d : BufId) → Turn script s (course s t) cmd x → Gives script s (course s t) cmd x k → (u ≡ t → ⊥) → Has s u d →
      live_in (applied script s (actor.Thread t) k).core.buffers d ≡ live_in s.core.buffers d
  others_buffer x k u d turn gives other h =
      ⊎_elim (λ g. absurd (not_mine (touched_mine x k d turn gives g))) (λ g. untouched script s t k d g) (cases_Bool (touches script s t k d))
    where
      not_mine : Mine d → ⊥
      not_mine (inl m) =
          let a = o.held t d m in
          let b = o.held u d h in
          other (o.one u t b.0 b.3 (a.3 ∙ ap Some (let it : Some a.0 ≡ Some b.0 = sym a.2 ∙ b.2 in let same : a.0 ≡ b.0 = cc in same)))
      not_mine (inr f) = let b = o.held u d h in none_or (reservation s d).holder b.0 f b.2

-- ---- what the others still cost

-- a thread's part by its course
abbrev pub left_of : Script → State → ℕ → Course → ℕ
left_of script s u c = elim (command_of script u c) [ None ↦ 0 | Some cmd ↦ command_left script s c cmd + later_commands script u c.answered ]

pub left_is : (script : Script) (s : State) → length s.courses ≡ length script.threads → (u : ℕ) → thread_left script s u ≡ left_of script s u (course s u)
left_is script s l u =
    ap (λ o. elim o [ None ↦ 0 | Some cmd ↦ command_left script s (course s u) cmd + later_commands script u (course s u).answered ]) (command_is script s l u)

-- a course whose buffers are the same costs the same
pub same_left : (script : Script) (s s' : State) (u : ℕ) (c : Course) → ((d : BufId) → HasIn c d → buffer s' d ≡ buffer s d) → left_of script s' u c ≡ left_of script s u c
same_left script s s' u c same = by (command_of script u c)
  where
    had : (cmd : Command) → first_missing c cmd ≡ None → SameHad s s' c cmd
    had cmd m d h = ⊎_elim (λ k. same d (inl (none_missing c cmd d m k))) (λ k. same d (inr k)) (or_cases (has_buffer (named cmd) d) (is_caught c d) h)

    by : (p : Option Command) →
        ◌≡◌ {A = ℕ} (elim p [ None ↦ 0 | Some cmd ↦ command_left script s' c cmd + later_commands script u c.answered ]) (elim p [ None ↦ 0 | Some cmd ↦ command_left script s c cmd + later_commands script u c.answered ])
    by None = refl
    by (Some cmd) = ap (λ n. n + later_commands script u c.answered) (command_same script s s' c cmd (had cmd))

-- another thread costs what it did
pub others_left : (script : Script) (s s' : State) (t u : ℕ) → OneCourse s s' t → length s.courses ≡ length script.threads → (u ≡ t → ⊥)
    → ((d : BufId) → Has s u d → live_in s'.core.buffers d ≡ live_in s.core.buffers d) → thread_left script s' u ≡ thread_left script s u
others_left script s s' t u one l other same =
    left_is script s' (one.lengths.courses ∙ l) u
    ∙ (ap (left_of script s' u) (one.others u other)
    ∙ (same_left script s s' u (course s u) (λ d h. ap (λ o. unwrap_or o (new_buffer 0)) (same d h))
    ∙ sym (left_is script s l u)))
