-- Each entry of a thread tells so.
use Rattle.std.proofs.Common.{◌≡◌, ℕ, zero, suc, Bool, true, false, List, [], ◌∷◌, Option, Some, None, Ok, refl, sym, subst, ◌∙◌, ap, arith, inl, inr}
use Rattle.std.specs.Prelude.{slice_get, map, find, option_map, not, is_some, is_none, unwrap_or, ◌&&◌, ◌||◌, if◌then◌else◌}
use Rattle.std.proofs.lemmas.Grind.{common_steps}
use Rattle.std.proofs.lemmas.Bool.{and_parts}
use Rattle.std.proofs.lemmas.Bool.Decides.{nat_tests}
use Rattle.ttm_base.specs.ListWords.{last_of, last_or}
use Rattle.ttm_base.specs.declared.Mem.{Mem}
use Rattle.ttm_base.specs.declared.Mem.TheVariants.{System, Tt, Vram}
use Rattle.ttm_base.specs.declared.BufId.{BufId}
use Rattle.ttm_base.specs.declared.JobId.{JobId}
use Rattle.ttm_base.specs.declared.Place.{Place}
use Rattle.ttm_base.specs.Placement.{first_places, forced_places}
use Rattle.ttm_base.specs.Reach.{same_mem}
use Rattle.journal_model.specs.declared.script.Script.{Script}
use Rattle.journal_model.specs.declared.script.Command.{Command}
use Rattle.journal_model.specs.declared.script.Command.TheVariants as command
use Rattle.journal_model.specs.declared.state.State.{State}
use Rattle.journal_model.specs.declared.state.Buffer.{Buffer}
use Rattle.journal_model.specs.declared.state.Victim.{Victim}
use Rattle.journal_model.specs.declared.state.SearchAim.{SearchAim}
use Rattle.journal_model.specs.declared.state.SearchAim.TheVariants as aims
use Rattle.journal_model.specs.declared.state.Task.{Task}
use Rattle.journal_model.specs.declared.state.Task.TheVariants as task
use Rattle.journal_model.specs.declared.entry.Kind.{Kind}
use Rattle.journal_model.specs.declared.entry.Kind.TheVariants as kind
use Rattle.journal_model.specs.declared.entry.Left.TheVariants as left
use Rattle.journal_model.specs.declared.entry.Why.TheVariants as why
use Rattle.journal_model.specs.declared.entry.Shown.{Shown}
use Rattle.journal_model.specs.declared.entry.Shown.TheVariants as shown
use Rattle.journal_model.specs.rules.State.{buffer, course, is_live, live_in, new_buffer, same_buffer, has_buffer, has_target}
use Rattle.journal_model.specs.rules.Commands.{named, command_at_work, whole}
use Rattle.journal_model.specs.rules.Dry.{has_frame}
use Rattle.journal_model.specs.rules.Holds.{free_slot}
use Rattle.journal_model.specs.rules.Ready.{has_all_frames, has_some_target, is_in_place, is_filled, is_ready, first_unready, uses_bytes}
use Rattle.journal_model.specs.rules.Waits.{waited_for, jobs_before_read, jobs_before_write, is_idle}
use Rattle.journal_model.specs.rules.Search.{Step, PlaceSearch, place_search, through_tt, is_caught}
use Rattle.journal_model.specs.rules.PageSteps.{unless_waiting, first_frame_page, next_job, next_ghost, why_caught}
use Rattle.journal_model.specs.rules.Next.{step_of_act, step_of_task}
use Rattle.laws.specs.law_state.Courses as courses
use Rattle.laws.proofs.law_state.JobNames.{found_at}
use Rattle.laws.specs.law_step.Due.{is_due}
use Rattle.laws.specs.law_sound.Sound.{Has, Owned}
use Rattle.laws.proofs.law_sound.Turns.{Turn, OnVictim, OnNamed, OnBuffer, answer, start, victim_unbind, victim_empty, victim_give, victim_move, victim_fill, victim_search, give, act, fill_in_place, ask, bind, fill_to_bind, hop_up, unbind, move_up, move_across, move_down, fill_to_move, hop_down}
use Rattle.laws.proofs.law_sound.Gifts as gifts
use Rattle.laws.proofs.law_sound.Gifts.{Gives, SearchOutcome, Filled, PlaceOf}
use Rattle.laws.proofs.law_sound.Bufs.{same_self, same_is, has_found, found_passes, last_caught, none_last, none_found, none_missing}
use Rattle.laws.proofs.lemma_bytes_told.Spots.{unfilled}
use Rattle.laws.specs.lemma_bytes_told.Told.{is_write, is_read, OnWay, IsThere, IsQuiet, Told, still, makes, frees, leaves, takes, untakes, populates, swaps_in, depopulates, binds, unbinds, moves_up, moves_across, moves_down, evicts, catches, swaps_out, arms, reads, writes, results}

-- ---- places in lists

last_from : {X : Type 0} (y : X) (ys : List X) (x : X) → last_or y ys ≡ x → (i : ℕ) × (slice_get (y ∷ ys) i ≡ Some x)
last_from y [] x e = (0, ap Some e)
last_from y (z ∷ zs) x e = let r = last_from z zs x e in (suc r.0, r.1)

pub last_at : {X : Type 0} (xs : List X) (x : X) → last_of xs ≡ Some x → (i : ℕ) × (slice_get xs i ≡ Some x)
last_at [] x h = cc
last_at (y ∷ ys) x h = last_from y ys x (let e : last_or y ys ≡ x = cc in e)

is_there : (s : State) (b : BufId) → is_live s b ≡ true → IsThere s b
is_there s b h = by (live_in s.core.buffers b) refl h
  where
    by : (o : Option Buffer) → live_in s.core.buffers b ≡ o → is_some o ≡ true → o ≡ Some (unwrap_or o (new_buffer 0))
    by (Some x) e g = refl
    by None e g = cc

is_dead : (s : State) (b : BufId) → is_live s b ≡ false → live_in s.core.buffers b ≡ None
is_dead s b h = by (live_in s.core.buffers b) h
  where
    by : (o : Option Buffer) → is_some o ≡ false → o ≡ None
    by None g = refl
    by (Some x) g = cc

mem_is : (l k : Mem) → same_mem l k ≡ true → l ≡ k
mem_is System System h = refl
mem_is Tt Tt h = refl
mem_is Vram Vram h = refl
mem_is System Tt h = cc
mem_is System Vram h = cc
mem_is Tt System h = cc
mem_is Tt Vram h = cc
mem_is Vram System h = cc
mem_is Vram Tt h = cc

quiet_is : (s : State) (b : BufId) → is_none (waited_for s.core (jobs_before_write (buffer s b))) ≡ true → IsQuiet s b
quiet_is s b h = by (waited_for s.core (jobs_before_write (buffer s b))) h
  where
    by : (o : Option JobId) → is_none o ≡ true → o ≡ None
    by None g = refl
    by (Some i) g = cc

-- ---- by what a thread is at

module _ (script : Script) (s : State) (t : ℕ) (cmd : Command) (at : command_at_work script s t ≡ Some cmd) (o : Owned script s)
    (ways : (v : Victim) (i : ℕ) → slice_get (course s t).caught i ≡ Some v → OnWay (buffer s v.b) v.why) where
  has_there : (b : BufId) → Has s t b → IsThere s b
  has_there b h = let r = o.held t b h in is_there s b r.1

  victim_there : (v : Victim) → OnVictim (course s t) cmd v → IsThere s v.b
  victim_there v on = has_there v.b (inr (last_caught (course s t) v on.last))

  victim_way : (v : Victim) → OnVictim (course s t) cmd v → OnWay (buffer s v.b) v.why
  victim_way v on = let r = last_at (course s t).caught v on.last in ways v r.0 r.1

  named_there : (b : BufId) → OnNamed s (course s t) cmd → has_buffer (named cmd) b ≡ true → IsThere s b
  named_there b on h = has_there b (inl (none_missing (course s t) cmd b on.works.whole h))

  first_there : (b : BufId) → OnNamed s (course s t) cmd → first_unready script s cmd ≡ Some b → IsThere s b
  first_there b on f = named_there b on (has_found (λ b. not (is_ready script s cmd b)) (named cmd) b f)

  at_there : (b : BufId) → OnBuffer script s (course s t) cmd b → IsThere s b
  at_there b on = first_there b on.named on.first

  -- ---- searches

  other_than : {l k : Mem} → l ≡ k → (k ≡ Vram → ⊥) → l ≡ Vram → ⊥
  other_than e ne h = ne (sym e ∙ h)

  -- a hop is in TT
  hop_place : (b : BufId) (place : Place) → PlaceOf (place_search script cmd (course s t) b aims.Hop) place → (place.mem ≡ Vram → ⊥)
  hop_place b place p = by (is_caught (course s t) b) p
    where
      first_none : (i : ℕ) → ◌≡◌ {A = Option Place} (slice_get [] i) (Some place) → ⊥
      first_none i e = cc

      forced_at : (n : ℕ) → place ≡ unwrap_or (slice_get (whole Tt ∷ []) n) (whole System) → place.mem ≡ Vram → ⊥
      forced_at zero e h = let z : Tt ≡ Vram = sym (ap (λ (p : Place). p.mem) e) ∙ h in cc
      forced_at (suc n) e h = let z : System ≡ Vram = sym (ap (λ (p : Place). p.mem) e) ∙ h in cc

      of_place_search : (q : PlaceSearch) → first_places q.list ≡ [] → forced_places q.list ≡ whole Tt ∷ [] → PlaceOf q place → place.mem ≡ Vram → ⊥
      of_place_search q e f (gifts.first i n h) k = first_none i (sym (ap (λ ps. slice_get ps i) e) ∙ h)
      of_place_search q e f (gifts.forced h) k = forced_at q.dry (h ∙ ap (λ ps. unwrap_or (slice_get ps q.dry) (whole System)) f) k

      by : (c : Bool) → PlaceOf (if c then record { list = through_tt; forced = false; dry = 0 } else record { list = through_tt; forced = (course s t).forced; dry = (course s t).dry }) place → place.mem ≡ Vram → ⊥
      by true p = of_place_search (record { list = through_tt; forced = false; dry = 0 }) refl refl p
      by false p = of_place_search (record { list = through_tt; forced = (course s t).forced; dry = (course s t).dry }) refl refl p

  sought_told : (b : BufId) (aim : SearchAim) (k : Kind) → IsThere s b → ((place : Place) → PlaceOf (place_search script cmd (course s t) b aim) place → place.mem ≡ Vram → has_some_target (buffer s b) ≡ false) →
      SearchOutcome script s (course s t) b (place_search script cmd (course s t) b aim) k → Told script s t k
  sought_told b aim k there free (gifts.finds place {mem} {spans} p m h) = takes place there m h (λ e. free place p (m ∙ e))
  sought_told b aim k there free (gifts.evicts place {v} {w} a n e h) = catches
  sought_told b aim k there free (gifts.dries place {w} a n) = still refl

  -- ---- fills

  filled_told : (b : BufId) (k : Kind) → IsThere s b → has_all_frames (buffer s b) ≡ false → ((buffer s b).mem ≡ Tt → ⊥) → Filled script s b k → Told script s t k
  filled_told b k there some tt_not (gifts.fresh {frame} f l) = populates there f l some tt_not
  filled_told b k there some tt_not (gifts.again {f = n} {frame} f l) = absurd (unfilled (buffer s b) n some l)
  filled_told b k there some tt_not (gifts.back {slot} {frame} f l) = swaps_in there f l some tt_not
  filled_told b k there some tt_not (gifts.evicts_for_swap {slot} {v} f e) = catches
  filled_told b k there some tt_not (gifts.nothing f) = still refl

  -- ---- acting

  not_true : (q : Bool) → not q ≡ false → q ≡ true
  not_true true h = refl
  not_true false h = cc

  ready_at : (b : BufId) → first_unready script s cmd ≡ None → has_buffer (named cmd) b ≡ true → is_ready script s cmd b ≡ true
  ready_at b f h = not_true (is_ready script s cmd b) (none_found (λ b. not (is_ready script s cmd b)) (named cmd) b f h)

  -- what the command at work shows and writes
  act_told : (r : Shown) → OnNamed s (course s t) cmd → first_unready script s cmd ≡ None → (x : Command) → cmd ≡ x → step_of_act script s x ≡ Ok (kind.Result r) → Told script s t (kind.Result r)
  act_told r on f (command.Write b off bytes) e h = by (waited_for s.core (jobs_before_write (buffer s b))) refl h
    where
      mine : has_buffer (named cmd) b ≡ true
      mine = ap (λ z. has_buffer (named z) b) e ∙ ap (λ q. q || false) (same_self b)

      by : (o : Option JobId) → waited_for s.core (jobs_before_write (buffer s b)) ≡ o → ◌≡◌ {A = Step} (unless_waiting o (kind.Result shown.Plain)) (Ok (kind.Result r)) → Told script s t (kind.Result r)
      by None q g =
          let one : shown.Plain ≡ r = (let two : kind.Result shown.Plain ≡ kind.Result r = cc in cc) in
          subst (λ r. Told script s t (kind.Result r)) one (writes b off bytes (at ∙ ap Some e) (named_there b on mine) (ap (λ z. is_ready script s z b) (sym e) ∙ ready_at b f mine) q)
      by (Some i) q g = cc
  act_told r on f (command.Read b off len) e h = by (waited_for s.core (jobs_before_read (buffer s b))) refl h
    where
      by : (o : Option JobId) → waited_for s.core (jobs_before_read (buffer s b)) ≡ o → ◌≡◌ {A = Step} (unless_waiting o (kind.Result (shown.Read []))) (Ok (kind.Result r)) → Told script s t (kind.Result r)
      by None q g =
          let one : shown.Read [] ≡ r = (let two : kind.Result (shown.Read []) ≡ kind.Result r = cc in cc) in
          subst (λ r. Told script s t (kind.Result r)) one (reads b off len (at ∙ ap Some e) q)
      by (Some i) q g = cc
  act_told r on f asked e h = results cmd at (ap is_write e) (ap is_read e) (grind (arith, common_steps, nat_tests))

  -- a command that makes something writes nothing
  made_writes_none : (x : Command) → courses.makes x ≡ true → is_write x ≡ false
  made_writes_none (command.New b) h = refl
  made_writes_none (command.Free b) h = refl
  made_writes_none (command.Touch group) h = refl
  made_writes_none (command.Submit engine ops) h = refl
  made_writes_none cmd h = cc

  -- and reads nothing
  made_reads_none : (x : Command) → courses.makes x ≡ true → is_read x ≡ false
  made_reads_none (command.New b) h = refl
  made_reads_none (command.Free b) h = refl
  made_reads_none (command.Touch group) h = refl
  made_reads_none (command.Submit engine ops) h = refl
  made_reads_none cmd h = cc

  free_told : (b : BufId) (g : ℕ) → IsThere s b → g ≡ (if is_idle s.core (buffer s b) then 0 else next_ghost s) → Told script s t (kind.Free b g)
  free_told b g there e = by (is_idle s.core (buffer s b)) refl e
    where
      by : (q : Bool) → is_idle s.core (buffer s b) ≡ q → g ≡ (if q then 0 else next_ghost s) → Told script s t (kind.Free b g)
      by true i f = subst (λ g. Told script s t (kind.Free b g)) (sym f) (frees there (quiet_is s b i))
      by false i f = subst (λ g. Told script s t (kind.Free b g)) (sym f) (leaves there)

  swap_told : (b : BufId) (k : ℕ) → IsThere s b → (buffer s b).mem ≡ System → has_frame (buffer s b) ≡ true → free_slot script s.core ≡ Some k → is_due s (kind.SwapOut b (first_frame_page (buffer s b)) k) ≡ true →
      Told script s t (kind.SwapOut b (first_frame_page (buffer s b)) k)
  swap_told b k there m f e due = swaps_out there m (quiet_is s b due) f e

  -- a victim that was caught for swap
  swap_way : (b : BufId) → has_target System (buffer s b) ≡ false → why_caught (course s t) b ≡ Some why.Swap → (buffer s b).mem ≡ System
  swap_way b n w = by (find (λ v. same_buffer b v.b) (course s t).caught) refl w
    where
      by : (o : Option Victim) → find (λ v. same_buffer b v.b) (course s t).caught ≡ o → option_map (λ (v : Victim). v.why) o ≡ Some why.Swap → (buffer s b).mem ≡ System
      by None e g = cc
      by (Some v) e g =
          let r = found_at (λ v. same_buffer b v.b) (course s t).caught v e in
          let same : b ≡ v.b = same_is b v.b r.2 in
          let is : v.why ≡ why.Swap = cc in
          subst (λ d. (buffer s d).mem ≡ System) (sym same) ((ways v r.0 r.1).swap is (subst (λ d. has_target System (buffer s d) ≡ false) same n))

  unready_in_place : (b : BufId) → first_unready script s cmd ≡ Some b → is_in_place script cmd b (buffer s b) ≡ true → is_filled cmd (buffer s b) ≡ false
  unready_in_place b f i = by (is_filled cmd (buffer s b)) (found_passes (λ b. not (is_ready script s cmd b)) (named cmd) b f)
    where
      by : (q : Bool) → not (is_in_place script cmd b (buffer s b) && q) ≡ true → q ≡ false
      by false h = refl
      by true h = let z : not (is_in_place script cmd b (buffer s b) && true) ≡ false = ap (λ p. not (p && true)) i in cc

  unfilled_is : (x : Buffer) → is_filled cmd x ≡ false → (x.mem ≡ System) × (has_all_frames x ≡ false)
  unfilled_is x h = let r = parts (uses_bytes cmd) (same_mem x.mem System) (has_all_frames x) h in (mem_is x.mem System r.0, r.1)
    where
      parts : (p q r : Bool) → (not p || not q || r) ≡ false → (q ≡ true) × (r ≡ false)
      parts true true false h = (refl, refl)
      parts true true true h = cc
      parts true false r h = cc
      parts false q r h = cc

  no_tt : {l : Mem} → l ≡ System → l ≡ Tt → ⊥
  no_tt e h = let z : System ≡ Tt = sym e ∙ h in cc

  vram_no_tt : {l : Mem} → l ≡ Vram → l ≡ Tt → ⊥
  vram_no_tt e h = let z : Vram ≡ Tt = sym e ∙ h in cc

  uncaught : (b : BufId) → OnNamed s (course s t) cmd → is_caught (course s t) b ≡ false
  uncaught b on = ap (λ vs. has_buffer (map (λ (v : Victim). v.b) vs) b) (none_last (course s t).caught on.alone)

  -- ---- each task

  search_told : (b : BufId) (aim : SearchAim) (k : Kind) → Turn script s (course s t) cmd (task.Search b aim) → SearchOutcome script s (course s t) b (place_search script cmd (course s t) b aim) k → Told script s t k
  search_told b aim k (victim_search v on i f n) g = sought_told v.b aims.Hop k (victim_there v on) (λ p w m. absurd (hop_place v.b p w m)) g
  search_told b aim k (ask on n) g = sought_told b aims.Asked k (at_there b on.on) (λ p w m. n) g
  search_told b aim k (hop_up on n) g = sought_told b aims.Hop k (at_there b on.on.on) (λ p w m. absurd (hop_place b p w m)) g
  search_told b aim k (hop_down on m n) g = sought_told b aims.Hop k (at_there b on.on.on) (λ p w m. absurd (hop_place b p w m)) g

  fill_told : (b : BufId) (k : Kind) → Turn script s (course s t) cmd (task.Fill b) → Filled script s b k → Told script s t k
  fill_told b k (victim_fill v on i f n q) g = filled_told v.b k (victim_there v on) q (vram_no_tt i.mem) g
  fill_told b k (fill_in_place on i) g = let r = unfilled_is (buffer s b) (unready_in_place b on.first i) in filled_told b k (at_there b on) r.1 (no_tt r.0) g
  fill_told b k (fill_to_bind on n q) g = filled_told b k (at_there b on.on.on) q (no_tt on.stands) g
  fill_told b k (fill_to_move on m n q) g = filled_told b k (at_there b on.on.on) q (vram_no_tt on.stands) g

  unbind_told : (b : BufId) → Turn script s (course s t) cmd (task.Unbind b) → IsQuiet s b → Told script s t (kind.Unbind b)
  unbind_told b (victim_unbind v on h) i = unbinds (victim_there v on) i (λ m. (victim_way v on).back h m)
  unbind_told b (unbind on h) i = unbinds (at_there b on.on.on) i (λ m. let z : Tt ≡ Vram = sym on.stands ∙ m in cc)

  -- what is left behind
  of_caught : (b : BufId) (mem : Mem) (q : Bool) → is_caught (course s t) b ≡ q → Told script s t (kind.Move b mem (next_job s 0) (if q then left.Now else left.Ghost (next_ghost s))) →
      Told script s t (kind.Move b mem (next_job s 0) (if is_caught (course s t) b then left.Now else left.Ghost (next_ghost s)))
  of_caught b mem q e h = subst (λ p. Told script s t (kind.Move b mem (next_job s 0) (if p then left.Now else left.Ghost (next_ghost s)))) (sym e) h

  only_vram : (b : BufId) → has_some_target (buffer s b) ≡ true → (has_target System (buffer s b) || has_target Tt (buffer s b)) ≡ false → has_target Vram (buffer s b) ≡ true
  only_vram b h n = last (has_target System (buffer s b) || has_target Tt (buffer s b)) (has_target Vram (buffer s b)) n h
    where
      last : (p q : Bool) → p ≡ false → (p || q) ≡ true → q ≡ true
      last false q e h = h
      last true q e h = cc

  move_told : (b : BufId) (mem : Mem) → Turn script s (course s t) cmd (task.Move b mem) → Told script s t (kind.Move b mem (next_job s 0) (if is_caught (course s t) b then left.Now else left.Ghost (next_ghost s)))
  move_told b mem (victim_move v on i f n q) = of_caught v.b Tt true (last_caught (course s t) v on.last) (evicts (victim_there v on) i.mem n q)
  move_told b mem (move_up on n) = of_caught b Vram false (uncaught b on.on.on.named) (moves_up (at_there b on.on.on) on.stands (only_vram b on.some n))
  move_told b mem (move_across on n) = of_caught b Vram false (uncaught b on.on.on.named) (moves_across (at_there b on.on.on) on.stands n)
  move_told b mem (move_down on m n q) = of_caught b Tt false (uncaught b on.on.on.named) (moves_down (at_there b on.on.on) on.stands n q)

  give_there : (b : BufId) → Turn script s (course s t) cmd (task.GiveBack b) → IsThere s b
  give_there b (victim_give v d on i f n) = victim_there v on
  give_there b (give d on n f u q) = first_there b on u

  empty_told : (b : BufId) (k : ℕ) → Turn script s (course s t) cmd (task.Empty b) → why_caught (course s t) b ≡ Some why.Swap → has_frame (buffer s b) ≡ true → free_slot script s.core ≡ Some k →
      is_due s (kind.SwapOut b (first_frame_page (buffer s b)) k) ≡ true → Told script s t (kind.SwapOut b (first_frame_page (buffer s b)) k)
  empty_told b k (victim_empty v on n e) w f g due = swap_told v.b k (victim_there v on) (swap_way v.b n w) f g due

  -- a command that swaps stands in SYSTEM
  swap_in_place : (b : BufId) → cmd ≡ command.SwapOut b → first_unready script s cmd ≡ None → (buffer s b).mem ≡ System
  swap_in_place b e f =
      let mine : has_buffer (named cmd) b ≡ true = ap (λ z. has_buffer (named z) b) e ∙ ap (λ q. q || false) (same_self b) in
      let r : is_ready script s (command.SwapOut b) b ≡ true = ap (λ z. is_ready script s z b) (sym e) ∙ ready_at b f mine in
      let i = and_parts (is_in_place script (command.SwapOut b) b (buffer s b)) (is_filled (command.SwapOut b) (buffer s b)) r in
      let m = and_parts (not (has_some_target (buffer s b))) (same_mem (buffer s b).mem System) i.0 in
      mem_is (buffer s b).mem System m.1

  pub tells : (x : Task) (k : Kind) → ((course s t).made ≡ true → courses.makes cmd ≡ true) → step_of_task script s (course s t) cmd x ≡ Ok k → is_due s k ≡ true → Turn script s (course s t) cmd x → Gives script s (course s t) cmd x k → Told script s t k
  tells x k made step due (answer m) gifts.answers = results cmd at (made_writes_none cmd (made m)) (made_reads_none cmd (made m)) refl
  tells x k made step due (start m q) (gifts.makes {b} e l) = makes (is_dead s b l)
  tells x k made step due turn (gifts.seeks {b} {aim} sought) = search_told b aim k turn sought
  tells x k made step due turn (gifts.binds {b}) = bind_told b turn
    where
      bind_told : (b : BufId) → Turn script s (course s t) cmd (task.Bind b) → Told script s t (kind.Bind b)
      bind_told b (bind on n q) = binds (at_there b on.on.on) on.stands n q
  tells x k made step due turn (gifts.unbinds {b} i) = unbind_told b turn i
  tells x k made step due turn (gifts.moves {b} {mem}) = move_told b mem turn
  tells x k made step due turn (gifts.fills {b} filled) = fill_told b k turn filled
  tells x k made step due turn (gifts.empties {b} {slot} w f e) = empty_told b slot turn w f e due
  tells x k made step due turn (gifts.depopulates {b} m f) = depopulates (give_there b turn) m
  tells x k made step due turn (gifts.untakes {b} n) = untakes (give_there b turn)
  tells x k made step due (act on a f u) (gifts.arms {engine} ops e) =
      arms ops (at ∙ ap Some e) (λ b h. named_there b on (ap (λ z. has_buffer (named z) b) e ∙ h)) (λ b h. ap (λ z. is_ready script s z b) (sym e) ∙ ready_at b u (ap (λ z. has_buffer (named z) b) e ∙ h))
  tells x k made step due (act on a f u) (gifts.frees {b} {g} e q) = free_told b g (named_there b on (ap (λ z. has_buffer (named z) b) e ∙ ap (λ q. q || false) (same_self b))) q
  tells x k made step due (act on a f u) (gifts.swaps {b} {slot} e q r) =
      swap_told b slot (named_there b on (ap (λ z. has_buffer (named z) b) e ∙ ap (λ q. q || false) (same_self b))) (swap_in_place b e u) q r due
  tells x k made step due (act on a f u) (gifts.acts {r}) = act_told r on u cmd refl step
  tells x k made step due turn gives = still refl
