-- Each entry keeps what is known of victims.
use Rattle.std.proofs.Common.{◌≡◌, ℕ, Bool, true, false, List, [], ◌∷◌, ◌++◌, length, Option, Some, None, IsSome, refl, sym, ◌∙◌, ap, subst, ◌⊎◌, inl, inr, ⊎_elim}
use Rattle.std.specs.Prelude.{map, cond, not, unwrap_or, is_some, ◌&&◌, ◌||◌, if◌then◌else◌}
use Rattle.std.proofs.lemmas.Bool.{cases_Bool, cases_eq, and_parts, not-true, false_from_ne_true}
use Rattle.ttm_base.specs.Placement.{forced_places}
use Rattle.ttm_base.specs.declared.Mem.{Mem}
use Rattle.ttm_base.specs.declared.Mem.TheVariants.{System, Tt, Vram}
use Rattle.ttm_base.specs.declared.Place.{Place}
use Rattle.ttm_base.specs.declared.Span.{Span}
use Rattle.ttm_base.specs.declared.BufId.{BufId}
use Rattle.ttm_base.specs.declared.Deny.{Deny}
use Rattle.ttm_base.specs.declared.Deny.TheVariants as deny
use Rattle.ttm_base.specs.declared.Actor.{Actor}
use Rattle.journal_model.specs.declared.script.Script.{Script}
use Rattle.journal_model.specs.declared.script.Command.{Command}
use Rattle.journal_model.specs.declared.state.State.{State}
use Rattle.journal_model.specs.declared.state.Course.{Course}
use Rattle.journal_model.specs.declared.state.Victim.{Victim}
use Rattle.journal_model.specs.declared.state.Buffer.{Buffer}
use Rattle.journal_model.specs.declared.state.Task.{Task}
use Rattle.journal_model.specs.declared.state.Task.TheVariants as task
use Rattle.journal_model.specs.declared.entry.Why.{Why}
use Rattle.journal_model.specs.declared.entry.Why.TheVariants as why
use Rattle.journal_model.specs.declared.entry.Left.{Left}
use Rattle.journal_model.specs.declared.entry.Left.TheVariants as left
use Rattle.journal_model.specs.declared.entry.Kind.{Kind}
use Rattle.journal_model.specs.declared.entry.Kind.TheVariants as kind
use Rattle.journal_model.specs.rules.State.{new_buffer, buffer, course, course_of, reservation, live_in, changed, same_buffer, has_buffer, has_target}
use Rattle.journal_model.specs.rules.Commands.{command_at_work}
use Rattle.ttm_base.specs.Reach.{same_mem, intersects}
use Rattle.journal_model.specs.rules.Choice.{choice, choice_in, reach_of}
use Rattle.journal_model.specs.rules.Holds.{free_slot}
use Rattle.journal_model.specs.rules.Legal.{first_state}
use Rattle.journal_model.specs.rules.Dry.{has_frame, victim, swap_victim, is_loose}
use Rattle.journal_model.specs.rules.Ready.{has_some_target}
use Rattle.journal_model.specs.rules.Search.{PlaceSearch, place_search_at_work, why_of, is_caught}
use Rattle.journal_model.specs.rules.Tasks.{starts, first_missing}
use Rattle.journal_model.specs.rules.Apply.{applied}
use Rattle.journal_model.specs.rules.PageSteps.{target_to_untake, next_job, next_ghost}
use Rattle.journal_model.specs.rules.ApplyPages.{with_spans, with_loc, without_frames, with_kernel_fences, unbound}
use Rattle.journal_model.specs.rules.ApplyMoves.{moved}
use Rattle.journal_model.specs.rules.ApplyVictims.{failed_if, with_fail, gone_dry, course_after_dry, no_longer_caught, leaves_tt}
use Rattle.journal_model.specs.rules.Waits.{jobs_before_target}
use Rattle.laws.specs.law_sound.Sound.{OnItsWay, locks, command_of}
use Rattle.laws.proofs.law_sound.Along.{Stepped, OfWorker, packet, done, reap, first_course}
use Rattle.laws.proofs.law_sound.Turns.{Turn, InVram, answer, start, lock, victim_unbind, victim_empty, victim_give, victim_skip, victim_move, victim_fill, victim_search, refuse, give, give_up, act, fill_in_place, ask, bind, fill_to_bind, hop_up, unbind, move_up, move_across, move_down, fill_to_move, hop_down}
use Rattle.laws.proofs.law_sound.Gifts.{Gives, SearchOutcome, Filled, seeks, unbinds, moves, fills, lets_go, empties, depopulates, untakes, skips, finds, evicts, dries, fresh, again, back, evicts_for_swap, nothing}
use Rattle.laws.proofs.law_sound.Bufs.{same_self, other_is, victims_of, let_go, none_last, last_caught}
use Rattle.laws.proofs.law_sound.Steadies.{next_course, own_course, locking_command, lock_wants, locks_alone}
use Rattle.laws.proofs.law_sound.Owners.{none_or}
use Rattle.laws.proofs.law_sound.Reservations.{IsFree, victim_free, swap_free, victim_passes, swap_passes}
use Rattle.laws.proofs.law_sound.OwnedKeeps.{bare, unlocked_alone}
use Rattle.laws.proofs.lemma_end_measure.Frame.{untouched}
use Rattle.laws.proofs.lemma_end_measure.Giving.{changed_here, target_there}
use Rattle.laws.proofs.lemma_end_measure.Border.{Known, one, others_same}
use Rattle.laws.proofs.lemma_end_measure.Parts.{after}
use Rattle.laws.proofs.lemma_end_searches.Victims.{Caught, single, pair, Last, alone_for_vram, failed_alone}
use Rattle.laws.proofs.lemma_end_searches.Ways.{Ways, Unskipped, GoodVictims, way_of_last, way_alike, way_failed, ways_same, ways_last, few_let_go, ways_let_go, unskipped_let_go, ways_pushed, unskipped_pushed, none_good}
use Rattle.laws.proofs.lemma_end_searches.Catching.{Prey, for_swap, evicted, hop}
use Rattle.laws.proofs.lemma_end_searches.WaySteps.{way_untaken, way_unbound, way_moved, way_taken, hop_takes, way_caught}

-- a buffer that nobody holds has no target
abbrev pub NoLooseTarget : State → Type 0
NoLooseTarget s = (b : BufId) → has_some_target (buffer s b) ≡ true → (reservation s b).holder ≡ None → ⊥

-- what is caught for swap isn't in VRAM
abbrev pub SwapsBelow : State → Type 0
SwapsBelow s = (b : BufId) → swap_victim s ≡ Some b → (buffer s b).mem ≡ Vram → ⊥

-- ---- nobody caught, before and after

abbrev pub is_catch : Kind → Bool
is_catch (kind.Catch b w) = true
is_catch k = false

stays_alone : (script : Script) (s : State) (t : ℕ) (k : Kind) → is_catch k ≡ false → (course s t).caught ≡ [] → (next_course script s t k).caught ≡ []
stays_alone script s t (kind.Take b mem spans) q h = by (is_caught (course s t) b)
  where
    by : (z : Bool) → (if z then course s t else record (course s t) { forced = false; dry = 0 }).caught ≡ []
    by true = h
    by false = h
stays_alone script s t (kind.Catch b w) q h = cc
stays_alone script s t (kind.Loose b) q h = ap (let_go b) h
stays_alone script s t (kind.Skip b) q h = ap (let_go b) h
stays_alone script s t (kind.Dry b k w) q h = by_command (command_at_work script s t)
  where
    by_fail : (z : Bool) → (if z then record (course s t) { caught = map (failed_if deny.NoSpace b) (course s t).caught } else record (course s t) { fail = Some deny.NoSpace }).caught ≡ []
    by_fail true = ap (map (failed_if deny.NoSpace b)) h
    by_fail false = h

    by_caught : (cmd : Command) (z : Bool) → (if z then with_fail b deny.NoSpace (course s t) else gone_dry k (length (forced_places (place_search_at_work script s (course s t) cmd b).list)) (course s t)).caught ≡ []
    by_caught cmd true = by_fail (is_caught (course s t) b)
    by_caught cmd false = h

    by_command : (o : Option Command) → (course_after_dry script s b k o (course s t)).caught ≡ []
    by_command None = h
    by_command (Some cmd) = by_caught cmd (is_caught (course s t) b)
stays_alone script s t (kind.NoPages b) q h = by (is_caught (course s t) b)
  where
    by : (z : Bool) → (if z then record (course s t) { caught = map (failed_if deny.NoPages b) (course s t).caught } else record (course s t) { fail = Some deny.NoPages }).caught ≡ []
    by true = ap (map (failed_if deny.NoPages b)) h
    by false = h
stays_alone script s t (kind.Result shown) q h = refl
stays_alone script s t (kind.Refused d) q h = refl
stays_alone script s t k q h = h

-- only searches and fills catch
abbrev is_plain : Task → Bool
is_plain (task.Search b aim) = false
is_plain (task.Fill b) = false
is_plain x = true

never_catches : (script : Script) (s : State) (c : Course) (cmd : Command) (x : Task) (k : Kind) → is_plain x ≡ true → Gives script s c cmd x k → is_catch k ≡ false
never_catches script s c cmd x k q (seeks sought) = cc
never_catches script s c cmd x k q (fills filled) = cc
never_catches script s c cmd x k q gives = refl

-- ---- the thread's own victims

module _ (script : Script) (s : State) (t : ℕ) (known : Known script s) (good : (u : ℕ) → GoodVictims s (course s u)) (targets : NoLooseTarget s) (below : SwapsBelow s) where
  -- what is to be shown of an entry
  abbrev Good : Kind → Type 0
  Good k = GoodVictims (after script s t k) (next_course script s t k)

  few_now : Caught (course s t).caught
  few_now = (good t).few

  caught_live : (v : Victim) → Last (course s t).caught v → live_in s.core.buffers v.b ≡ Some (buffer s v.b)
  caught_live v h = by (live_in s.core.buffers v.b) (known.owned.held t v.b (inr (last_caught (course s t) v h))).1
    where
      by : (o : Option Buffer) → is_some o ≡ true → o ≡ Some (unwrap_or o (new_buffer 0))
      by None k = cc
      by (Some x) k = refl

  way : (v : Victim) → Last (course s t).caught v → OnItsWay (buffer s v.b) v.why v.fail
  way v h = way_of_last (buffer s) (course s t).caught v few_now (good t).ways h

  quiet : (k : Kind) → is_catch k ≡ false → (course s t).caught ≡ [] → Good k
  quiet k q h = none_good (after script s t k) (next_course script s t k) (stays_alone script s t k q h)

  -- the last victim's buffer changes, and no course
  one_way : (k : Kind) (f : Buffer → Buffer) (v : Victim) → next_course script s t k ≡ course s t → Last (course s t).caught v → (after script s t k).core.buffers ≡ changed f s.core.buffers v.b
      → ((d : BufId) → same_buffer v.b d ≡ false → live_in (after script s t k).core.buffers d ≡ live_in s.core.buffers d) → OnItsWay (f (buffer s v.b)) v.why v.fail → Good k
  one_way k f v own h core others now =
      subst (GoodVictims (after script s t k)) (sym own)
      (record {
        few = few_now;
        ways = ways_last (buffer s) (buffer (after script s t k)) (course s t).caught v few_now h (λ d q. ap (λ o. unwrap_or o (new_buffer 0)) (others d q)) (subst (λ x. OnItsWay x v.why v.fail) (sym now_is) now) (good t).ways;
        unskipped = (good t).unskipped;
      })
    where
      now_is : buffer (after script s t k) v.b ≡ f (buffer s v.b)
      now_is = ap (λ bs. unwrap_or (live_in bs v.b) (new_buffer 0)) core ∙ ap (λ o. unwrap_or o (new_buffer 0)) (changed_here f s.core.buffers v.b (buffer s v.b) (caught_live v h))

  -- the last victim's search fails
  fails : (k : Kind) (v : Victim) (d : Deny) → next_course script s t k ≡ record (course s t) { caught = map (failed_if d v.b) (course s t).caught } → (after script s t k).core ≡ s.core → Last (course s t).caught v → InVram v (buffer s v.b) → Good k
  fails k v d own core h vram =
      subst (GoodVictims (after script s t k)) (sym own)
      (record { few = subst Caught (sym failed) single; ways = subst (Ways (buffer (after script s t k))) (sym failed) (now, tt); unskipped = subst (Unskipped (course s t).skips) (sym failed) (free, tt) })
    where
      alone : (course s t).caught ≡ v ∷ []
      alone = alone_for_vram (course s t).caught v few_now h vram.why

      failed : map (failed_if d v.b) (course s t).caught ≡ record v { fail = Some d } ∷ []
      failed = ap (map (failed_if d v.b)) alone ∙ failed_alone v d

      now : OnItsWay (buffer (after script s t k) v.b) v.why (Some d)
      now = subst (λ c. OnItsWay (buffer (record s { core = c }) v.b) v.why (Some d)) (sym core) (way_failed (buffer s v.b) v.why v.fail d vram.mem vram.why (way v h))

      free : v.why ≡ why.Vram → has_buffer (course s t).skips v.b ≡ false
      free = (subst (Unskipped (course s t).skips) alone (good t).unskipped).0

  -- the last victim is let go
  goes : (k : Kind) (v : Victim) (passed : List BufId) → next_course script s t k ≡ record (no_longer_caught v.b (course s t)) { skips = passed } → (after script s t k).core ≡ s.core → Last (course s t).caught v
      → Unskipped passed (let_go v.b (course s t).caught) → Good k
  goes k v passed own core h unskipped =
      subst (GoodVictims (after script s t k)) (sym own)
      (record {
        few = few_let_go (course s t).caught v few_now h;
        ways = subst (λ c. Ways (buffer (record s { core = c })) (let_go v.b (course s t).caught)) (sym core) (ways_let_go (buffer s) v.b (course s t).caught (good t).ways);
        unskipped = unskipped;
      })

  -- one more is caught
  catches : (b : BufId) (w : Why) → IsFree s b → Prey script s b w → (w ≡ why.Swap → (buffer s b).mem ≡ Vram → ⊥) → (w ≡ why.Vram → has_buffer (course s t).skips b ≡ false)
      → Caught ((course s t).caught ++ record { b = b; why = w; fail = None } ∷ []) → Good (kind.Catch b w)
  catches b w free prey low unskipped few =
      record {
        few = few;
        ways = ways_pushed (buffer (after script s t (kind.Catch b w))) (course s t).caught (record { b = b; why = w; fail = None })
            (ways_same (buffer s) (buffer (after script s t (kind.Catch b w))) (course s t).caught (λ d h. ap (λ o. unwrap_or o (new_buffer 0)) (untouched script s t (kind.Catch b w) d (other_is b d (λ q. not_mine d h (sym q))))) (good t).ways)
            (subst (λ x. OnItsWay x w None) (sym now_is) (way_caught script s b w prey (false_from_ne_true (has_some_target (buffer s b)) (λ h. targets b h free.free)) low));
        unskipped = unskipped_pushed (course s t).skips (course s t).caught (record { b = b; why = w; fail = None }) (good t).unskipped unskipped;
      }
    where
      live : live_in s.core.buffers b ≡ Some (buffer s b)
      live = by (live_in s.core.buffers b) free.live
        where
          by : (o : Option Buffer) → is_some o ≡ true → o ≡ Some (unwrap_or o (new_buffer 0))
          by None k = cc
          by (Some x) k = refl

      now_is : buffer (after script s t (kind.Catch b w)) b ≡ leaves_tt (buffer s b).mem (buffer s b)
      now_is = ap (λ o. unwrap_or o (new_buffer 0)) (changed_here (λ x. leaves_tt x.mem x) s.core.buffers b (buffer s b) live)

      not_mine : (d : BufId) → has_buffer (victims_of (course s t).caught) d ≡ true → d ≡ b → ⊥
      not_mine d h q = let m = known.owned.held t d (inr h) in none_or (reservation s b).holder m.0 free.free (subst (λ z. (reservation s z).holder ≡ Some m.0) q m.2)

  -- none was caught, or one for VRAM alone
  first_caught : (b : BufId) (w : Why) → (course s t).caught ≡ [] → Caught ((course s t).caught ++ record { b = b; why = w; fail = None } ∷ [])
  first_caught b w h = subst (λ vs. Caught (vs ++ record { b = b; why = w; fail = None } ∷ [])) (sym h) single

  second_caught : (b : BufId) (w : Why) (v : Victim) → Last (course s t).caught v → v.why ≡ why.Vram → (w ≡ why.Vram → ⊥) → IsFree s b → Caught ((course s t).caught ++ record { b = b; why = w; fail = None } ∷ [])
  second_caught b w v h e n free =
      subst (λ vs. Caught (vs ++ record { b = b; why = w; fail = None } ∷ [])) (sym (alone_for_vram (course s t).caught v few_now h e))
      (pair e n (other_is v.b b (λ q. let m = known.owned.held t v.b (inr (last_caught (course s t) v h)) in none_or (reservation s b).holder m.0 free.free (subst (λ z. (reservation s z).holder ≡ Some m.0) q m.2))))

  -- what was skipped isn't caught
  not_skipped_now : (place : Place) (v : BufId) → victim script s (course s t).skips place ≡ Some v → has_buffer (course s t).skips v ≡ false
  not_skipped_now place v h = not-true (has_buffer (course s t).skips v) (fourth (same_mem (buffer s v).mem place.mem) (intersects (buffer s v).spans (reach_of script place)) (is_loose (reservation s v)) (not (has_buffer (course s t).skips v)) (victim_passes script s (course s t).skips place v h))
    where
      fourth : (a b c d : Bool) → (((a && b) && c) && d) ≡ true → d ≡ true
      fourth a b c d h = (and_parts ((a && b) && c) d h).1

  evicted_good : (b v : BufId) (place : Place) (w : Why) → choice script s.core b place ≡ None → why_of place.mem ≡ w → victim script s (course s t).skips place ≡ Some v
      → Caught ((course s t).caught ++ record { b = v; why = w; fail = None } ∷ []) → Good (kind.Catch v w)
  evicted_good b v place w lacks is found few =
      let prey = evicted script s (course s t).skips b v place w lacks is found in
      catches v w (victim_free script s (course s t).skips place v found) prey (λ q. absurd (no_swap place.mem refl (is ∙ q))) (λ q. not_skipped_now place v found) few
    where
      none_here : ◌≡◌ {A = Option (List Span)} (Some []) None → ⊥
      none_here h = cc

      tt_is : why.Tt ≡ why.Swap → ⊥
      tt_is h = cc

      vram_is : why.Vram ≡ why.Swap → ⊥
      vram_is h = cc

      no_swap : (m : Mem) → place.mem ≡ m → why_of place.mem ≡ why.Swap → ⊥
      no_swap System e q = none_here (sym (ap (λ z. choice_in z script s.core b place) e) ∙ lacks)
      no_swap Tt e q = tt_is (sym (ap why_of e) ∙ q)
      no_swap Vram e q = vram_is (sym (ap why_of e) ∙ q)

  -- ---- searches and fills of named buffers

  named_sought : (b : BufId) (q : PlaceSearch) (k : Kind) → (course s t).caught ≡ [] → SearchOutcome script s (course s t) b q k → Good k
  named_sought b q k alone (finds place {mem} {spans} w m h) = quiet (kind.Take b mem spans) refl alone
  named_sought b q k alone (evicts place {v} {w} at lacks is found) = evicted_good b v place w lacks is found (first_caught v w alone)
  named_sought b q k alone (dries place {w} at lacks) = quiet (kind.Dry b q.dry w) refl alone

  swap_good : (v : BufId) {slot : ℕ} → free_slot script s.core ≡ Some slot → swap_victim s ≡ Some v → Caught ((course s t).caught ++ record { b = v; why = why.Swap; fail = None } ∷ []) → Good (kind.Catch v why.Swap)
  swap_good v free found few =
      catches v why.Swap (swap_free s v found) (for_swap (and_parts _ (has_frame (buffer s v)) (swap_passes s v found)).1 free) (λ q. below v found) (λ q. absurd (swap_is q)) few
    where
      swap_is : why.Swap ≡ why.Vram → ⊥
      swap_is h = cc

  named_filled : (b : BufId) (k : Kind) → (course s t).caught ≡ [] → Filled script s b k → Good k
  named_filled b k alone (fresh {frame} f l) = quiet (kind.Populate b _ frame) refl alone
  named_filled b k alone (again {frame} f l) = quiet (kind.Populate b _ frame) refl alone
  named_filled b k alone (back {slot} {frame} f l) = quiet (kind.SwapIn b _ slot frame) refl alone
  named_filled b k alone (evicts_for_swap {slot} {v} f found) = swap_good v f found (first_caught v why.Swap alone)
  named_filled b k alone (nothing f) = quiet (kind.NoPages b) refl alone

  -- ---- searches and fills of victims

  swap_is : why.Swap ≡ why.Vram → ⊥
  swap_is h = cc

  victim_filled : (v : Victim) (k : Kind) → Last (course s t).caught v → InVram v (buffer s v.b) → Filled script s v.b k → Good k
  victim_filled v k h vram (fresh {frame} f l) =
      one_way (kind.Populate v.b _ frame) (with_loc _ _) v refl h refl (λ d q. untouched script s t (kind.Populate v.b _ frame) d q) (way_alike (buffer s v.b) (with_loc _ _ (buffer s v.b)) v.why v.fail refl refl (way v h))
  victim_filled v k h vram (again {frame} f l) =
      one_way (kind.Populate v.b _ frame) (with_loc _ _) v refl h refl (λ d q. untouched script s t (kind.Populate v.b _ frame) d q) (way_alike (buffer s v.b) (with_loc _ _ (buffer s v.b)) v.why v.fail refl refl (way v h))
  victim_filled v k h vram (back {slot} {frame} f l) =
      one_way (kind.SwapIn v.b _ slot frame) (with_loc _ _) v refl h refl (λ d q. untouched script s t (kind.SwapIn v.b _ slot frame) d q) (way_alike (buffer s v.b) (with_loc _ _ (buffer s v.b)) v.why v.fail refl refl (way v h))
  victim_filled v k h vram (evicts_for_swap {v = x} f found) = swap_good x f found (second_caught x why.Swap v h vram.why swap_is (swap_free s x found))
  victim_filled v k h vram (nothing f) =
      fails (kind.NoPages v.b) v deny.NoPages
      (ap (λ z. if z then record (course s t) { caught = map (failed_if deny.NoPages v.b) (course s t).caught } else record (course s t) { fail = Some deny.NoPages }) (last_caught (course s t) v h)) refl h vram

  victim_sought : (v : Victim) (cmd : Command) (k : Kind) → command_at_work script s t ≡ Some cmd → Last (course s t).caught v → InVram v (buffer s v.b) → has_target Tt (buffer s v.b) ≡ false
      → SearchOutcome script s (course s t) v.b (hop (course s t) true) k → Good k
  victim_sought v cmd k at h vram lacks (finds place {mem} {spans} w m c) =
      subst (λ z. Good (kind.Take v.b z spans)) (sym (hop_takes (course s t) place mem w m))
      (one_way (kind.Take v.b Tt spans) (λ x. with_kernel_fences (jobs_before_target s.core Tt) (with_spans Tt (Some spans) x)) v
      (ap (λ z. if z then course s t else record (course s t) { forced = false; dry = 0 }) (last_caught (course s t) v h)) h refl (λ d q. untouched script s t (kind.Take v.b Tt spans) d q)
      (way_taken (jobs_before_target s.core Tt) spans (buffer s v.b) v.why v.fail vram.mem lacks (way v h)))
  victim_sought v cmd k at h vram lacks (evicts place {v = x} {w} here none is found) =
      evicted_good v.b x place w none is found (second_caught x w v h vram.why (λ q. tt_is (sym (ap (λ p. why_of p.mem) here) ∙ (is ∙ q))) (victim_free script s (course s t).skips place x found))
    where
      tt_is : why.Tt ≡ why.Vram → ⊥
      tt_is z = cc
  victim_sought v cmd k at h vram lacks (dries place {w} here none) =
      fails (kind.Dry v.b 0 w) v deny.NoSpace
      (ap (λ o. course_after_dry script s v.b 0 o (course s t)) at
      ∙ (ap (λ z. if z then with_fail v.b deny.NoSpace (course s t) else gone_dry 0 (length (forced_places (place_search_at_work script s (course s t) cmd v.b).list)) (course s t)) (last_caught (course s t) v h)
      ∙ ap (λ z. if z then record (course s t) { caught = map (failed_if deny.NoSpace v.b) (course s t).caught } else record (course s t) { fail = Some deny.NoSpace }) (last_caught (course s t) v h))) refl h vram

  moved_good : (v : Victim) (n : ℕ) (l : Left) → Last (course s t).caught v → (buffer s v.b).mem ≡ Vram → v.fail ≡ None → has_target Tt (buffer s v.b) ≡ true → Good (kind.Move v.b Tt n l)
  moved_good v n l h m f q =
      one_way (kind.Move v.b Tt n l) (moved Tt (record { ctx = 0; num = n })) v refl h refl (λ d z. untouched script s t (kind.Move v.b Tt n l) d z)
      (way_moved (record { ctx = 0; num = n }) (buffer s v.b) v.why v.fail f m q (way v h))

  -- ---- each task

  module _ (cmd : Command) (here : IsSome (course_of s t)) (work : command_at_work script s t ≡ Some cmd) (at : command_of script t (course s t) ≡ Some cmd) where
    start_alone : starts (course s t) cmd ≡ true → (course s t).caught ≡ []
    start_alone q = by (cases_Bool (locks cmd))
      where
        none : (vs : List Victim) → ((b : BufId) → has_buffer (victims_of vs) b ≡ true → ⊥) → vs ≡ []
        none [] h = refl
        none (v ∷ vs) h = absurd (h v.b (ap (λ z. z || has_buffer (victims_of vs) v.b) (same_self v.b)))

        by : (locks cmd ≡ true) ⊎ (locks cmd ≡ false) → (course s t).caught ≡ []
        by (inl l) = none (course s t).caught (λ b h. bare script s t cmd here at known.owned (locking_command (course s t) cmd q l) b (inr h))
        by (inr l) = unlocked_alone script s t cmd here at known.owned l

    lock_alone : (b : BufId) → (course s t).made ≡ false → starts (course s t) cmd ≡ false → first_missing (course s t) cmd ≡ Some b → (course s t).caught ≡ []
    lock_alone b m n f = by (course s t).caught (λ d h. locks_alone script t (course s t) cmd (known.owned.steady t) at b d (lock_wants (course s t) cmd b m n f) h)
      where
        by : (vs : List Victim) → ((d : BufId) → has_buffer (victims_of vs) d ≡ true → ⊥) → vs ≡ []
        by [] h = refl
        by (v ∷ vs) h = absurd (h v.b (ap (λ z. z || has_buffer (victims_of vs) v.b) (same_self v.b)))

    plain : (x : Task) (k : Kind) → is_plain x ≡ true → Gives script s (course s t) cmd x k → (course s t).caught ≡ [] → Good k
    plain x k q gives alone = quiet k (never_catches script s (course s t) cmd x k q gives) alone

    own_good : (x : Task) (k : Kind) → Turn script s (course s t) cmd x → Gives script s (course s t) cmd x k → Good k
    own_good x k (answer m) gives = plain task.Answer k refl gives ((known.owned.steady t).finished m)
    own_good x k (start m q) gives = plain task.Start k refl gives (start_alone q)
    own_good x k (lock {b} m n f) gives = plain (task.Lock b) k refl gives (lock_alone b m n f)
    own_good x k (victim_unbind v on q) (unbinds i) = one_way (kind.Unbind v.b) unbound v refl on.last refl (λ d h. untouched script s t (kind.Unbind v.b) d h) (way_unbound (buffer s v.b) v.why v.fail q (way v on.last))
    own_good x k (victim_empty v on n e) lets_go = goes (kind.Loose v.b) v (course s t).skips refl refl on.last (unskipped_let_go (course s t).skips v.b (course s t).caught (good t).unskipped)
    own_good x k (victim_empty v on n e) (empties {slot = slot} w f g) =
        one_way (kind.SwapOut v.b _ slot) (with_loc _ _) v refl on.last refl (λ d h. untouched script s t (kind.SwapOut v.b _ slot) d h) (way_alike (buffer s v.b) (with_loc _ _ (buffer s v.b)) v.why v.fail refl refl (way v on.last))
    own_good x k (victim_give v d on vram f g) (depopulates m h) =
        one_way (kind.Depopulate v.b) without_frames v refl on.last refl (λ y q. untouched script s t (kind.Depopulate v.b) y q) (way_alike (buffer s v.b) (without_frames (buffer s v.b)) v.why v.fail refl refl (way v on.last))
    own_good x k (victim_give v d on vram f g) (untakes n) =
        one_way (kind.Untake v.b (target_to_untake (buffer s v.b))) (with_spans (target_to_untake (buffer s v.b)) None) v refl on.last refl (λ y q. untouched script s t (kind.Untake v.b (target_to_untake (buffer s v.b))) y q)
        (way_untaken (buffer s v.b) v.why v.fail vram.mem (target_there (buffer s v.b) g n) (way v on.last))
    own_good x k (victim_skip v d on vram f g) skips =
        goes (kind.Skip v.b) v ((course s t).skips ++ v.b ∷ []) refl refl on.last (subst (λ vs. Unskipped ((course s t).skips ++ v.b ∷ []) (let_go v.b vs)) (sym (alone_for_vram (course s t).caught v few_now on.last vram.why)) gone)
      where
        gone : Unskipped ((course s t).skips ++ v.b ∷ []) (let_go v.b (v ∷ []))
        gone = subst (λ q. Unskipped ((course s t).skips ++ v.b ∷ []) (cond (not q) (v ∷ []) [])) (sym (same_self v.b)) tt
    own_good x k (victim_move v on vram f q r) moves = moved_good v (next_job s 0) (if is_caught (course s t) v.b then left.Now else left.Ghost (next_ghost s)) on.last vram.mem f q
    own_good x k (victim_fill v on vram f q r) (fills filled) = victim_filled v k on.last vram filled
    own_good x k (victim_search v on vram f q) (seeks sought) =
        victim_sought v cmd k work on.last vram q (subst (λ z. SearchOutcome script s (course s t) v.b z k) (ap (hop (course s t)) (last_caught (course s t) v on.last)) sought)
    own_good x k (refuse {d} on r) gives = plain (task.Refuse d) k refl gives (none_last (course s t).caught on.alone)
    own_good x k (give {b} d on a f u g) gives = plain (task.GiveBack b) k refl gives (none_last (course s t).caught on.alone)
    own_good x k (give_up {d} on a f u) gives = plain (task.GiveUp d) k refl gives (none_last (course s t).caught on.alone)
    own_good x k (act on a f u) gives = plain task.Act k refl gives (none_last (course s t).caught on.alone)
    own_good x k (fill_in_place {b} on i) (fills filled) = named_filled b k (none_last (course s t).caught on.named.alone) filled
    own_good x k (ask {b} on n) (seeks sought) = named_sought b _ k (none_last (course s t).caught on.on.named.alone) sought
    own_good x k (bind {b} on q r) gives = plain (task.Bind b) k refl gives (none_last (course s t).caught on.on.on.named.alone)
    own_good x k (fill_to_bind {b} on q r) (fills filled) = named_filled b k (none_last (course s t).caught on.on.on.named.alone) filled
    own_good x k (hop_up {b} on q) (seeks sought) = named_sought b _ k (none_last (course s t).caught on.on.on.named.alone) sought
    own_good x k (unbind {b} on q) gives = plain (task.Unbind b) k refl gives (none_last (course s t).caught on.on.on.named.alone)
    own_good x k (move_up {b} on q) gives = plain (task.Move b Vram) k refl gives (none_last (course s t).caught on.on.on.named.alone)
    own_good x k (move_across {b} on q) gives = plain (task.Move b Vram) k refl gives (none_last (course s t).caught on.on.on.named.alone)
    own_good x k (move_down {b} on q r p) gives = plain (task.Move b Tt) k refl gives (none_last (course s t).caught on.on.on.named.alone)
    own_good x k (fill_to_move {b} on q r p) (fills filled) = named_filled b k (none_last (course s t).caught on.on.on.named.alone) filled
    own_good x k (hop_down {b} on q r) (seeks sought) = named_sought b _ k (none_last (course s t).caught on.on.on.named.alone) sought

  pub victims_keep : (k : Kind) → Stepped script s t k → (u : ℕ) → GoodVictims (after script s t k) (course (after script s t k) u)
  victims_keep k st u =
      ⊎_elim
      (λ q.
      subst (λ z. GoodVictims (after script s t k) (course (after script s t k) z)) (sym q)
      (subst (GoodVictims (after script s t k)) (sym (own_course script s t k st.here)) (own_good st.step.cmd st.here st.step.at_work st.at st.step.task k st.turn st.gives)))
      (λ n.
      subst (GoodVictims (after script s t k)) (sym ((one script s t k known st).others u n))
      (let g = good u in
      record { few = g.few; ways = ways_same (buffer s) (buffer (after script s t k)) (course s u).caught (λ d h. ap (λ o. unwrap_or o (new_buffer 0)) (others_same script s t k known st u d n (inr h))) g.ways; unskipped = g.unskipped }))
      (cases_eq u t)

-- ---- engines, the reaper and the first state

pub victims_stay : (script : Script) (s : State) (who : Actor) (k : Kind) → OfWorker k → ((u : ℕ) → GoodVictims s (course s u)) → (u : ℕ) → GoodVictims (applied script s who k) (course (applied script s who k) u)
victims_stay script s who k packet good u = let g = good u in record { few = g.few; ways = g.ways; unskipped = g.unskipped }
victims_stay script s who k done good u = let g = good u in record { few = g.few; ways = g.ways; unskipped = g.unskipped }
victims_stay script s who k reap good u = let g = good u in record { few = g.few; ways = g.ways; unskipped = g.unskipped }

pub victims_first : (script : Script) (u : ℕ) → GoodVictims (first_state script) (course (first_state script) u)
victims_first script u = none_good (first_state script) (course (first_state script) u) (ap (λ c. c.caught) (first_course script u))
