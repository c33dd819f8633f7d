-- Each entry of a search that finds nothing, of a fill, and on a victim that is caught, emptied or let go, lowers the measure.
use Rattle.std.proofs.Common.{◌≡◌, ℕ, ◌<◌, ◌≤◌, ◌+◌, suc, Bool, true, false, List, [], ◌∷◌, length, Option, Some, None, Ok, refl, sym, ◌∙◌, ap, subst, arith, ◌⊎◌, inl, inr}
use Rattle.std.specs.Prelude.{slice_get, map, filter, not, unwrap_or, is_some, option_map, nat_le, ◌==◌, ◌&&◌, ◌||◌, if◌then◌else◌}
use Rattle.std.specs.List.{list_all}
use Rattle.std.proofs.lemmas.Bool.{and_parts, both_ways, not-true, not-false, or_parts, or_left, false_from_ne_true}
use Rattle.std.proofs.lemmas.Bool.Decides.{nat_tests}
use Rattle.ttm_base.specs.ListWords.{last_of}
use Rattle.ttm_base.specs.Placement.{forced_places}
use Rattle.ttm_base.specs.Reach.{same_mem}
use Rattle.ttm_base.specs.declared.Mem.{Mem}
use Rattle.ttm_base.specs.declared.Mem.TheVariants.{System, Tt, Vram}
use Rattle.ttm_base.specs.declared.Place.{Place}
use Rattle.ttm_base.specs.declared.Span.{Span}
use Rattle.ttm_base.specs.declared.BufId.{BufId}
use Rattle.ttm_base.specs.declared.Deny.TheVariants as deny
use Rattle.ttm_base.specs.declared.Stamp.{Stamp}
use Rattle.ttm_base.specs.declared.Loc.{Loc}
use Rattle.ttm_base.specs.declared.Loc.TheVariants as loc
use Rattle.journal_model.specs.declared.script.Script.{Script}
use Rattle.journal_model.specs.declared.script.Decl.{Decl}
use Rattle.journal_model.specs.declared.script.Command.{Command}
use Rattle.journal_model.specs.declared.script.Command.TheVariants as command
use Rattle.journal_model.specs.declared.state.State.{State}
use Rattle.journal_model.specs.declared.state.Course.{Course}
use Rattle.journal_model.specs.declared.state.Victim.{Victim}
use Rattle.journal_model.specs.declared.state.Buffer.{Buffer}
use Rattle.journal_model.specs.declared.state.SearchAim.{SearchAim}
use Rattle.journal_model.specs.declared.state.SearchAim.TheVariants.{Asked, Hop}
use Rattle.journal_model.specs.declared.state.Task.{Task}
use Rattle.journal_model.specs.declared.entry.DryWhy.{DryWhy}
use Rattle.journal_model.specs.declared.entry.Why.{Why}
use Rattle.journal_model.specs.declared.entry.Why.TheVariants as why
use Rattle.journal_model.specs.declared.entry.Kind.{Kind}
use Rattle.journal_model.specs.declared.entry.Kind.TheVariants as kind
use Rattle.journal_model.specs.rules.State.{new_buffer, buffer, course, is_live, live_in, same_buffer, has_buffer, has_target}
use Rattle.journal_model.specs.rules.Commands.{decl, undeclared, named, command_at_work, asked_places, whole}
use Rattle.journal_model.specs.scripts.ScriptRules.{is_decl, is_place_list, is_old_list, is_new_list, is_flagged, is_name, is_group}
use Rattle.journal_model.specs.scripts.CommandRules.{is_between}
use Rattle.journal_model.specs.rules.Choice.{choice}
use Rattle.journal_model.specs.rules.Places.{is_frame}
use Rattle.journal_model.specs.rules.Dry.{has_frame}
use Rattle.journal_model.specs.rules.Ready.{meets, has_all_frames, has_some_target, is_in_place, is_filled, is_ready, uses_bytes, first_unready}
use Rattle.journal_model.specs.rules.Search.{PlaceSearch, place_search, place_search_at_work, why_of, is_caught}
use Rattle.journal_model.specs.rules.Tasks.{starts}
use Rattle.journal_model.specs.rules.Next.{step_of_task}
use Rattle.journal_model.specs.rules.ApplyVictims.{failed_if, with_fail, gone_dry, course_after_dry}
use Rattle.laws.proofs.law_state.Rules.{Rules}
use Rattle.laws.proofs.law_state.JobsKeep.{all_at}
use Rattle.laws.proofs.law_state.Lists.{get_within}
use Rattle.laws.specs.law_sound.Sound.{Carried, Fits, at_target, system_tt, system_vram, system_both, tt_system, tt_tt, tt_vram, vram_vram, vram_tt, vram_system, vram_both}
use Rattle.laws.proofs.law_sound.Measure.{room_for_victims, measure}
use Rattle.laws.proofs.law_sound.Along.{Stepped}
use Rattle.laws.proofs.law_sound.Turns.{Turn, Works, OnVictim, OnNamed, OnBuffer, InVram, victim_empty, victim_fill, victim_search, act, fill_in_place, ask, fill_to_bind, hop_up, fill_to_move, hop_down}
use Rattle.laws.proofs.law_sound.Gifts.{Gives, SearchOutcome, Filled, answers, seeks, fills, lets_go, empties, swaps, finds, evicts, dries, fresh, again, back, evicts_for_swap, nothing}
use Rattle.laws.proofs.law_sound.Bufs.{same_self, clash, has_found, found_passes, none_found, none_missing, none_last, last_caught, none_caught}
use Rattle.laws.proofs.law_sound.Steadies.{next_course}
use Rattle.laws.proofs.law_sound.Reservations.{IsFree, victim_free, swap_free, swap_passes}
use Rattle.laws.proofs.law_sound.OwnedKeeps.{has_stamp, begun_locks}
use Rattle.laws.proofs.lemma_end_measure.Border.{Known}
use Rattle.laws.proofs.lemma_end_measure.Parts.{after, locks_stay}
use Rattle.laws.proofs.lemma_end_searches.Victims.{Caught, alone_for_vram, found_last}
use Rattle.laws.proofs.lemma_end_searches.Ways.{GoodVictims, way_of_last, unskipped_last, emptied_fine, swap_stands}
use Rattle.laws.proofs.lemma_end_searches.Tables.{is_swap_out, to_fill}
use Rattle.laws.proofs.lemma_end_searches.Failing.{fail_falls, dry_falls, victim_fail_falls}
use Rattle.laws.proofs.lemma_end_searches.Loosening.{loose_falls}
use Rattle.laws.proofs.lemma_end_searches.Paging.{Filler, for_named, for_victim, by_name, by_victim, populate_falls, swap_in_falls, swap_out_falls}
use Rattle.laws.proofs.lemma_end_searches.Catching.{Prey, for_swap, evicted, hop, hops, catch_falls}

-- ---- few places

few_places : (version : ℕ) (d : Decl) → is_decl version d ≡ true → length (forced_places d.placement.list) ≤ 8
few_places version d h = listed (and_parts (is_name d.name && is_between 1 4096 d.pages && nat_le d.prio 3 && is_group d.group && is_between 1 4096 d.align) (is_place_list version d.placement.list) h).1
  where
    fewer : {X Y : Type 0} (f : X → Y) (p : X → Bool) (xs : List X) → length (map f (filter p xs)) ≤ length xs
    fewer f p [] = omega arith
    fewer f p (x ∷ xs) = by (p x) (fewer f p xs)
      where
        by : (q : Bool) → length (map f (filter p xs)) ≤ length xs → length (map f (if q then x ∷ filter p xs else filter p xs)) ≤ suc (length xs)
        by true l = omega (arith, l)
        by false l = omega (arith, l)

    by_version : (v : Bool) → (if v then is_old_list d.placement.list else is_new_list d.placement.list) ≡ true → length (forced_places d.placement.list) ≤ 8
    by_version true k = let most : length (forced_places d.placement.list) ≤ 4 = grind (arith, nat_tests) in omega (arith, most)
    by_version false k =
        let all : length d.placement.list ≤ 8 = grind (arith, nat_tests) in
        let some = fewer (λ p. p.place) (λ p. not p.desired) d.placement.list in
        omega (arith, all, some)

    listed : is_place_list version d.placement.list ≡ true → length (forced_places d.placement.list) ≤ 8
    listed k = by_version (version == 1) (and_parts (list_all is_flagged d.placement.list) (if version == 1 then is_old_list d.placement.list else is_new_list d.placement.list) k).1

pub few_asked : (script : Script) → Rules script → (cmd : Command) (b : BufId) → length (forced_places (asked_places script cmd b)) ≤ 8
few_asked script r cmd b = by cmd
  where
    declared : length (forced_places (decl script b).placement.list) ≤ 8
    declared = by_decl (slice_get script.buffers b.0) refl
      where
        by_decl : (o : Option Decl) → slice_get script.buffers b.0 ≡ o → length (forced_places (unwrap_or o undeclared).placement.list) ≤ 8
        by_decl None e = omega arith
        by_decl (Some d) e = few_places script.version d (all_at (is_decl script.version) script.buffers b.0 d r.decls e)

    by : (x : Command) → length (forced_places (asked_places script x b)) ≤ 8
    by (command.Move d to) = omega arith
    by (command.SwapOut d) = omega arith
    by cmd = declared

-- a place without a choice is one of the list: in SYSTEM there is always one
pub real_place : (script : Script) (s : State) (b : BufId) (places : List Place) (k : ℕ) → choice script s.core b (unwrap_or (slice_get places k) (whole System)) ≡ None → k < length places
real_place script s b places k h = by (slice_get places k) refl h
  where
    none_here : ◌≡◌ {A = Option (List Span)} (Some []) None → ⊥
    none_here e = cc

    by : (o : Option Place) → slice_get places k ≡ o → choice script s.core b (unwrap_or o (whole System)) ≡ None → k < length places
    by None e l = absurd (none_here l)
    by (Some p) e l = get_within places k p e

-- ---- room

room_of_named : (vs : List Victim) (y : Victim) → last_of vs ≡ None → room_for_victims (Some y) + 1 ≤ room_for_victims (last_of vs)
room_of_named vs y h = let is : room_for_victims (last_of vs) ≡ 2 = ap room_for_victims h in let low = by y.why in omega (arith, is, low)
  where
    by : (w : Why) → elim w [ why.Vram ↦ 1 | why.Tt ↦ 0 | why.Swap ↦ 0 ] ≤ 1
    by why.Vram = omega arith
    by why.Tt = omega arith
    by why.Swap = omega arith

room_of_vram : (vs : List Victim) (v y : Victim) → last_of vs ≡ Some v → v.why ≡ why.Vram → (y.why ≡ why.Vram → ⊥) → room_for_victims (Some y) + 1 ≤ room_for_victims (last_of vs)
room_of_vram vs v y h w n =
    let is : room_for_victims (last_of vs) ≡ 1 = ap room_for_victims h ∙ ap (λ z. elim z [ why.Vram ↦ 1 | why.Tt ↦ 0 | why.Swap ↦ 0 ]) w in
    let low = by y.why n in
    omega (arith, is, low)
  where
    by : (z : Why) → (z ≡ why.Vram → ⊥) → elim z [ why.Vram ↦ 1 | why.Tt ↦ 0 | why.Swap ↦ 0 ] ≤ 0
    by why.Vram k = absurd (k refl)
    by why.Tt k = omega arith
    by why.Swap k = omega arith

-- ---- what a fill tells

system_is : (m : Mem) → same_mem m System ≡ true → m ≡ System
system_is System h = refl
system_is Tt h = cc
system_is Vram h = cc

-- a buffer in place that isn't ready lacks a frame, in SYSTEM
pub record Unfilled (cmd : Command) (x : Buffer) : Type 0 where
  pub lacks : has_all_frames x ≡ false
  pub stands : x.mem ≡ System
  pub asks : is_swap_out cmd ≡ false

pub unfilled : (script : Script) (s : State) (cmd : Command) (b : BufId) → first_unready script s cmd ≡ Some b → is_in_place script cmd b (buffer s b) ≡ true → Unfilled cmd (buffer s b)
unfilled script s cmd b u i =
    record { lacks = parts.1; stands = system_is (buffer s b).mem (not-false (same_mem (buffer s b).mem System) (or_parts (not (uses_bytes cmd)) (not (same_mem (buffer s b).mem System)) parts.0).1); asks = no_swap_out cmd (not-false (uses_bytes cmd) (or_parts (not (uses_bytes cmd)) (not (same_mem (buffer s b).mem System)) parts.0).0) }
  where
    unready : (is_in_place script cmd b (buffer s b) && is_filled cmd (buffer s b)) ≡ false
    unready = not-true (is_ready script s cmd b) (found_passes (λ y. not (is_ready script s cmd y)) (named cmd) b u)

    parts : ((not (uses_bytes cmd) || not (same_mem (buffer s b).mem System)) ≡ false) × (has_all_frames (buffer s b) ≡ false)
    parts =
        or_parts (not (uses_bytes cmd) || not (same_mem (buffer s b).mem System)) (has_all_frames (buffer s b)) (sym (ap (λ q. q && is_filled cmd (buffer s b)) i) ∙ unready)

    no_swap_out : (x : Command) → uses_bytes x ≡ true → is_swap_out x ≡ false
    no_swap_out (command.SwapOut c) h = cc
    no_swap_out cmd h = refl

-- a command that swaps its buffer out carries none from SYSTEM to TT
stays_in_system : (script : Script) (cmd : Command) (b : BufId) (x : Buffer) (m : Mem) → (m ≡ System → ⊥) → meets script cmd b (at_target m x) ≡ true → is_swap_out cmd ≡ false
stays_in_system script (command.SwapOut c) b x System n h = absurd (n refl)
stays_in_system script (command.SwapOut c) b x Tt n h = cc
stays_in_system script (command.SwapOut c) b x Vram n h = cc
stays_in_system script (command.New c) b x m n h = refl
stays_in_system script (command.Free c) b x m n h = refl
stays_in_system script (command.Pin c) b x m n h = refl
stays_in_system script (command.Unpin c) b x m n h = refl
stays_in_system script (command.Find c) b x m n h = refl
stays_in_system script (command.Write c off bytes) b x m n h = refl
stays_in_system script (command.Read c off len) b x m n h = refl
stays_in_system script (command.Move c mem) b x m n h = refl
stays_in_system script (command.Touch group) b x m n h = refl
stays_in_system script (command.Submit engine ops) b x m n h = refl

bound_asks : (script : Script) (c : Course) (cmd : Command) (b : BufId) (x : Buffer) → Carried (Fits script c cmd b x) x → c.fail ≡ None → x.mem ≡ System → has_target Tt x ≡ true → is_swap_out cmd ≡ false
bound_asks script c cmd b x row fine m t = by row
  where
    tt_is : Tt ≡ System → ⊥
    tt_is h = cc

    vram_is : Vram ≡ System → ⊥
    vram_is h = cc

    by : Carried (Fits script c cmd b x) x → is_swap_out cmd ≡ false
    by (system_tt n ts fits) = stays_in_system script cmd b x Tt tt_is (fits fine)
    by (system_vram n ts fits) = absurd (both_ways (has_target Tt x) ts.1 t)
    by (system_both n ts fits) = stays_in_system script cmd b x Vram vram_is (fits fine)
    by (tt_system n ts fits) = absurd (tt_is (sym n ∙ m))
    by (tt_tt n ts fits) = absurd (tt_is (sym n ∙ m))
    by (tt_vram n ts fits) = absurd (tt_is (sym n ∙ m))
    by (vram_vram n ts fits) = absurd (vram_is (sym n ∙ m))
    by (vram_tt n ts fits) = absurd (vram_is (sym n ∙ m))
    by (vram_system n ts fits) = absurd (vram_is (sym n ∙ m))
    by (vram_both n ts fits) = absurd (vram_is (sym n ∙ m))

-- ---- each entry

-- the entries that are meant here
abbrev pub is_search : Kind → Bool
is_search (kind.Catch b w) = true
is_search (kind.Loose b) = true
is_search (kind.Dry b k w) = true
is_search (kind.NoPages b) = true
is_search (kind.Populate b page frame) = true
is_search (kind.SwapIn b page slot frame) = true
is_search (kind.SwapOut b page slot) = true
is_search k = false

-- the buffers that are held and carried, by the rows of the carrying table
abbrev pub Rows : Script → State → ℕ → Type 0
Rows script s t =
    (cmd : Command) (b : BufId) → command_at_work script s t ≡ Some cmd → has_buffer (course s t).held b ≡ true → has_some_target (buffer s b) ≡ true → Carried (Fits script (course s t) cmd b (buffer s b)) (buffer s b)

module _ (script : Script) (s : State) (t : ℕ) (known : Known script s) (good : (u : ℕ) → GoodVictims s (course s u)) (rows : Rows script s t) where
  -- the measure falls
  abbrev pub Lower : Kind → Type 0
  Lower k = measure script (after script s t k) + 1 ≤ measure script s

  live_is : (b : BufId) → is_live s b ≡ true → live_in s.core.buffers b ≡ Some (buffer s b)
  live_is b h = by (live_in s.core.buffers b) h
    where
      by : (o : Option Buffer) → is_some o ≡ true → o ≡ Some (unwrap_or o (new_buffer 0))
      by None k = cc
      by (Some x) k = refl

  held_live : (b : BufId) → has_buffer (course s t).held b ≡ true → live_in s.core.buffers b ≡ Some (buffer s b)
  held_live b h = live_is b (known.owned.held t b (inl h)).1

  caught_live : (v : Victim) → last_of (course s t).caught ≡ Some v → live_in s.core.buffers v.b ≡ Some (buffer s v.b)
  caught_live v h = live_is v.b (known.owned.held t v.b (inr (last_caught (course s t) v h))).1

  victim_fine : (v : Victim) → last_of (course s t).caught ≡ Some v → (course s t).fail ≡ None
  victim_fine v h = (known.owned.steady t).unfailed v.b (last_caught (course s t) v h)

  few_now : Caught (course s t).caught
  few_now = (good t).few

  alone_caught : (b : BufId) → (course s t).caught ≡ [] → is_caught (course s t) b ≡ false
  alone_caught b h = false_from_ne_true (is_caught (course s t) b) (λ q. none_caught (course s t) b h q)

  module _ (k : Kind) (st : Stepped script s t k) where
    stamp_of : starts (course s t) st.step.cmd ≡ false → (x : Stamp) × ((course s t).stamp ≡ Some x)
    stamp_of n = has_stamp script s t st.step.cmd st.here st.at known.owned (begun_locks script s t st.step.cmd st.here st.at known.owned n) n

    -- the named buffer at work is held, and so live
    first_held : (b : BufId) → Works (course s t) st.step.cmd → first_unready script s st.step.cmd ≡ Some b → (has_buffer (named st.step.cmd) b ≡ true) × (has_buffer (course s t).held b ≡ true)
    first_held b works u =
        let member = has_found (λ y. not (is_ready script s st.step.cmd y)) (named st.step.cmd) b u in
        (member, none_missing (course s t) st.step.cmd b works.whole member)

  -- ---- dry places

  dry_course : (b : BufId) (k : ℕ) (w : DryWhy) (st : Stepped script s t (kind.Dry b k w)) (q : Bool) → is_caught (course s t) b ≡ q
      → next_course script s t (kind.Dry b k w) ≡ (if q then with_fail b deny.NoSpace (course s t) else gone_dry k (length (forced_places (place_search_at_work script s (course s t) st.step.cmd b).list)) (course s t))
  dry_course b k w st q h =
      ap (λ o. course_after_dry script s b k o (course s t)) st.step.at_work
      ∙ ap (λ z. if z then with_fail b deny.NoSpace (course s t) else gone_dry k (length (forced_places (place_search_at_work script s (course s t) st.step.cmd b).list)) (course s t)) h

  dry_named : (b : BufId) (k : ℕ) (w : DryWhy) (st : Stepped script s t (kind.Dry b k w)) → (course s t).caught ≡ [] → Works (course s t) st.step.cmd → (course s t).fail ≡ None → k ≡ (course s t).dry → k + 1 ≤ 8 → Lower (kind.Dry b k w)
  dry_named b k w st alone works fine is most =
      by (k + 1 == length (forced_places (place_search_at_work script s (course s t) st.step.cmd b).list)) (dry_course b k w st false (alone_caught b alone))
    where
      by : (q : Bool) → next_course script s t (kind.Dry b k w) ≡ record (course s t) { forced = true; dry = k + 1; fail = if q then Some deny.NoSpace else (course s t).fail } → Lower (kind.Dry b k w)
      by true own =
          let stamp = stamp_of (kind.Dry b k w) st works.begun in
          fail_falls script s t (kind.Dry b k w) known st refl stamp.0 stamp.1 works fine true (k + 1) deny.NoSpace own alone
      by false own =
          let stamp = stamp_of (kind.Dry b k w) st works.begun in
          dry_falls script s t (kind.Dry b k w) known st refl stamp.0 stamp.1 works fine true (k + 1) own alone (ap (λ n. n + 1) (sym is)) most
          (locks_stay script s t (kind.Dry b k w) known st (record (course s t) { forced = true; dry = k + 1 }) own refl refl refl refl (λ d h g. g))

  dry_victim : (v : Victim) (k : ℕ) (w : DryWhy) (st : Stepped script s t (kind.Dry v.b k w)) → OnVictim (course s t) st.step.cmd v → InVram v (buffer s v.b) → v.fail ≡ None → Lower (kind.Dry v.b k w)
  dry_victim v k w st on vram unfailed =
      let stamp = stamp_of (kind.Dry v.b k w) st on.works.begun in
      let caught = last_caught (course s t) v on.last in
      victim_fail_falls script s t (kind.Dry v.b k w) known st refl refl stamp.0 stamp.1 v (buffer s v.b) on (victim_fine v on.last) (caught_live v on.last) few_now vram unfailed
      (unskipped_last (course s t).skips (course s t).caught v few_now (good t).unskipped on.last vram.why) deny.NoSpace
      (dry_course v.b k w st true caught
      ∙ ap (λ z. if z then record (course s t) { caught = map (failed_if deny.NoSpace v.b) (course s t).caught } else record (course s t) { fail = Some deny.NoSpace }) caught)

  pages_named : (b : BufId) (st : Stepped script s t (kind.NoPages b)) → (course s t).caught ≡ [] → Works (course s t) st.step.cmd → (course s t).fail ≡ None → Lower (kind.NoPages b)
  pages_named b st alone works fine =
      let stamp = stamp_of (kind.NoPages b) st works.begun in
      fail_falls script s t (kind.NoPages b) known st refl stamp.0 stamp.1 works fine (course s t).forced (course s t).dry deny.NoPages
      (ap (λ z. if z then record (course s t) { caught = map (failed_if deny.NoPages b) (course s t).caught } else record (course s t) { fail = Some deny.NoPages }) (alone_caught b alone)) alone

  pages_victim : (v : Victim) (st : Stepped script s t (kind.NoPages v.b)) → OnVictim (course s t) st.step.cmd v → InVram v (buffer s v.b) → v.fail ≡ None → Lower (kind.NoPages v.b)
  pages_victim v st on vram unfailed =
      let stamp = stamp_of (kind.NoPages v.b) st on.works.begun in
      let caught = last_caught (course s t) v on.last in
      victim_fail_falls script s t (kind.NoPages v.b) known st refl refl stamp.0 stamp.1 v (buffer s v.b) on (victim_fine v on.last) (caught_live v on.last) few_now vram unfailed
      (unskipped_last (course s t).skips (course s t).caught v few_now (good t).unskipped on.last vram.why) deny.NoPages
      (ap (λ z. if z then record (course s t) { caught = map (failed_if deny.NoPages v.b) (course s t).caught } else record (course s t) { fail = Some deny.NoPages }) caught)

  -- ---- a search

  catch_at : (b : BufId) (w : Why) (st : Stepped script s t (kind.Catch b w)) → Works (course s t) st.step.cmd → (course s t).fail ≡ None → IsFree s b → Prey script s b w
      → room_for_victims (Some (record { b = b; why = w; fail = None })) + 1 ≤ room_for_victims (last_of (course s t).caught) → Lower (kind.Catch b w)
  catch_at b w st works fine free prey room =
      let stamp = stamp_of (kind.Catch b w) st works.begun in
      catch_falls script s t b w known st stamp.0 stamp.1 works fine (live_is b free.live) free.free prey room

  named_seeks : (k : Kind) (st : Stepped script s t k) (b : BufId) (aim : SearchAim) → OnBuffer script s (course s t) st.step.cmd b → SearchOutcome script s (course s t) b (place_search script st.step.cmd (course s t) b aim) k → is_search k ≡ true → Lower k
  named_seeks k st b aim on sought mine = by k st on.named.works (place_search script st.step.cmd (course s t) b aim) (place_search_is aim) sought mine
    where
      alone : (course s t).caught ≡ []
      alone = none_last (course s t).caught on.named.alone

      -- its dry places are the course's, and its places few
      place_search_is : (a : SearchAim) → ((place_search script st.step.cmd (course s t) b a).dry ≡ (course s t).dry) × (length (forced_places (place_search script st.step.cmd (course s t) b a).list) ≤ 8)
      place_search_is Asked = (refl, few_asked script known.rules st.step.cmd b)
      place_search_is Hop = by_caught (is_caught (course s t) b) (alone_caught b alone)
        where
          by_caught : (q : Bool) → q ≡ false → ((hop (course s t) q).dry ≡ (course s t).dry) × (length (forced_places (hop (course s t) q).list) ≤ 8)
          by_caught true h = absurd (clash h)
          by_caught false h = (refl, omega arith)

      by : (l : Kind) (z : Stepped script s t l) → Works (course s t) z.step.cmd → (q : PlaceSearch) → (q.dry ≡ (course s t).dry) × (length (forced_places q.list) ≤ 8) → SearchOutcome script s (course s t) b q l → is_search l ≡ true → Lower l
      by l z works q is (finds place w m c) mine = cc
      by l z works q is (evicts place {v} {w} at lacks why_is found) mine =
          catch_at v w z works on.fine (victim_free script s (course s t).skips place v found) (evicted script s (course s t).skips b v place w lacks why_is found)
          (room_of_named (course s t).caught (record { b = v; why = w; fail = None }) on.named.alone)
      by l z works q is (dries place {w} at lacks) mine =
          let real = real_place script s b (forced_places q.list) q.dry (subst (λ p. choice script s.core b p ≡ None) at lacks) in
          let most = is.1 in
          dry_named b q.dry w z alone works on.fine is.0 (omega (arith, real, most))

  victim_seeks : (k : Kind) (st : Stepped script s t k) (v : Victim) → OnVictim (course s t) st.step.cmd v → InVram v (buffer s v.b) → v.fail ≡ None → SearchOutcome script s (course s t) v.b (place_search script st.step.cmd (course s t) v.b Hop) k → is_search k ≡ true → Lower k
  victim_seeks k st v on vram unfailed sought mine = by k st on (place_search script st.step.cmd (course s t) v.b Hop) (hops script st.step.cmd (course s t) v.b (last_caught (course s t) v on.last)) sought mine
    where
      tt_no_vram : why.Tt ≡ why.Vram → ⊥
      tt_no_vram h = cc

      by : (l : Kind) (z : Stepped script s t l) → OnVictim (course s t) z.step.cmd v → (q : PlaceSearch) → unwrap_or (slice_get (forced_places q.list) q.dry) (whole System) ≡ whole Tt → SearchOutcome script s (course s t) v.b q l → is_search l ≡ true → Lower l
      by l z now q is (finds place w m c) mine = cc
      by l z now q is (evicts place {v = b} {w} at lacks why_is found) mine =
          let in_tt : why.Tt ≡ w = sym (ap (λ p. why_of p.mem) (at ∙ is)) ∙ why_is in
          catch_at b w z now.works (victim_fine v now.last) (victim_free script s (course s t).skips place b found) (evicted script s (course s t).skips v.b b place w lacks why_is found)
          (room_of_vram (course s t).caught v (record { b = b; why = w; fail = None }) now.last vram.why (λ h. tt_no_vram (in_tt ∙ h)))
      by l z now q is (dries place {w} at lacks) mine = dry_victim v q.dry w z now vram unfailed

  -- ---- a fill

  -- whose page, and what it lacks
  record Fills (cmd : Command) (b : BufId) : Type 0 where
    pub filler : Filler s (course s t) cmd b
    pub works : Works (course s t) cmd
    pub fine : (course s t).fail ≡ None
    pub live : live_in s.core.buffers b ≡ Some (buffer s b)
    pub lacks : has_all_frames (buffer s b) ≡ false
    pub asks : (buffer s b).mem ≡ System → is_swap_out cmd ≡ false
    pub room : (v : BufId) → room_for_victims (Some (record { b = v; why = why.Swap; fail = None })) + 1 ≤ room_for_victims (last_of (course s t).caught)
    pub vram : (v : Victim) → last_of (course s t).caught ≡ Some v → InVram v (buffer s v.b)

  fill_named : (k : Kind) (st : Stepped script s t k) (b : BufId) → OnBuffer script s (course s t) st.step.cmd b → has_all_frames (buffer s b) ≡ false → ((buffer s b).mem ≡ System) ⊎ ((buffer s b).mem ≡ Vram)
      → ((buffer s b).mem ≡ System → is_swap_out st.step.cmd ≡ false) → Fills st.step.cmd b
  fill_named k st b on lacks place asks =
      let held = first_held k st b on.named.works on.first in
      record {
        filler = for_named on.named.works (none_last (course s t).caught on.named.alone) held.0 place;
        works = on.named.works;
        fine = on.fine;
        live = held_live b held.1;
        lacks = lacks;
        asks = asks;
        room = λ v. room_of_named (course s t).caught (record { b = v; why = why.Swap; fail = None }) on.named.alone;
        vram = λ v h. absurd (none_some v (sym on.named.alone ∙ h));
      }
    where
      none_some : (v : Victim) → None ≡ Some v → ⊥
      none_some v h = cc

  fill_victim : (k : Kind) (st : Stepped script s t k) (v : Victim) → OnVictim (course s t) st.step.cmd v → InVram v (buffer s v.b) → v.fail ≡ None → has_all_frames (buffer s v.b) ≡ false → Fills st.step.cmd v.b
  fill_victim k st v on vram f lacks =
      record {
        filler = for_victim v on (alone_for_vram (course s t).caught v few_now on.last vram.why) vram.why f vram.mem;
        works = on.works;
        fine = victim_fine v on.last;
        live = caught_live v on.last;
        lacks = lacks;
        asks = λ m. absurd (vram_is (sym vram.mem ∙ m));
        room = λ u. room_of_vram (course s t).caught v (record { b = u; why = why.Swap; fail = None }) on.last vram.why swap_is;
        vram = λ u h. subst (λ z. InVram z (buffer s z.b)) (one v u (sym on.last ∙ h)) vram;
      }
    where
      vram_is : Vram ≡ System → ⊥
      vram_is h = cc

      swap_is : why.Swap ≡ why.Vram → ⊥
      swap_is h = cc

      one : (x y : Victim) → Some x ≡ Some y → x ≡ y
      one x y h = cc

  no_pages : (b : BufId) (st : Stepped script s t (kind.NoPages b)) → (course s t).fail ≡ None → Filler s (course s t) st.step.cmd b → ((v : Victim) → last_of (course s t).caught ≡ Some v → InVram v (buffer s v.b)) → Lower (kind.NoPages b)
  no_pages b st fine (for_named works alone member place) vram = pages_named b st alone works fine
  no_pages b st fine (for_victim v on alone w f m) vram = pages_victim v st on (vram v on.last) f

  filled_falls : (k : Kind) (st : Stepped script s t k) (b : BufId) → Fills st.step.cmd b → Filled script s b k → is_search k ≡ true → Lower k
  filled_falls k st b f (fresh {frame} free is) mine =
      let stamp = stamp_of k st f.works.begun in populate_falls script s t b frame stamp.0 known st stamp.1 f.fine f.live f.lacks is f.filler
  filled_falls k st b f (again {frame} free is) mine = absurd (lacks_none (to_fill (buffer s b) f.lacks).element (to_fill (buffer s b) f.lacks).passes (sym (ap (λ o. unwrap_or o loc.Zero) (to_fill (buffer s b) f.lacks).at) ∙ is))
    where
      lacks_none : (l : Loc) {n : ℕ} → not (is_frame l) ≡ true → l ≡ loc.Frame n → ⊥
      lacks_none l {n = n} h e = clash (sym h ∙ ap (λ z. not (is_frame z)) e)
  filled_falls k st b f (back {slot} {frame} free is) mine =
      let stamp = stamp_of k st f.works.begun in swap_in_falls script s t b slot frame stamp.0 known st stamp.1 f.fine f.live f.lacks is f.filler f.asks
  filled_falls k st b f (evicts_for_swap {slot} {v} free found) mine =
      catch_at v why.Swap st f.works f.fine (swap_free s v found) (for_swap (and_parts _ (has_frame (buffer s v)) (swap_passes s v found)).1 free) (f.room v)
  filled_falls k st b f (nothing free) mine = no_pages b st f.fine f.filler f.vram

  -- ---- each task

  thread_falls : (k : Kind) (st : Stepped script s t k) (cmd : Command) → st.step.cmd ≡ cmd → (x : Task) → Turn script s (course s t) cmd x → Gives script s (course s t) cmd x k → step_of_task script s (course s t) cmd x ≡ Ok k → is_search k ≡ true → Lower k
  thread_falls k st cmd e x turn answers step mine = cc
  thread_falls k st cmd e x (victim_search v on vram f n) (seeks sought) step mine =
      victim_seeks k st v (subst (λ z. OnVictim (course s t) z v) (sym e) on) vram f (subst (λ z. SearchOutcome script s (course s t) v.b (place_search script z (course s t) v.b Hop) k) (sym e) sought) mine
  thread_falls k st cmd e x (ask {b} on n) (seeks sought) step mine =
      named_seeks k st b Asked (subst (λ z. OnBuffer script s (course s t) z b) (sym e) on.on) (subst (λ z. SearchOutcome script s (course s t) b (place_search script z (course s t) b Asked) k) (sym e) sought) mine
  thread_falls k st cmd e x (hop_up {b} on n) (seeks sought) step mine =
      named_seeks k st b Hop (subst (λ z. OnBuffer script s (course s t) z b) (sym e) on.on.on) (subst (λ z. SearchOutcome script s (course s t) b (place_search script z (course s t) b Hop) k) (sym e) sought) mine
  thread_falls k st cmd e x (hop_down {b} on m n) (seeks sought) step mine =
      named_seeks k st b Hop (subst (λ z. OnBuffer script s (course s t) z b) (sym e) on.on.on) (subst (λ z. SearchOutcome script s (course s t) b (place_search script z (course s t) b Hop) k) (sym e) sought) mine
  thread_falls k st cmd e x (victim_fill v on vram f n lacks) (fills filled) step mine =
      filled_falls k st v.b (fill_victim k st v (subst (λ z. OnVictim (course s t) z v) (sym e) on) vram f lacks) filled mine
  thread_falls k st cmd e x (fill_in_place {b} on i) (fills filled) step mine =
      let on' = subst (λ z. OnBuffer script s (course s t) z b) (sym e) on in
      let u = unfilled script s st.step.cmd b on'.first (subst (λ z. is_in_place script z b (buffer s b) ≡ true) (sym e) i) in
      filled_falls k st b (fill_named k st b on' u.lacks (inl u.stands) (λ m. u.asks)) filled mine
  thread_falls k st cmd e x (fill_to_bind {b} on n lacks) (fills filled) step mine =
      let on' = subst (λ z. OnBuffer script s (course s t) z b) (sym e) on.on.on in
      let held = first_held k st b on'.named.works on'.first in
      filled_falls k st b
      (fill_named k st b on' lacks (inl on.stands) (λ m. bound_asks script (course s t) st.step.cmd b (buffer s b) (rows st.step.cmd b st.step.at_work held.1 on.some) on'.fine on.stands n)) filled mine
  thread_falls k st cmd e x (fill_to_move {b} on m n lacks) (fills filled) step mine =
      filled_falls k st b (fill_named k st b (subst (λ z. OnBuffer script s (course s t) z b) (sym e) on.on.on) lacks (inr on.stands) (λ q. absurd (vram_is (sym on.stands ∙ q)))) filled mine
    where
      vram_is : Vram ≡ System → ⊥
      vram_is h = cc
  thread_falls k st cmd e x (victim_empty v on bare emptied) lets_go step mine =
      let on' = subst (λ z. OnVictim (course s t) z v) (sym e) on in
      let stamp = stamp_of k st on'.works.begun in
      loose_falls script s t v known st stamp.0 stamp.1 on' (victim_fine v on.last) few_now bare emptied
      (emptied_fine (buffer s v.b) v (way_of_last (buffer s) (course s t).caught v few_now (good t).ways on.last) emptied) step
  thread_falls k st cmd e x (victim_empty v on bare emptied) (empties {slot = slot} w f g) step mine =
      let on' = subst (λ z. OnVictim (course s t) z v) (sym e) on in
      let stamp = stamp_of k st on'.works.begun in
      let swap : v.why ≡ why.Swap = one v.why why.Swap (sym (ap (option_map (λ z. z.why)) (found_last (course s t).caught v few_now on.last)) ∙ w) in
      swap_out_falls script s t v.b slot known st stamp.0 stamp.1 on'.works (victim_fine v on.last) (λ u. (good u).few) (caught_live v on.last) f
      (swap_stands (buffer s v.b) v (way_of_last (buffer s) (course s t).caught v few_now (good t).ways on.last) swap bare) (by_victim v on.last refl swap)
    where
      one : (x y : Why) → Some x ≡ Some y → x ≡ y
      one x y h = cc
  thread_falls k st cmd e x (act on a f u) (swaps {b} {slot} is q g) step mine =
      let on' = subst (λ z. OnNamed s (course s t) z) (sym e) on in
      let stamp = stamp_of k st on'.works.begun in
      let member : has_buffer (named cmd) b ≡ true = subst (λ z. has_buffer (named z) b ≡ true) (sym is) (or_left (same_buffer b b) false (same_self b)) in
      let ready = not-false (is_ready script s cmd b) (none_found (λ y. not (is_ready script s cmd y)) (named cmd) b u member) in
      let placed = (and_parts (is_in_place script cmd b (buffer s b)) (is_filled cmd (buffer s b)) ready).0 in
      let meet : meets script cmd b (buffer s b) ≡ true = (and_parts (not (has_some_target (buffer s b))) (meets script cmd b (buffer s b)) placed).1 in
      let stands : same_mem (buffer s b).mem System ≡ true = subst (λ z. meets script z b (buffer s b) ≡ true) is meet in
      swap_out_falls script s t b slot known st stamp.0 stamp.1 on'.works f (λ x. (good x).few) (held_live b (none_missing (course s t) cmd b on.works.whole member)) q (system_is (buffer s b).mem stands)
      (by_name (none_last (course s t).caught on.alone) (e ∙ is))
  thread_falls k st cmd e x turn gives step mine = cc

  -- the entries of searches
  pub search_falls : (k : Kind) (st : Stepped script s t k) → is_search k ≡ true → Lower k
  search_falls k st mine = thread_falls k st st.step.cmd refl st.step.task st.turn st.gives st.step.step mine
