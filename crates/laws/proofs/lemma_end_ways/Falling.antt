-- Each entry that takes a choice, carries a buffer, or gives back what a search took, lowers the measure.
use Rattle.std.proofs.Common.{◌≡◌, ℕ, ◌≤◌, ◌+◌, Bool, true, false, List, [], Option, Some, refl, sym, ◌∙◌, ap, subst, inl, ⊎_elim}
use Rattle.std.specs.Prelude.{not}
use Rattle.ttm_base.specs.ListWords.{last_of}
use Rattle.ttm_base.specs.declared.Mem.{Mem}
use Rattle.ttm_base.specs.declared.Mem.TheVariants.{System, Tt, Vram}
use Rattle.ttm_base.specs.declared.Span.{Span}
use Rattle.ttm_base.specs.declared.BufId.{BufId}
use Rattle.ttm_base.specs.declared.Place.{Place}
use Rattle.ttm_base.specs.declared.Deny.{Deny}
use Rattle.ttm_base.specs.declared.Stamp.{Stamp}
use Rattle.journal_model.specs.declared.script.Script.{Script}
use Rattle.journal_model.specs.declared.script.Command.{Command}
use Rattle.journal_model.specs.declared.state.State.{State}
use Rattle.journal_model.specs.declared.state.Victim.{Victim}
use Rattle.journal_model.specs.declared.state.Buffer.{Buffer}
use Rattle.journal_model.specs.declared.state.Task.{Task}
use Rattle.journal_model.specs.declared.state.Task.TheVariants as task
use Rattle.journal_model.specs.declared.state.SearchAim.{SearchAim}
use Rattle.journal_model.specs.declared.state.SearchAim.TheVariants.{Hop}
use Rattle.journal_model.specs.declared.entry.Why.{Why}
use Rattle.journal_model.specs.declared.entry.Kind.{Kind}
use Rattle.journal_model.specs.declared.entry.Kind.TheVariants as kind
use Rattle.journal_model.specs.rules.State.{buffer, course, has_buffer, has_target, live_in}
use Rattle.journal_model.specs.rules.Commands.{named}
use Rattle.journal_model.specs.rules.Ready.{is_in_place, is_ready, first_unready, has_some_target}
use Rattle.journal_model.specs.rules.Search.{place_search, is_caught}
use Rattle.journal_model.specs.rules.PageSteps.{target_to_untake}
use Rattle.laws.specs.law_sound.Sound.{Carried, Fits, OnItsWay, in_vram, to_tt, out_of_vram, in_tt, in_system}
use Rattle.laws.proofs.law_sound.Measure.{measure}
use Rattle.laws.proofs.law_sound.Along.{Stepped}
use Rattle.laws.proofs.law_sound.Turns.{Turn, Works, OnVictim, OnNamed, OnBuffer, OnCarried, victim_unbind, victim_give, victim_move, victim_search, give, ask, bind, hop_up, unbind, move_up, move_across, move_down, hop_down}
use Rattle.laws.proofs.law_sound.Gifts.{Gives, SearchOutcome, Filled, PlaceOf, seeks, binds, unbinds, moves, fills, depopulates, untakes, finds, evicts, dries, fresh, again, back, evicts_for_swap, nothing}
use Rattle.laws.proofs.law_sound.Bufs.{has_found, last_caught, none_last, none_missing, clash}
use Rattle.laws.proofs.law_sound.OwnedKeeps.{has_stamp, begun_locks}
use Rattle.laws.proofs.lemma_end_measure.Border.{Known}
use Rattle.laws.proofs.lemma_end_measure.Giving.{target_there, depopulate_falls, untake_falls}
use Rattle.laws.proofs.lemma_end_measure.Parts.{after}
use Rattle.laws.proofs.lemma_end_ways.Carries.{AtNamed, at_named, live_is, bind_falls, unbind_falls, move_up_falls, move_across_falls, move_down_falls}
use Rattle.laws.proofs.lemma_end_ways.VictimSteps.{IsLast, AtVictim, at_victim, victim_unbind_falls, victim_move_falls, victim_depopulate_falls, victim_untake_falls}
use Rattle.laws.proofs.lemma_end_ways.Takes.{hop_place, asked_falls, hop_falls, victim_take_falls, up, down}
use Rattle.laws.proofs.lemma_end_ways.OnWays.{Carrying}
use Rattle.laws.proofs.lemma_end_ways.Keeps.{LeftPlaces, zero_or_more}
use Rattle.laws.proofs.lemma_end_ways.Targets.{LastWay}

-- the entries that are meant here
abbrev pub is_carry : Kind → Bool
is_carry (kind.Take b mem spans) = true
is_carry (kind.Bind b) = true
is_carry (kind.Unbind b) = true
is_carry (kind.Move b mem n l) = true
is_carry (kind.Depopulate b) = true
is_carry (kind.Untake b mem) = true
is_carry k = false

-- a victim that is bound to go back to SYSTEM is in TT
way_back : (x : Buffer) (w : Why) (fail : Option Deny) → OnItsWay x w fail → has_target System x ≡ true → x.mem ≡ Tt
way_back x w fail (in_vram m ts) h = absurd (clash (sym h ∙ ts.0))
way_back x w fail (to_tt m ts) h = absurd (clash (sym h ∙ ts.0))
way_back x w fail (out_of_vram m ts) h = m
way_back x w fail (in_tt d m ts) h = m
way_back x w fail (in_system d m ts) h = absurd (clash (sym h ∙ ts.0))

module _ (script : Script) (s : State) (t : ℕ) (known : Known script s) (carrying : Carrying script s) (lasts : (v : Victim) → last_of (course s t).caught ≡ Some v → IsLast v (course s t).caught) (way : LastWay s (course s t)) where
  -- the measure falls
  abbrev pub Lower : Kind → Type 0
  Lower k = measure script (after script s t k) + 1 ≤ measure script s

  abbrev Places : Command → Type 0
  Places cmd = LeftPlaces script s (course s t) cmd

  victim_of : (k : Kind) (st : Stepped script s t k) (cmd : Command) (v : Victim) → st.step.cmd ≡ cmd → OnVictim (course s t) cmd v → AtVictim script s t st.step.cmd v
  victim_of k st cmd v e on = at_victim script s t k v known st (subst (λ z. OnVictim (course s t) z v) (sym e) on) (lasts v on.last)

  named_of : (k : Kind) (st : Stepped script s t k) (cmd : Command) (b : BufId) → st.step.cmd ≡ cmd → OnBuffer script s (course s t) cmd b → AtNamed script s t st.step.cmd b
  named_of k st cmd b e on = at_named script s t k b known st (subst (λ z. OnBuffer script s (course s t) z b) (sym e) on)

  -- its row of the carrying table
  row_of : (k : Kind) (st : Stepped script s t k) (cmd : Command) (b : BufId) (m : Mem) → st.step.cmd ≡ cmd → OnCarried script s (course s t) cmd b m → Carried (Fits script (course s t) st.step.cmd b (buffer s b)) (buffer s b)
  row_of k st cmd b m e on =
      let named = named_of k st cmd b e on.on.on in
      (carrying.carried t st.step.cmd b st.at (none_missing (course s t) st.step.cmd b named.works.whole named.member) on.some).row

  -- ---- choices

  -- a hop is one in TT
  hop_mem : (cmd : Command) (b : BufId) (place : Place) (mem : Mem) → (is_caught (course s t) b ≡ false → (course s t).dry ≡ 0) → PlaceOf (place_search script cmd (course s t) b Hop) place → place.mem ≡ mem → Tt ≡ mem
  hop_mem cmd b place mem fine w m = sym (ap (λ p. p.mem) (hop_place script cmd (course s t) b place fine w)) ∙ m

  not_dry : (cmd : Command) (b : BufId) → Places cmd → OnBuffer script s (course s t) cmd b → has_some_target (buffer s b) ≡ true → (course s t).dry ≡ 0
  not_dry cmd b places on some = ⊎_elim (λ z. z) (λ more. absurd (clash (sym some ∙ (places b on more).0))) (zero_or_more (course s t).dry)

  -- of an entry whose memory type is TT
  in_tt_falls : (b : BufId) (mem : Mem) (spans : List Span) (cmd : Command) → Tt ≡ mem → ((st : Stepped script s t (kind.Take b Tt spans)) → st.step.cmd ≡ cmd → Lower (kind.Take b Tt spans))
      → (st : Stepped script s t (kind.Take b mem spans)) → st.step.cmd ≡ cmd → Lower (kind.Take b mem spans)
  in_tt_falls b mem spans cmd is falls = subst (λ m. (st : Stepped script s t (kind.Take b m spans)) → st.step.cmd ≡ cmd → Lower (kind.Take b m spans)) is falls

  take_falls : (b : BufId) (aim : SearchAim) (place : Place) (mem : Mem) (spans : List Span) (st : Stepped script s t (kind.Take b mem spans)) (cmd : Command) → st.step.cmd ≡ cmd → Places cmd → Turn script s (course s t) cmd (task.Search b aim)
      → PlaceOf (place_search script cmd (course s t) b aim) place → place.mem ≡ mem → Lower (kind.Take b mem spans)
  take_falls b aim place mem spans st cmd e places (victim_search v on i f q) w m =
      in_tt_falls v.b mem spans cmd (hop_mem cmd v.b place mem (λ c. absurd (clash (sym (last_caught (course s t) v on.last) ∙ c))) w m)
      (λ z is. victim_take_falls script s t v spans known z (victim_of (kind.Take v.b Tt spans) z cmd v is on) i f q) st e
  take_falls b aim place mem spans st cmd e places (ask on none) w m =
      asked_falls script s t b mem spans known st (named_of (kind.Take b mem spans) st cmd b e on.on) (subst (λ z. is_in_place script z b (buffer s b) ≡ false) (sym e) on.misplaced) none
  take_falls b aim place mem spans st cmd e places (hop_up on q) w m =
      in_tt_falls b mem spans cmd (hop_mem cmd b place mem (λ c. not_dry cmd b places on.on.on on.some) w m)
      (λ z is. hop_falls script s t b spans known z (named_of (kind.Take b Tt spans) z cmd b is on.on.on) on.some (up on.stands q)) st e
  take_falls b aim place mem spans st cmd e places (hop_down on v q) w m =
      in_tt_falls b mem spans cmd (hop_mem cmd b place mem (λ c. not_dry cmd b places on.on.on on.some) w m)
      (λ z is. hop_falls script s t b spans known z (named_of (kind.Take b Tt spans) z cmd b is on.on.on) on.some (down on.stands v q)) st e

  seek_falls : (k : Kind) (st : Stepped script s t k) (cmd : Command) (b : BufId) (aim : SearchAim) → st.step.cmd ≡ cmd → Places cmd → Turn script s (course s t) cmd (task.Search b aim) → SearchOutcome script s (course s t) b (place_search script cmd (course s t) b aim) k
      → is_carry k ≡ true → Lower k
  seek_falls k st cmd b aim e places turn (finds place {mem} {spans} w m ch) h = take_falls b aim place mem spans st cmd e places turn w m
  seek_falls k st cmd b aim e places turn (evicts place a n c f) h = absurd (clash (sym h))
  seek_falls k st cmd b aim e places turn (dries place a n) h = absurd (clash (sym h))

  fill_falls : (k : Kind) (b : BufId) → Filled script s b k → is_carry k ≡ true → Lower k
  fill_falls k b (fresh f l) h = absurd (clash (sym h))
  fill_falls k b (again f l) h = absurd (clash (sym h))
  fill_falls k b (back f l) h = absurd (clash (sym h))
  fill_falls k b (evicts_for_swap f e) h = absurd (clash (sym h))
  fill_falls k b (nothing f) h = absurd (clash (sym h))

  -- ---- what a failed search of a named buffer gives back

  -- the buffer is live, and named by the command
  record Gift (cmd : Command) (b : BufId) : Type 0 where
    pub live : live_in s.core.buffers b ≡ Some (buffer s b)
    pub member : has_buffer (named cmd) b ≡ true
    pub works : Works (course s t) cmd
    pub alone : (course s t).caught ≡ []
    pub stamp : Stamp
    pub stamped : (course s t).stamp ≡ Some stamp

  gift_of : (k : Kind) (st : Stepped script s t k) (b : BufId) → OnNamed s (course s t) st.step.cmd → first_unready script s st.step.cmd ≡ Some b → Gift st.step.cmd b
  gift_of k st b on u =
      let member = has_found (λ y. not (is_ready script s st.step.cmd y)) (named st.step.cmd) b u in
      let has = known.owned.held t b (inl (none_missing (course s t) st.step.cmd b on.works.whole member)) in
      let stamp = has_stamp script s t st.step.cmd st.here st.at known.owned (begun_locks script s t st.step.cmd st.here st.at known.owned on.works.begun) on.works.begun in
      record { live = live_is s b has.1; member = member; works = on.works; alone = none_last (course s t).caught on.alone; stamp = stamp.0; stamped = stamp.1 }

  gift_at : (k : Kind) (st : Stepped script s t k) (cmd : Command) (b : BufId) → st.step.cmd ≡ cmd → OnNamed s (course s t) cmd → first_unready script s cmd ≡ Some b → Gift st.step.cmd b
  gift_at k st cmd b e on u = gift_of k st b (subst (λ z. OnNamed s (course s t) z) (sym e) on) (subst (λ z. first_unready script s z ≡ Some b) (sym e) u)

  -- ---- each entry

  falls_of : (k : Kind) (st : Stepped script s t k) (cmd : Command) → st.step.cmd ≡ cmd → Places cmd → (x : Task) → Turn script s (course s t) cmd x → Gives script s (course s t) cmd x k → is_carry k ≡ true → Lower k
  falls_of k st cmd e places x turn (seeks {b} {aim} sought) h = seek_falls k st cmd b aim e places turn sought h
  falls_of k st cmd e places x turn (fills {b} filled) h = fill_falls k b filled h
  falls_of k st cmd e places x (bind {b} on q r) binds h = bind_falls script s t b known st (named_of k st cmd b e on.on.on) (row_of k st cmd b System e on) on.stands q r
  falls_of k st cmd e places x (victim_unbind v on q) (unbinds i) h = victim_unbind_falls script s t v known st (victim_of k st cmd v e on) (way_back (buffer s v.b) v.why v.fail (way v on.last) q)
  falls_of k st cmd e places x (unbind {b} on q) (unbinds i) h = unbind_falls script s t b known st (named_of k st cmd b e on.on.on) (row_of k st cmd b Tt e on) on.stands q
  falls_of k st cmd e places x (victim_move v on i f q r) moves h = victim_move_falls script s t v known _ _ st (victim_of k st cmd v e on) i.mem
  falls_of k st cmd e places x (move_up {b} on q) moves h = move_up_falls script s t b _ _ known st (named_of k st cmd b e on.on.on) (row_of k st cmd b Tt e on) on.stands q
  falls_of k st cmd e places x (move_across {b} on q) moves h = move_across_falls script s t b _ _ known st (named_of k st cmd b e on.on.on) (row_of k st cmd b Vram e on) on.stands q
  falls_of k st cmd e places x (move_down {b} on v q r) moves h = move_down_falls script s t b _ _ known st (named_of k st cmd b e on.on.on) (row_of k st cmd b Vram e on) on.stands v q
  falls_of k st cmd e places x (victim_give v d on i f g) (depopulates m p) h = victim_depopulate_falls script s t v known d st (victim_of k st cmd v e on) i f p
  falls_of k st cmd e places x (victim_give v d on i f g) (untakes n) h =
      victim_untake_falls script s t v known d (target_to_untake (buffer s v.b)) st (victim_of k st cmd v e on) i f (target_there (buffer s v.b) g n)
  falls_of k st cmd e places x (give {b} d on a f u g) (depopulates m p) h =
      let w = gift_at k st cmd b e on u in
      depopulate_falls script s t b (buffer s b) w.stamp d known st w.live w.member w.alone w.works w.stamped f m p
  falls_of k st cmd e places x (give {b} d on a f u g) (untakes n) h =
      let w = gift_at k st cmd b e on u in
      untake_falls script s t b (buffer s b) w.stamp d (target_to_untake (buffer s b)) known st w.live w.member w.alone w.works w.stamped f (target_there (buffer s b) g n)
  falls_of k st cmd e places x turn gives h = absurd (clash (sym h))

  pub carries_fall : (k : Kind) (st : Stepped script s t k) → Places st.step.cmd → is_carry k ≡ true → Lower k
  carries_fall k st places h = falls_of k st st.step.cmd refl places st.step.task st.turn st.gives h
