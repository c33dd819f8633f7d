-- All parts after a place that is dry.
use Rattle.std.proofs.Common.{◌≡◌, ℕ, suc, ◌+◌, ◌^◌, ◌<◌, ◌≤◌, Bool, true, false, List, [], ◌∷◌, ◌++◌, ◌⊎◌, inl, inr, Option, Some, None, IsSome, cond, length, refl, sym, ◌∙◌, ap, subst, arith}
use Rattle.std.specs.Prelude.{◌==◌, ◌||◌, ◌&&◌, filter, map, not, slice_get, unwrap_or, if◌then◌else◌}
use Rattle.std.specs.List.{list_all}
use Rattle.std.proofs.lemmas.Bool.{and_parts}
use Rattle.std.proofs.lemmas.Bool.Decides.{nat_tests}
use Rattle.ttm_base.specs.declared.Actor.TheVariants as actor
use Rattle.ttm_base.specs.declared.BufId.{BufId}
use Rattle.ttm_base.specs.declared.Deny.TheVariants as deny
use Rattle.ttm_base.specs.declared.FlaggedPlace.{FlaggedPlace}
use Rattle.ttm_base.specs.Placement.{first_places, forced_places}
use Rattle.bo_table.specs.declared.bo.Bo.{Bo}
use Rattle.bo_table.specs.Seen.{IsBo}
use Rattle.journal_model.specs.declared.script.Script.{Script}
use Rattle.journal_model.specs.declared.script.Command.{Command}
use Rattle.journal_model.specs.declared.script.Decl.{Decl}
use Rattle.journal_model.specs.declared.state.SearchAim.{SearchAim}
use Rattle.journal_model.specs.declared.state.SearchAim.TheVariants.{Asked, Hop}
use Rattle.journal_model.specs.declared.state.State.{State}
use Rattle.journal_model.specs.declared.state.Buffer.{Buffer}
use Rattle.journal_model.specs.declared.state.Course.{Course}
use Rattle.journal_model.specs.declared.state.Task.{Task}
use Rattle.journal_model.specs.declared.state.Task.TheVariants as task
use Rattle.journal_model.specs.declared.entry.Entry.{Entry}
use Rattle.journal_model.specs.declared.entry.DryWhy.{DryWhy}
use Rattle.journal_model.specs.declared.entry.Kind.TheVariants as kind
use Rattle.journal_model.specs.rules.State.{buffer, course, has_buffer, with_course}
use Rattle.journal_model.specs.rules.Commands.{asked_places, command_at_work, decl, named, undeclared}
use Rattle.journal_model.specs.rules.Ready.{has_some_target, is_ready}
use Rattle.journal_model.specs.scripts.ScriptRules.{is_decl, is_flagged, is_new_list, is_old_list, is_place, is_place_list}
use Rattle.journal_model.specs.rules.Search.{PlaceSearch, aim_of, is_caught, place_search, place_search_at_work, through_tt}
use Rattle.journal_model.specs.rules.ApplyVictims.{course_after_dry, gone_dry, with_fail}
use Rattle.journal_model.specs.rules.Legal.{IsLegalNext, state_of, stores_of, world_of}
use Rattle.laws.proofs.law_state.GoodStates.{good_law}
use Rattle.laws.proofs.law_state.JobsKeep.{all_at}
use Rattle.laws.proofs.law_state.Rules.{Rules, rules_of}
use Rattle.laws.proofs.law_sound.Along.{Stepped, sound_law}
use Rattle.laws.proofs.law_sound.Bufs.{has_found, last_caught, none_missing}
use Rattle.laws.proofs.law_sound.Gifts.{Gives, dries, fills, seeks}
use Rattle.laws.proofs.law_sound.Turns.{Turn, OnBuffer, victim_search, ask, hop_up, hop_down}
use Rattle.laws.specs.lemma_bytes_told.Told.{IsThere}
use Rattle.room_representation.specs.declared.parts.Parts.{Parts}
use Rattle.room_representation.specs.Held.{AreHeld}
use Rattle.room_representation.specs.steps.Courses.{command_in, course_at, with_course_by}
use Rattle.room_representation.proofs.steps.Few.{dry_few}
use Rattle.room_representation.proofs.steps.Frames.{eased_represented}
use Rattle.room_representation.proofs.steps.Lent.{is_below, is_there, lent_below, lent_is, stands_at}
use Rattle.room_representation.proofs.steps.Steps.{held_still, thread_stepped, thread_there}
use Rattle.room_parts.specs.Dries.{dried, searched_places}

-- ---- how many places

-- each place is tried first or under pressure
covered : (list : List FlaggedPlace) → list_all is_flagged list ≡ true → length list ≤ length (first_places list) + length (forced_places list)
covered [] h = omega arith
covered (p ∷ list) h =
    let here : is_flagged p ≡ true = (and_parts (is_flagged p) (list_all is_flagged list) h).0 in
    let rest = covered list (and_parts (is_flagged p) (list_all is_flagged list) h).1 in
    by p.desired p.fallback (and_parts (is_place p.place) (not (p.desired && p.fallback)) here).1 (λ f. filter f list) rest
  where
    by : (d f : Bool) → not (d && f) ≡ true → (rest : (FlaggedPlace → Bool) → List FlaggedPlace) → length list ≤ length (map (λ (q : FlaggedPlace). q.place) (rest (λ q. not q.fallback))) + length (map (λ (q : FlaggedPlace). q.place) (rest (λ q. not q.desired))) →
        suc (length list) ≤ length (map (λ (q : FlaggedPlace). q.place) (cond (not f) (p ∷ rest (λ q. not q.fallback)) (rest (λ q. not q.fallback)))) + length (map (λ (q : FlaggedPlace). q.place) (cond (not d) (p ∷ rest (λ q. not q.desired)) (rest (λ q. not q.desired))))
    by true true h rest l = cc
    by true false h rest l = omega (arith, l)
    by false true h rest l = omega (arith, l)
    by false false h rest l = omega (arith, l)

short_list : (version : ℕ) (list : List FlaggedPlace) → is_place_list version list ≡ true → length list ≤ 8
short_list version list h =
    let both = and_parts (list_all is_flagged list) (if version == 1 then is_old_list list else is_new_list list) h in
    let all = covered list both.0 in
    by (version == 1) both.1 all
  where
    by : (q : Bool) → (if q then is_old_list list else is_new_list list) ≡ true → length list ≤ length (first_places list) + length (forced_places list) → length list ≤ 8
    by true h all =
        let few : length (first_places list) ≤ 4 = grind (arith, nat_tests) in
        let less : length (forced_places list) ≤ 4 = grind (arith, nat_tests) in
        omega (arith, all, few, less)
    by false h all = grind (arith, nat_tests)

short_decl : (version : ℕ) (d : Decl) → is_decl version d ≡ true → length d.placement.list ≤ 8
short_decl version d h = let placed : is_place_list version d.placement.list ≡ true = grind arith in short_list version d.placement.list placed

-- a declared list of places is short
short_places : (script : Script) → Rules script → (b : BufId) → length (decl script b).placement.list ≤ 8
short_places script r b = by (slice_get script.buffers b.0) refl
  where
    by : (o : Option Decl) → slice_get script.buffers b.0 ≡ o → length (unwrap_or o undeclared).placement.list ≤ 8
    by None e = omega arith
    by (Some d) e = short_decl script.version d (all_at (is_decl script.version) script.buffers b.0 d r.decls e)

-- the search for a buffer that is no victim looks where its targets and its command say
searched : (script : Script) (cmd : Command) (c : Course) (b : BufId) (x : Buffer) → is_caught c b ≡ false → (place_search script cmd c b (aim_of c b x)).list ≡ searched_places script cmd b x.targets
searched script cmd c b x free = by (is_caught c b) free (has_some_target x)
  where
    hops : (q : Bool) → (let z : PlaceSearch = if q then record { list = through_tt; forced = false; dry = 0 } else record { list = through_tt; forced = c.forced; dry = c.dry } in z).list ≡ through_tt
    hops true = refl
    hops false = refl

    by : (q : Bool) → q ≡ false → (h : Bool) → (place_search script cmd c b (if q || h then Hop else Asked)).list ≡ (if h then through_tt else asked_places script cmd b)
    by true e h = cc
    by false e true = hops (is_caught c b)
    by false e false = refl

-- ---- which buffer is searched

-- it is held, or caught
searched_buffer : (script : Script) (s : State) (c : Course) (cmd : Command) (x : Task) (b : BufId) (k : ℕ) (w : DryWhy) → Turn script s c cmd x → Gives script s c cmd x (kind.Dry b k w) → (has_buffer c.held b ≡ true) ⊎ (is_caught c b ≡ true)
searched_buffer script s c cmd _ b k w turn (seeks {aim = aim} (dries place at lacks)) = by aim turn
  where
    named_held : OnBuffer script s c cmd b → has_buffer c.held b ≡ true
    named_held on = none_missing c cmd b on.named.works.whole (has_found (λ d. not (is_ready script s cmd d)) (named cmd) b on.first)

    by : (a : SearchAim) → Turn script s c cmd (task.Search b a) → (has_buffer c.held b ≡ true) ⊎ (is_caught c b ≡ true)
    by a (victim_search v on vram f q) = inr (last_caught c v on.last)
    by a (ask on n) = inl (named_held on.on)
    by a (hop_up on q) = inl (named_held on.on.on)
    by a (hop_down on q r) = inl (named_held on.on.on)
searched_buffer script s c cmd _ b k w turn (fills g) = elim g [ ]

-- ---- the entry

module _ (script : Script) (journal : List Entry) (p : Parts) (entry : Entry) (t : ℕ) (b : BufId) (k : ℕ) (w : DryWhy) (held : AreHeld script journal p) (is : entry ≡ record { who = actor.Thread t; kind = kind.Dry b k w }) (legal : IsLegalNext script (world_of script journal) entry) where
  abbrev s : State
  s = state_of script journal

  stepped : Stepped script s t (kind.Dry b k w)
  stepped = thread_stepped script journal p held t (kind.Dry b k w) entry is legal refl

  pub dry_there : IsSome (course_at p.courses t)
  dry_there = thread_there script journal p held t (kind.Dry b k w) entry is legal refl

  command_is : command_in script p.courses t ≡ Some stepped.step.cmd
  command_is = ap (λ cs. command_in script cs t) held.represents.courses ∙ stepped.at

  -- the thread is at a command
  pub dry_command : IsSome (command_in script p.courses t)
  dry_command = subst (λ (o : Option Command). IsSome o) (sym command_is) refl

  pub dry_room : k + 1 < 2 ^ 32
  dry_room =
      let few = dry_few script (rules_of script held.fits) s (course s t) stepped.step.cmd stepped.step.task b k w stepped.step.step stepped.gives in
      omega (arith, few)

  live : IsThere s b
  live = is_there s b ((sound_law script journal held.fits held.legal).owned.held t b (searched_buffer script s (course s t) stepped.step.cmd stepped.step.task b k w stepped.turn stepped.gives)).1

  -- the buffer can be lent
  pub dry_below : b.0 < length p.bos.reservations
  dry_below = lent_below script journal p held b live

  -- it is declared, with few places
  pub dry_declared : b.0 < length script.buffers
  dry_declared =
      let below = is_below s.core.buffers b.0 (Some (buffer s b)) (stands_at s.core.buffers b (buffer s b) live) in
      let many = (good_law script held.fits journal held.legal).many in
      omega (arith, below, many)

  pub dry_short : length (decl script b).placement.list < 2 ^ 32
  dry_short = let short = short_places script (rules_of script held.fits) b in omega (arith, short)

  -- the course is the definition's
  dried_as : (c : Course) (cmd : Command) (places : ℕ) → (is_caught c b ≡ false → places ≡ length (forced_places (place_search_at_work script s c cmd b).list)) → dried b k places c ≡ course_after_dry script s b k (Some cmd) c
  dried_as c cmd places h = by (is_caught c b) h
    where
      by : (q : Bool) → (q ≡ false → places ≡ length (forced_places (place_search_at_work script s c cmd b).list)) →
          (if q then with_fail b deny.NoSpace c else gone_dry k places c) ≡ (if q then with_fail b deny.NoSpace c else gone_dry k (length (forced_places (place_search_at_work script s c cmd b).list)) c)
      by true h = refl
      by false h = ap (λ n. gone_dry k n c) (h refl)

  pub dry_held : (courses : List Course) (cmd : Command) (bo : Bo) (places : ℕ) → command_in script p.courses t ≡ Some cmd → IsBo p.bos b bo → places ≡ length (forced_places (searched_places script cmd b bo.targets)) →
      courses ≡ with_course_by (dried b k places) p.courses t → AreHeld script (journal ++ entry ∷ []) (record p { courses = courses })
  dry_held courses cmd bo places at lent count c =
      let same : Some cmd ≡ Some stepped.step.cmd = sym at ∙ command_is in
      let at_work = stepped.step.at_work ∙ sym same in
      let targets = ap (λ (x : Buffer). x.targets) (lent_is script journal p held b live bo lent) in
      let n : is_caught (course s t) b ≡ false → places ≡ length (forced_places (place_search_at_work script s (course s t) cmd b).list) =
      λ free. count ∙ ap (λ ts. length (forced_places (searched_places script cmd b ts))) targets ∙ ap (λ l. length (forced_places l)) (sym (searched script cmd (course s t) b (buffer s b) free)) in
      let after = dried_as (course s t) cmd places n ∙ ap (λ o. course_after_dry script s b k o (course s t)) (sym at_work) in
      held_still script journal p (record p { courses = courses }) entry (record { who = actor.Thread t; kind = kind.Dry b k w }) held is legal refl
      (eased_represented script s (stores_of script journal) p held.represents p.bos p.lru courses p.tickets s.reservations s.lists (with_course_by (λ x. course_after_dry script s b k (command_at_work script s t) x) s.courses t) s.last_stamp
      (ap (λ gs. record p.bos { reservations = gs }) held.represents.bos.reservations_are) held.represents.lists (c ∙ ap (λ cs. with_course_by (dried b k places) cs t) held.represents.courses ∙ ap (λ x. with_course s.courses t x) after) held.represents.stamp)
