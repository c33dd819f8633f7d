-- After each entry of a thread the buffers that it holds are still on their way.
use Rattle.std.proofs.Common.{◌≡◌, ℕ, zero, suc, ◌<◌, Bool, true, false, List, [], ◌∷◌, length, Option, Some, None, IsSome, refl, sym, ◌∙◌, ap, ap₂, subst, arith, ◌⊎◌, inl, inr, ⊎_elim}
use Rattle.std.specs.Prelude.{slice_get, fold, unwrap_or, option_map, not, nat_lt, ◌&&◌}
use Rattle.std.proofs.lemmas.Bool.{false_from_ne_true}
use Rattle.std.proofs.lemmas.Bool.Decides.{nat_tests}
use Rattle.ttm_base.specs.declared.Mem.{Mem}
use Rattle.ttm_base.specs.declared.Mem.TheVariants.{System, Tt, Vram}
use Rattle.ttm_base.specs.declared.Span.{Span}
use Rattle.ttm_base.specs.declared.BufId.{BufId}
use Rattle.ttm_base.specs.declared.JobId.{JobId}
use Rattle.ttm_base.specs.declared.Op.{Op}
use Rattle.ttm_base.specs.declared.Loc.{Loc}
use Rattle.ttm_base.specs.declared.Loc.TheVariants as loc
use Rattle.ttm_base.specs.declared.Place.{Place}
use Rattle.ttm_base.specs.declared.Deny.{Deny}
use Rattle.ttm_base.specs.declared.Deny.TheVariants as deny
use Rattle.ttm_base.specs.Placement.{forced_places}
use Rattle.journal_model.specs.declared.script.Script.{Script}
use Rattle.journal_model.specs.declared.script.Command.{Command}
use Rattle.journal_model.specs.declared.script.Command.TheVariants as command
use Rattle.journal_model.specs.declared.state.State.{State}
use Rattle.journal_model.specs.declared.state.Course.{Course}
use Rattle.journal_model.specs.declared.state.Buffer.{Buffer}
use Rattle.journal_model.specs.declared.state.Victim.{Victim}
use Rattle.journal_model.specs.declared.state.Task.{Task}
use Rattle.journal_model.specs.declared.state.Task.TheVariants as task
use Rattle.journal_model.specs.declared.state.SearchAim.{SearchAim}
use Rattle.journal_model.specs.declared.state.SearchAim.TheVariants.{Asked, Hop}
use Rattle.journal_model.specs.declared.entry.Why.{Why}
use Rattle.journal_model.specs.declared.entry.Why.TheVariants as why
use Rattle.journal_model.specs.declared.entry.Left.{Left}
use Rattle.journal_model.specs.declared.entry.Kind.{Kind}
use Rattle.journal_model.specs.declared.entry.Kind.TheVariants as kind
use Rattle.journal_model.specs.rules.State.{new_buffer, buffer, reservation, course, course_of, has_buffer, same_buffer, without_buffer, live_in, changed}
use Rattle.journal_model.specs.rules.Commands.{commands_of, named, asked_places, command_at_work}
use Rattle.journal_model.specs.rules.Choice.{choice}
use Rattle.journal_model.specs.rules.Ready.{meets, is_in_place, is_filled, is_ready, first_unready, has_some_target}
use Rattle.journal_model.specs.rules.Search.{place_search}
use Rattle.journal_model.specs.rules.Tasks.{first_missing}
use Rattle.journal_model.specs.rules.PageSteps.{target_to_untake, next_job}
use Rattle.journal_model.specs.rules.ApplyCommands.{named_in, on_to_next}
use Rattle.journal_model.specs.rules.ApplyJobs.{with_use, ops_of}
use Rattle.journal_model.specs.rules.ApplyPages.{bound, unbound, with_spans, with_loc, without_frames, search_over}
use Rattle.journal_model.specs.rules.ApplyMoves.{moved}
use Rattle.journal_model.specs.rules.ApplyVictims.{with_fail, with_victim, course_after_dry}
use Rattle.laws.proofs.law_state.Lists.{get_within, live_changed}
use Rattle.laws.specs.law_sound.Sound.{Carried, Fits, asks, command_of, locks, at_target}
use Rattle.laws.proofs.law_sound.Turns.{Turn, Works, OnVictim, OnNamed, OnBuffer, OnMisplaced, start, lock, victim_unbind, victim_empty, victim_give, victim_skip, victim_move, victim_fill, victim_search, give, act, fill_in_place, ask, bind, fill_to_bind, hop_up, unbind, move_up, move_across, move_down, fill_to_move, hop_down}
use Rattle.laws.proofs.law_sound.Gifts.{Gives, SearchOutcome, Filled, PlaceOf, answers, makes, shifts, draws, reserves, backs, seeks, binds, unbinds, moves, fills, lets_go, empties, depopulates, untakes, skips, arms, frees, swaps, finds, evicts, dries, fresh, again, back, evicts_for_swap, nothing}
use Rattle.laws.proofs.law_sound.Bufs.{same_or_other, other_is, has_found, has_pushed, has_without, without_gone, last_caught, none_missing, clash}
use Rattle.laws.proofs.law_sound.Steadies.{next_course, locking_command}
use Rattle.laws.proofs.law_sound.Owners.{none_or}
use Rattle.laws.proofs.law_sound.Reservations.{live_set, victim_free, swap_free}
use Rattle.laws.proofs.law_sound.OwnedKeeps.{bare, unlocked, at_search, at_fill}
use Rattle.laws.proofs.lemma_end_measure.Frame.{untouched}
use Rattle.laws.proofs.lemma_end_measure.Giving.{live_at, changed_here}
use Rattle.laws.proofs.lemma_end_measure.Border.{Known}
use Rattle.laws.proofs.lemma_end_measure.Parts.{after}
use Rattle.laws.proofs.lemma_end_ways.Rows.{MeetsAt, meets_alike, fits_meet, meet_fits, fits_alike, none_is, some_is, Nearer, bound_nearer, unbound_nearer, up_nearer, across_nearer, down_nearer}
use Rattle.laws.proofs.lemma_end_ways.Carries.{live_is}
use Rattle.laws.proofs.lemma_end_ways.Takes.{taken, taken_body, hop_place}
use Rattle.laws.proofs.lemma_end_ways.Reaches.{IsListed, place_listed, asked_fits, system_choice, some_forced}
use Rattle.laws.proofs.lemma_end_ways.Spanless.{AreBare, buffer_bare}
use Rattle.laws.proofs.lemma_end_ways.TakenRows.{Took, taken_spans, first_row, up_row, down_row, untaken_row}
use Rattle.laws.proofs.lemma_end_ways.OnWays.{OnWay, Carrying, SameLock, lock_same, works_alike, search_lock, fail_lock, dry_lock, find_stays, pins_same, on_way_kept}

-- ---- targets that stay

-- a change that leaves targets alone
pub targets_changed : (f : Buffer → Buffer) (xs : List (Option Buffer)) (b d : BufId) → ((x : Buffer) → has_some_target (f x) ≡ has_some_target x) →
    has_some_target (unwrap_or (live_in (changed f xs b) d) (new_buffer 0)) ≡ has_some_target (unwrap_or (live_in xs d) (new_buffer 0))
targets_changed f xs b d h =
    ⊎_elim (λ e. ap (λ o. has_some_target (unwrap_or o (new_buffer 0))) e) (λ e. ap (λ o. has_some_target (unwrap_or o (new_buffer 0))) e ∙ by (live_in xs d)) (live_changed f xs b d)
  where
    by : (o : Option Buffer) → has_some_target (unwrap_or (option_map f o) (new_buffer 0)) ≡ has_some_target (unwrap_or o (new_buffer 0))
    by None = refl
    by (Some x) = h x

pub targets_used : (job : JobId) (ops : List Op) (xs : List (Option Buffer)) (bs : List BufId) (d : BufId) →
    has_some_target (unwrap_or (live_in (fold (with_use job ops) xs bs) d) (new_buffer 0)) ≡ has_some_target (unwrap_or (live_in xs d) (new_buffer 0))
targets_used job ops xs [] d = refl
targets_used job ops xs (b ∷ bs) d = targets_used job ops (with_use job ops xs b) bs d ∙ targets_changed _ xs b d (λ x. refl)

-- a target given back leaves none where there was none
pub fewer_targets : (m : Mem) (x : Buffer) → has_some_target (with_spans m None x) ≡ true → has_some_target x ≡ true
fewer_targets m x h = by (has_some_target x) refl
  where
    none : has_some_target x ≡ false → (m : Mem) → has_some_target (with_spans m None x) ≡ false
    none e System = let ts = none_is x e in some_is (with_spans System None x) false false false (refl, ts.1, ts.2)
    none e Tt = let ts = none_is x e in some_is (with_spans Tt None x) false false false (ts.0, refl, ts.2)
    none e Vram = let ts = none_is x e in some_is (with_spans Vram None x) false false false (ts.0, ts.1, refl)

    by : (q : Bool) → has_some_target x ≡ q → q ≡ true
    by true e = refl
    by false e = absurd (clash (sym h ∙ none e m))

-- only commands that ask where their buffers stand find one out of place without targets
asks_of : (script : Script) (b : BufId) (x : Buffer) (cmd : Command) → is_in_place script cmd b x ≡ false → has_some_target x ≡ false → asks cmd ≡ true
asks_of script b x (command.Submit engine ops) h n = refl
asks_of script b x (command.Find c) h n = refl
asks_of script b x (command.Move c mem) h n = refl
asks_of script b x (command.SwapOut c) h n = refl
asks_of script b x cmd h n = absurd (clash (sym (ap (λ z. not z && true) n) ∙ h))

no_pins : (n : ℕ) → nat_lt 0 n ≡ false → n ≡ 0
no_pins n h = grind (arith, nat_tests)

pub zero_or_more : (n : ℕ) → (n ≡ 0) ⊎ (0 < n)
zero_or_more zero = inl refl
zero_or_more (suc n) = inr (omega arith)

-- what the search of a named buffer that has gone dry at some places tells
abbrev pub LeftPlaces : Script → State → Course → Command → Type 0
LeftPlaces script s c cmd = (b : BufId) → OnBuffer script s c cmd b → 0 < c.dry → (has_some_target (buffer s b) ≡ false) × (c.dry < length (forced_places (asked_places script cmd b)))

module _ (script : Script) (s : State) (t : ℕ) (cmd : Command) (here : IsSome (course_of s t)) (at : command_of script t (course s t) ≡ Some cmd) (known : Known script s) (spanless : AreBare s.core.buffers) (carrying : Carrying script s)
    (left : LeftPlaces script s (course s t) cmd) where
  -- what the thread holds is on its way after the entry
  abbrev pub Own : Kind → Course → Type 0
  Own k c =
      (x : Command) (d : BufId) → command_of script t c ≡ Some x → has_buffer c.held d ≡ true → has_some_target (buffer (after script s t k) d) ≡ true → OnWay script (after script s t k) c x d

  one_command : (c : Course) (x : Command) → SameLock (course s t) c → command_of script t c ≡ Some x → cmd ≡ x
  one_command c x l e = let it : Some cmd ≡ Some x = sym (ap (slice_get (commands_of script t)) l.answered ∙ at) ∙ e in cc

  -- a held buffer with targets that couldn't be on its way has none
  pub clear : ((d : BufId) → OnWay script s (course s t) cmd d → has_some_target (buffer s d) ≡ true → ⊥) → (d : BufId) → has_buffer (course s t).held d ≡ true → has_some_target (buffer s d) ≡ false
  clear never d h = false_from_ne_true (has_some_target (buffer s d)) (λ some. never d (carrying.carried t cmd d at h some) some)

  pub clear_ready : first_unready script s cmd ≡ None → (d : BufId) → has_buffer (course s t).held d ≡ true → has_some_target (buffer s d) ≡ false
  clear_ready u d h = clear (λ e w some. (let z : None ≡ Some e = sym u ∙ w.first in cc)) d h

  pub clear_locking : (b : BufId) → first_missing (course s t) cmd ≡ Some b → (d : BufId) → has_buffer (course s t).held d ≡ true → has_some_target (buffer s d) ≡ false
  clear_locking b f d h = clear (λ e w some. (let z : None ≡ Some b = sym w.works.whole ∙ f in cc)) d h

  own_none : (k : Kind) (c : Course) → ((d : BufId) → has_buffer c.held d ≡ true → has_some_target (buffer (after script s t k) d) ≡ false) → Own k c
  own_none k c none x d e h some = absurd (clash (sym some ∙ none d h))

  own_empty : (k : Kind) → Own k (on_to_next (course s t))
  own_empty k x d e h some = absurd (clash (sym h))

  -- the buffers that it holds stay
  own_same : (k : Kind) (c : Course) → SameLock (course s t) c → Works (course s t) cmd → (c.fail ≡ None → (course s t).fail ≡ None) → ((d : BufId) → has_buffer (course s t).held d ≡ true → buffer (after script s t k) d ≡ buffer s d)
      → ((d : BufId) → (reservation (after script s t k) d).pins ≡ (reservation s d).pins) → Own k c
  own_same k c l works fails same pins x d e h some =
      let held = subst (λ bs. has_buffer bs d ≡ true) l.held h in
      let w = carrying.carried t cmd d at held (subst (λ y. has_some_target y ≡ true) (same d held) some) in
      subst (λ z. OnWay script (after script s t k) c z d) (one_command c x l e)
      (on_way_kept script s (after script s t k) (course s t) c cmd d l fails (λ b m. same b (none_missing (course s t) cmd b works.whole m)) (pins d) w)

  first_held : (b : BufId) → Works (course s t) cmd → first_unready script s cmd ≡ Some b → has_buffer (course s t).held b ≡ true
  first_held b works u = none_missing (course s t) cmd b works.whole (has_found (λ d. not (is_ready script s cmd d)) (named cmd) b u)

  first_live : (b : BufId) → Works (course s t) cmd → first_unready script s cmd ≡ Some b → live_in s.core.buffers b ≡ Some (buffer s b)
  first_live b works u = live_is s b (known.owned.held t b (inl (first_held b works u))).1

  -- the first unready one has changed, and is on its way if it has targets
  own_first : (k : Kind) (c : Course) (b : BufId) → SameLock (course s t) c → Works (course s t) cmd → first_unready script s cmd ≡ Some b
      → ((d : BufId) → same_buffer b d ≡ false → buffer (after script s t k) d ≡ buffer s d)
      → (has_some_target (buffer (after script s t k) b) ≡ true → (asks cmd ≡ true) × ((reservation (after script s t k) b).pins ≡ 0) × Carried (Fits script c cmd b (buffer (after script s t k) b)) (buffer (after script s t k) b))
      → Own k c
  own_first k c b l works u others goes x d e h some =
      subst (λ z. OnWay script (after script s t k) c z d) (one_command c x l e) (⊎_elim it other (same_or_other d b))
    where
      it : d ≡ b → OnWay script (after script s t k) c cmd d
      it q =
          let target = subst (λ z. has_some_target (buffer (after script s t k) z) ≡ true) q some in
          let g = goes target in
          subst (λ z. OnWay script (after script s t k) c cmd z) (sym q)
          (record {
            works = works_alike (course s t) c cmd l works;
            first =
                find_stays (λ y. not (is_ready script s cmd y)) (λ y. not (is_ready script (after script s t k) cmd y)) (named cmd) b u
                (ap (λ z. not ((not z && meets script cmd b (buffer (after script s t k) b)) && is_filled cmd (buffer (after script s t k) b))) target)
                (λ y n. ap (λ z. not (is_in_place script cmd y z && is_filled cmd z)) (others y (other_is b y (λ q. n (sym q)))));
            asked = g.0;
            loose = g.1;
            row = g.2;
          })

      other : (d ≡ b → ⊥) → OnWay script (after script s t k) c cmd d
      other n =
          let held = subst (λ bs. has_buffer bs d ≡ true) l.held h in
          let same = others d (other_is b d (λ q. n (sym q))) in
          let w = carrying.carried t cmd d at held (subst (λ y. has_some_target y ≡ true) same some) in
          absurd (n (let z : Some d ≡ Some b = sym w.first ∙ u in cc))

  -- it had targets, so it was on its way
  own_step : (k : Kind) (c : Course) (b : BufId) → SameLock (course s t) c → Works (course s t) cmd → first_unready script s cmd ≡ Some b
      → ((d : BufId) → same_buffer b d ≡ false → buffer (after script s t k) d ≡ buffer s d) → (reservation (after script s t k) b).pins ≡ (reservation s b).pins
      → (has_some_target (buffer (after script s t k) b) ≡ true → has_some_target (buffer s b) ≡ true)
      → (OnWay script s (course s t) cmd b → (has_some_target (buffer (after script s t k) b) ≡ false) ⊎ Carried (Fits script c cmd b (buffer (after script s t k) b)) (buffer (after script s t k) b))
      → Own k c
  own_step k c b l works u others pins had row =
      own_first k c b l works u others
      (λ some.
      let w = carrying.carried t cmd b at (first_held b works u) (had some) in
      (w.asked, pins ∙ w.loose, ⊎_elim (λ none. absurd (clash (sym some ∙ none))) (λ r. r) (row w)))

  -- the row of what the buffer has become
  row_now : (k : Kind) (c : Course) (b : BufId) (y : Buffer) → buffer (after script s t k) b ≡ y → (has_some_target y ≡ false) ⊎ Carried (MeetsAt script cmd b y) y
      → (has_some_target (buffer (after script s t k) b) ≡ false) ⊎ Carried (Fits script c cmd b (buffer (after script s t k) b)) (buffer (after script s t k) b)
  row_now k c b y e r =
      subst (λ z. (has_some_target z ≡ false) ⊎ Carried (Fits script c cmd b z) z) (sym e)
      (⊎_elim (λ none. inl none) (λ row. inr (meet_fits script cmd b c y row)) r)

  -- ---- of a victim no held buffer changes

  away : (v : Victim) → OnVictim (course s t) cmd v → (d : BufId) → has_buffer (course s t).held d ≡ true → same_buffer v.b d ≡ false
  away v on d h = other_is v.b d (λ e. clash (sym (subst (λ z. has_buffer (course s t).held z ≡ true) (sym e) h) ∙ (known.owned.steady t).apart v.b (last_caught (course s t) v on.last)))

  unfailed : (v : Victim) → OnVictim (course s t) cmd v → (course s t).fail ≡ None
  unfailed v on = (known.owned.steady t).unfailed v.b (last_caught (course s t) v on.last)

  same_live : (k : Kind) (d : BufId) → live_in (after script s t k).core.buffers d ≡ live_in s.core.buffers d → buffer (after script s t k) d ≡ buffer s d
  same_live k d e = ap (λ o. unwrap_or o (new_buffer 0)) e

  -- a victim that nobody held
  own_catch : (v : BufId) (w : Why) → Works (course s t) cmd → (reservation s v).holder ≡ None → Own (kind.Catch v w) (with_victim v w (course s t))
  own_catch v w works free =
      own_same (kind.Catch v w) (with_victim v w (course s t)) (record { answered = refl; made = refl; stamp = refl; held = refl; first = refl }) works (λ f. f)
      (λ d h. same_live (kind.Catch v w) d (untouched script s t (kind.Catch v w) d (other_is v d (λ e. (let a = known.owned.held t d (inl h) in none_or (reservation s d).holder a.0 (subst (λ z. (reservation s z).holder ≡ None) e free) a.2)))))
      (λ d. pins_same script s t (kind.Catch v w) d refl)

  -- ---- searches

  took : (b : BufId) (mem : Mem) (spans : List Span) → Took mem spans (buffer s b) (taken s mem spans (buffer s b))
  took b mem spans = let body = taken_body s mem spans (buffer s b) in record { mem = body.mem; targets = body.targets }

  taken_here : (b : BufId) (mem : Mem) (spans : List Span) → live_in s.core.buffers b ≡ Some (buffer s b) → buffer (after script s t (kind.Take b mem spans)) b ≡ taken s mem spans (buffer s b)
  taken_here b mem spans live = ap (λ o. unwrap_or o (new_buffer 0)) (changed_here (taken s mem spans) s.core.buffers b (buffer s b) live)

  -- a hop is one in TT
  hop_mem : (b : BufId) (place : Place) (mem : Mem) → OnBuffer script s (course s t) cmd b → has_some_target (buffer s b) ≡ true → PlaceOf (place_search script cmd (course s t) b Hop) place → place.mem ≡ mem → Tt ≡ mem
  hop_mem b place mem on some w m =
      sym (ap (λ p. p.mem) (hop_place script cmd (course s t) b place
      (λ c. ⊎_elim (λ z. z) (λ more. absurd (clash (sym some ∙ (left b on more).0))) (zero_or_more (course s t).dry)) w))
      ∙ m

  own_asked : (b : BufId) (place : Place) (mem : Mem) (spans : List Span) → OnMisplaced script s (course s t) cmd b → has_some_target (buffer s b) ≡ false → PlaceOf (place_search script cmd (course s t) b Asked) place → place.mem ≡ mem
      → choice script s.core b place ≡ Some spans → Own (kind.Take b mem spans) (search_over b (course s t))
  own_asked b place mem spans on none w m ch =
      own_first (kind.Take b mem spans) (search_over b (course s t)) b (search_lock b (course s t)) on.on.named.works on.on.first
      (λ d h. same_live (kind.Take b mem spans) d (untouched script s t (kind.Take b mem spans) d h))
      (λ some. (
        asks_of script b (buffer s b) cmd on.misplaced none,
        no_pins (reservation s b).pins on.loose,
        subst (λ z. Carried (Fits script (search_over b (course s t)) cmd b z) z) (sym (taken_here b mem spans live)) (meet_fits script cmd b (search_over b (course s t)) (taken s mem spans (buffer s b)) row),
      ))
    where
      live : live_in s.core.buffers b ≡ Some (buffer s b)
      live = first_live b on.on.named.works on.on.first

      declared : b.0 < length script.buffers
      declared = let inside = get_within s.core.buffers b.0 (Some (buffer s b)) (live_at s.core.buffers b (buffer s b) live) in let many = known.good.many in omega (arith, inside, many)

      more_places : (course s t).dry < length (forced_places (asked_places script cmd b))
      more_places =
          ⊎_elim
          (λ z. let some = some_forced script known.rules cmd b declared in omega (arith, z, some))
          (λ more. (left b on.on more).1)
          (zero_or_more (course s t).dry)

      listed : IsListed place (asked_places script cmd b)
      listed = place_listed (place_search script cmd (course s t) b Asked) place w more_places

      fits : MeetsAt script cmd b (taken s mem spans (buffer s b)) mem
      fits = asked_fits script known.rules s.core cmd b place mem spans (at_target mem (taken s mem spans (buffer s b))) listed m ch refl (taken_spans mem spans (buffer s b) (taken s mem spans (buffer s b)) (took b mem spans))

      elsewhere : (buffer s b).mem ≡ System → mem ≡ System → ⊥
      elsewhere xm em =
          let empty = system_choice script s.core b place spans (m ∙ em) ch in
          let meet = meets_alike script cmd b (buffer s b) (at_target mem (taken s mem spans (buffer s b))) (xm ∙ sym em)
          (buffer_bare s b spanless xm ∙ (sym empty ∙ sym (taken_spans mem spans (buffer s b) (taken s mem spans (buffer s b)) (took b mem spans)))) ∙ fits in
          clash (sym (ap₂ (λ p q. not p && q) none meet) ∙ on.misplaced)

      row : Carried (MeetsAt script cmd b (taken s mem spans (buffer s b))) (taken s mem spans (buffer s b))
      row = first_row script cmd b (buffer s b).mem mem spans (buffer s b) (taken s mem spans (buffer s b)) (took b mem spans) refl (none_is (buffer s b) none) fits elsewhere

  own_hop : (b : BufId) (spans : List Span) → OnBuffer script s (course s t) cmd b → has_some_target (buffer s b) ≡ true
      → (Carried (MeetsAt script cmd b (buffer s b)) (buffer s b) → Carried (MeetsAt script cmd b (taken s Tt spans (buffer s b))) (taken s Tt spans (buffer s b))) → Own (kind.Take b Tt spans) (search_over b (course s t))
  own_hop b spans on some row =
      own_step (kind.Take b Tt spans) (search_over b (course s t)) b (search_lock b (course s t)) on.named.works on.first
      (λ d h. same_live (kind.Take b Tt spans) d (untouched script s t (kind.Take b Tt spans) d h)) refl (λ h. some)
      (λ w. row_now (kind.Take b Tt spans) (search_over b (course s t)) b (taken s Tt spans (buffer s b)) (taken_here b Tt spans (first_live b on.named.works on.first)) (inr (row (fits_meet script cmd b (course s t) (buffer s b) on.fine w.row))))

  own_take : (b : BufId) (aim : SearchAim) (place : Place) (mem : Mem) (spans : List Span) → Turn script s (course s t) cmd (task.Search b aim) → PlaceOf (place_search script cmd (course s t) b aim) place → place.mem ≡ mem
      → choice script s.core b place ≡ Some spans → Own (kind.Take b mem spans) (search_over b (course s t))
  own_take b aim place mem spans (victim_search v on i f q) w m ch =
      own_same (kind.Take v.b mem spans) (search_over v.b (course s t)) (search_lock v.b (course s t)) on.works (λ e. unfailed v on)
      (λ d h. same_live (kind.Take v.b mem spans) d (untouched script s t (kind.Take v.b mem spans) d (away v on d h))) (λ d. refl)
  own_take b aim place mem spans (ask on none) w m ch = own_asked b place mem spans on none w m ch
  own_take b aim place mem spans (hop_up on q) w m ch =
      subst (λ z. Own (kind.Take b z spans) (search_over b (course s t))) (hop_mem b place mem on.on.on on.some w m)
      (own_hop b spans on.on.on on.some (up_row script cmd b spans (buffer s b) (taken s Tt spans (buffer s b)) (took b Tt spans) on.stands q))
  own_take b aim place mem spans (hop_down on v q) w m ch =
      subst (λ z. Own (kind.Take b z spans) (search_over b (course s t))) (hop_mem b place mem on.on.on on.some w m)
      (own_hop b spans on.on.on on.some (down_row script cmd b spans (buffer s b) (taken s Tt spans (buffer s b)) (took b Tt spans) on.stands v q))

  own_sought : (b : BufId) (aim : SearchAim) (k : Kind) → Turn script s (course s t) cmd (task.Search b aim) → SearchOutcome script s (course s t) b (place_search script cmd (course s t) b aim) k → Own k (next_course script s t k)
  own_sought b aim k turn (finds place {mem} {spans} w m ch) = own_take b aim place mem spans turn w m ch
  own_sought b aim k turn (evicts place {v} {w} a n e f) = own_catch v w (at_search script s t cmd (known.owned.steady t) b aim turn).works (victim_free script s (course s t).skips place v f).free
  own_sought b aim k turn (dries place {w} a n) =
      let sk = at_search script s t cmd (known.owned.steady t) b aim turn in
      own_same (kind.Dry b _ w) (course_after_dry script s b _ (command_at_work script s t) (course s t)) (dry_lock script s b _ (command_at_work script s t) (course s t)) sk.works (λ f. sk.fine) (λ d h. refl) (λ d. refl)

  -- ---- pages

  own_page_of : (b : BufId) (k : Kind) (page : ℕ) (l : Loc) → OnBuffer script s (course s t) cmd b → (after script s t k).core.buffers ≡ changed (with_loc page l) s.core.buffers b
      → ((d : BufId) → same_buffer b d ≡ false → live_in (after script s t k).core.buffers d ≡ live_in s.core.buffers d) → ((d : BufId) → (reservation (after script s t k) d).pins ≡ (reservation s d).pins) → Own k (course s t)
  own_page_of b k page l on core others pins =
      own_step k (course s t) b (lock_same (course s t)) on.named.works on.first (λ d h. same_live k d (others d h)) (pins b)
      (λ h. subst (λ y. has_some_target y ≡ true) is h)
      (λ w. inr (subst (λ z. Carried (Fits script (course s t) cmd b z) z) (sym is) (fits_alike script cmd b (course s t) (buffer s b) (with_loc page l (buffer s b)) refl refl w.row)))
    where
      is : buffer (after script s t k) b ≡ with_loc page l (buffer s b)
      is = ap (λ xs. unwrap_or (live_in xs b) (new_buffer 0)) core ∙ ap (λ o. unwrap_or o (new_buffer 0)) (changed_here (with_loc page l) s.core.buffers b (buffer s b) (first_live b on.named.works on.first))

  -- the table of the buffer that is filled changes alone
  own_page : (b : BufId) (k : Kind) (page : ℕ) (l : Loc) → Turn script s (course s t) cmd (task.Fill b) → (after script s t k).core.buffers ≡ changed (with_loc page l) s.core.buffers b
      → ((d : BufId) → same_buffer b d ≡ false → live_in (after script s t k).core.buffers d ≡ live_in s.core.buffers d) → ((d : BufId) → (reservation (after script s t k) d).pins ≡ (reservation s d).pins) → Own k (course s t)
  own_page b k page l (victim_fill v on i f q r) core others pins =
      own_same k (course s t) (lock_same (course s t)) on.works (λ f. f) (λ d h. same_live k d (others d (away v on d h))) pins
  own_page b k page l (fill_in_place on i) core others pins = own_page_of b k page l on core others pins
  own_page b k page l (fill_to_bind on q r) core others pins = own_page_of b k page l on.on.on core others pins
  own_page b k page l (fill_to_move on v q r) core others pins = own_page_of b k page l on.on.on core others pins

  own_filled : (b : BufId) (k : Kind) → Turn script s (course s t) cmd (task.Fill b) → Filled script s b k → Own k (next_course script s t k)
  own_filled b k turn (fresh {frame} f l) =
      own_page b (kind.Populate b _ frame) _ (loc.Frame frame) turn refl (λ d h. untouched script s t (kind.Populate b _ frame) d h) (λ d. refl)
  own_filled b k turn (again {f} {frame} e l) =
      own_page b (kind.Populate b _ frame) _ (loc.Frame frame) turn refl (λ d h. untouched script s t (kind.Populate b _ frame) d h) (λ d. refl)
  own_filled b k turn (back {slot} {frame} f l) =
      own_page b (kind.SwapIn b _ slot frame) _ (loc.Frame frame) turn refl (λ d h. untouched script s t (kind.SwapIn b _ slot frame) d h) (λ d. refl)
  own_filled b k turn (evicts_for_swap {slot} {v} f e) = own_catch v why.Swap (at_fill script s t cmd (known.owned.steady t) b turn).works (swap_free s v e).free
  own_filled b k turn (nothing f) =
      let sk = at_fill script s t cmd (known.owned.steady t) b turn in
      own_same (kind.NoPages b) (with_fail b deny.NoPages (course s t)) (fail_lock b deny.NoPages (course s t)) sk.works (λ e. sk.fine) (λ d h. refl) (λ d. refl)

  -- ---- carries

  -- one step nearer
  own_carried : (k : Kind) (b : BufId) (y : Buffer) → OnBuffer script s (course s t) cmd b → has_some_target (buffer s b) ≡ true
      → ((d : BufId) → same_buffer b d ≡ false → live_in (after script s t k).core.buffers d ≡ live_in s.core.buffers d) → (reservation (after script s t k) b).pins ≡ (reservation s b).pins → buffer (after script s t k) b ≡ y
      → (Carried (MeetsAt script cmd b (buffer s b)) (buffer s b) → Nearer script cmd b (buffer s b) y) → Own k (course s t)
  own_carried k b y on some others pins is near =
      own_step k (course s t) b (lock_same (course s t)) on.named.works on.first (λ d h. same_live k d (others d h)) pins (λ h. some)
      (λ w. row_now k (course s t) b y is (near (fits_meet script cmd b (course s t) (buffer s b) on.fine w.row)).row)

  become : (b : BufId) (f : Buffer → Buffer) → OnBuffer script s (course s t) cmd b → unwrap_or (live_in (changed f s.core.buffers b) b) (new_buffer 0) ≡ f (buffer s b)
  become b f on = ap (λ o. unwrap_or o (new_buffer 0)) (changed_here f s.core.buffers b (buffer s b) (first_live b on.named.works on.first))

  own_moved : (b : BufId) (mem : Mem) (n : ℕ) (l : Left) → OnBuffer script s (course s t) cmd b → has_some_target (buffer s b) ≡ true
      → ((job : JobId) → Carried (MeetsAt script cmd b (buffer s b)) (buffer s b) → Nearer script cmd b (buffer s b) (moved mem job (buffer s b))) → Own (kind.Move b mem n l) (course s t)
  own_moved b mem n l on some near =
      own_carried (kind.Move b mem n l) b (moved mem (record { ctx = 0; num = n }) (buffer s b)) on some (λ d h. untouched script s t (kind.Move b mem n l) d h) refl
      (become b (moved mem (record { ctx = 0; num = n })) on) (near (record { ctx = 0; num = n }))

  own_victim_moved : (v : Victim) (n : ℕ) (l : Left) → OnVictim (course s t) cmd v → Own (kind.Move v.b Tt n l) (course s t)
  own_victim_moved v n l on =
      own_same (kind.Move v.b Tt n l) (course s t) (lock_same (course s t)) on.works (λ f. f) (λ d h. same_live (kind.Move v.b Tt n l) d (untouched script s t (kind.Move v.b Tt n l) d (away v on d h))) (λ d. refl)

  -- ---- what a failed search gives back

  own_given : (b : BufId) (d : Deny) (f : Buffer → Buffer) (k : Kind) → OnNamed s (course s t) cmd → (course s t).fail ≡ Some d → first_unready script s cmd ≡ Some b
      → ((e : BufId) → same_buffer b e ≡ false → live_in (after script s t k).core.buffers e ≡ live_in s.core.buffers e) → (reservation (after script s t k) b).pins ≡ (reservation s b).pins → (after script s t k).core.buffers ≡ changed f s.core.buffers b
      → (has_some_target (f (buffer s b)) ≡ true → has_some_target (buffer s b) ≡ true)
      → (Carried (Fits script (course s t) cmd b (buffer s b)) (buffer s b) → (has_some_target (f (buffer s b)) ≡ false) ⊎ Carried (Fits script (course s t) cmd b (f (buffer s b))) (f (buffer s b))) → Own k (course s t)
  own_given b d f k on failed u others pins core had row =
      own_step k (course s t) b (lock_same (course s t)) on.works u (λ e h. same_live k e (others e h)) pins
      (λ h. had (subst (λ y. has_some_target y ≡ true) is h))
      (λ w. subst (λ z. (has_some_target z ≡ false) ⊎ Carried (Fits script (course s t) cmd b z) z) (sym is) (row w.row))
    where
      is : buffer (after script s t k) b ≡ f (buffer s b)
      is = ap (λ xs. unwrap_or (live_in xs b) (new_buffer 0)) core ∙ ap (λ o. unwrap_or o (new_buffer 0)) (changed_here f s.core.buffers b (buffer s b) (first_live b on.works u))

  -- where a search failed nothing is asked of the targets
  any_fits : (d : Deny) (b : BufId) (y : Buffer) → (course s t).fail ≡ Some d → (m : Mem) → Fits script (course s t) cmd b y m
  any_fits d b y failed m = λ f. absurd (let z : None ≡ Some d = sym f ∙ failed in cc)

  -- ---- each entry

  pub own_keeps : (x : Task) (k : Kind) → Turn script s (course s t) cmd x → Gives script s (course s t) cmd x k → Own k (next_course script s t k)
  own_keeps x k turn answers = own_empty k
  own_keeps x k (start m q) (makes e dead) = own_none k _ (λ d h. absurd (unlocked script s t cmd here at known.owned (ap locks e) d (inl h)))
  own_keeps x k (start m q) (shifts e) = own_none k _ (λ d h. absurd (unlocked script s t cmd here at known.owned (ap locks e) d (inl h)))
  own_keeps x k (start m q) (draws l) = own_none k _ (λ d h. absurd (bare script s t cmd here at known.owned (locking_command (course s t) cmd q l) d (inl h)))
  own_keeps x k (lock m n f) (reserves {b} l free) =
      own_none k _
      (λ d h. ⊎_elim
      (λ held. clear_locking b f d held)
      (λ q. false_from_ne_true (has_some_target (buffer s d)) (λ some. carrying.targets d some (subst (λ z. (reservation s z).holder ≡ None) (sym q) free)))
      (has_pushed (course s t).held b d h))
  own_keeps x k (lock m n f) (backs l h q) = own_none k _ (λ d h. absurd (clash (sym h)))
  own_keeps x k turn (seeks {b} {aim} sought) = own_sought b aim k turn sought
  own_keeps x k turn (fills {b} filled) = own_filled b k turn filled
  own_keeps x k (bind {b} on q r) binds =
      own_carried (kind.Bind b) b (bound (buffer s b)) on.on.on on.some (λ d h. untouched script s t (kind.Bind b) d h) refl (become b bound on.on.on) (λ row. bound_nearer script cmd b (buffer s b) on.stands q row)
  own_keeps x k (victim_unbind v on q) (unbinds i) =
      own_same (kind.Unbind v.b) (course s t) (lock_same (course s t)) on.works (λ f. f) (λ d h. same_live (kind.Unbind v.b) d (untouched script s t (kind.Unbind v.b) d (away v on d h))) (λ d. refl)
  own_keeps x k (unbind {b} on q) (unbinds i) =
      own_carried (kind.Unbind b) b (unbound (buffer s b)) on.on.on on.some (λ d h. untouched script s t (kind.Unbind b) d h) refl (become b unbound on.on.on) (λ row. unbound_nearer script cmd b (buffer s b) on.stands q row)
  own_keeps x k (victim_move v on i f q r) moves = own_victim_moved v _ _ on
  own_keeps x k (move_up {b} on q) moves = own_moved b Vram _ _ on.on.on on.some (λ job row. up_nearer script cmd b (buffer s b) job on.stands q row)
  own_keeps x k (move_across {b} on q) moves = own_moved b Vram _ _ on.on.on on.some (λ job row. across_nearer script cmd b (buffer s b) job on.stands q row)
  own_keeps x k (move_down {b} on v q r) moves = own_moved b Tt _ _ on.on.on on.some (λ job row. down_nearer script cmd b (buffer s b) job on.stands v q row)
  own_keeps x k (victim_empty v on q e) lets_go =
      own_same (kind.Loose v.b) _ (record { answered = refl; made = refl; stamp = refl; held = refl; first = refl }) on.works (λ f. f) (λ d h. refl) (λ d. pins_same script s t (kind.Loose v.b) d refl)
  own_keeps x k (victim_empty v on q e) (empties {b} {slot} w f g) =
      own_same (kind.SwapOut v.b _ slot) (course s t) (lock_same (course s t)) on.works (λ f. f) (λ d h. same_live (kind.SwapOut v.b _ slot) d (untouched script s t (kind.SwapOut v.b _ slot) d (away v on d h))) (λ d. refl)
  own_keeps x k (victim_skip v d on i f q) skips =
      own_same (kind.Skip v.b) _ (record { answered = refl; made = refl; stamp = refl; held = refl; first = refl }) on.works (λ f. f) (λ d h. refl) (λ d. pins_same script s t (kind.Skip v.b) d refl)
  own_keeps x k (victim_give v d on i f q) (depopulates m g) =
      own_same (kind.Depopulate v.b) (course s t) (lock_same (course s t)) on.works (λ f. f) (λ d h. same_live (kind.Depopulate v.b) d (untouched script s t (kind.Depopulate v.b) d (away v on d h))) (λ d. refl)
  own_keeps x k (victim_give v d on i f q) (untakes n) =
      own_same (kind.Untake v.b _) (course s t) (lock_same (course s t)) on.works (λ f. f) (λ d h. same_live (kind.Untake v.b _) d (untouched script s t (kind.Untake v.b _) d (away v on d h))) (λ d. refl)
  own_keeps x k (give {b} d on a f u g) (depopulates m p) =
      own_given b d without_frames (kind.Depopulate b) on f u (λ e h. untouched script s t (kind.Depopulate b) e h) refl refl (λ h. h)
      (λ row. inr (fits_alike script cmd b (course s t) (buffer s b) (without_frames (buffer s b)) refl refl row))
  own_keeps x k (give {b} d on a f u g) (untakes n) =
      own_given b d (with_spans (target_to_untake (buffer s b)) None) (kind.Untake b (target_to_untake (buffer s b))) on f u (λ e h. untouched script s t (kind.Untake b (target_to_untake (buffer s b))) e h) refl refl
      (fewer_targets (target_to_untake (buffer s b)) (buffer s b))
      (untaken_row (Fits script (course s t) cmd b (buffer s b)) (Fits script (course s t) cmd b (with_spans (target_to_untake (buffer s b)) None (buffer s b))) (buffer s b)
      (any_fits d b (with_spans (target_to_untake (buffer s b)) None (buffer s b)) f))
  own_keeps x k (act on a f u) (arms {engine} ops e) =
      own_none k _ (λ d h. targets_used (record { ctx = engine; num = next_job s engine }) (ops_of (command_at_work script s t)) s.core.buffers (named_in (command_at_work script s t)) d ∙ clear_ready u d h)
  own_keeps x k (act on a f u) (frees {b} {g} e q) =
      own_none k _
      (λ d h.
      let n : d ≡ b → ⊥ = λ r. clash (sym (subst (λ z. has_buffer (without_buffer (course s t).held b) z ≡ true) r h) ∙ without_gone (course s t).held b) in
      ap (λ o. has_some_target (unwrap_or o (new_buffer 0))) (live_set s.core.buffers b d None n) ∙ clear_ready u d (has_without (course s t).held b d h))
  own_keeps x k (act on a f u) (swaps {b} {slot} e q r) = own_none k _ (λ d h. targets_changed (with_loc _ (loc.Slot slot)) s.core.buffers b d (λ y. refl) ∙ clear_ready u d h)
  own_keeps x k turn gives = own_empty k
