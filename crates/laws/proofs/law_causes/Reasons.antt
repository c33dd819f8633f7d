-- The cause of each entry that gives up, by what is known of its thread's searches.
use Rattle.std.proofs.Common.{◌≡◌, ℕ, Bool, true, false, List, [], ◌∷◌, length, Option, Some, None, Ok, refl, sym, ◌∙◌, ap, ap₂, subst, arith, ◌⊎◌, inl, inr, ⊎_elim}
use Rattle.std.specs.Prelude.{not, nat_lt, is_none, unwrap_or, option_map, option_and_then, slice_get, ◌==◌, ◌&&◌, ◌||◌, if◌then◌else◌}
use Rattle.std.specs.List.{list_any, list_all}
use Rattle.std.proofs.lemmas.Grind.{common_steps}
use Rattle.std.proofs.lemmas.Bool.{or_left, or_right, or_cases}
use Rattle.std.proofs.lemmas.Bool.Decides.{nat_tests}
use Rattle.ttm_base.specs.ListWords.{last_of, count_from, same_numbers}
use Rattle.ttm_base.specs.Placement.{first_places, forced_places}
use Rattle.ttm_base.specs.declared.Mem.{Mem}
use Rattle.ttm_base.specs.declared.Mem.TheVariants.{System, Tt, Vram}
use Rattle.ttm_base.specs.declared.BufId.{BufId}
use Rattle.ttm_base.specs.declared.Stamp.{Stamp}
use Rattle.ttm_base.specs.declared.FlaggedPlace.{FlaggedPlace}
use Rattle.ttm_base.specs.declared.Deny.{Deny}
use Rattle.ttm_base.specs.declared.Deny.TheVariants as deny
use Rattle.journal_model.specs.declared.script.Script.{Script}
use Rattle.journal_model.specs.declared.script.Command.{Command}
use Rattle.journal_model.specs.declared.script.Command.TheVariants as command
use Rattle.journal_model.specs.declared.state.State.{State}
use Rattle.journal_model.specs.declared.state.Course.{Course}
use Rattle.journal_model.specs.declared.state.Victim.{Victim}
use Rattle.journal_model.specs.declared.state.Reservation.{Reservation}
use Rattle.journal_model.specs.declared.state.SearchAim.{SearchAim}
use Rattle.journal_model.specs.declared.state.Task.{Task}
use Rattle.journal_model.specs.declared.state.Task.TheVariants as task
use Rattle.journal_model.specs.declared.entry.Kind.{Kind}
use Rattle.journal_model.specs.declared.entry.Kind.TheVariants as kind
use Rattle.journal_model.specs.declared.entry.DryWhy.{DryWhy}
use Rattle.journal_model.specs.declared.entry.DryWhy.TheVariants as dry
use Rattle.journal_model.specs.declared.entry.Cause.{Cause}
use Rattle.journal_model.specs.declared.entry.Cause.TheVariants as cause
use Rattle.journal_model.specs.declared.entry.CauseRow.{CauseRow}
use Rattle.journal_model.specs.rules.State.{buffer, reservation, course, same_buffer, has_buffer}
use Rattle.journal_model.specs.rules.Commands.{named, command_at_work}
use Rattle.journal_model.specs.rules.Holds.{live_buffers, free_frame, free_slot}
use Rattle.journal_model.specs.rules.Dry.{has_frame, is_loose, is_dry, swap_victim, ghost_with_frame, dry_why, same_cause, same_rows, same_why}
use Rattle.journal_model.specs.rules.Ready.{is_in_place, first_unready}
use Rattle.journal_model.specs.declared.state.SearchAim.TheVariants.{Asked, Hop}
use Rattle.journal_model.specs.rules.Ready.{has_some_target}
use Rattle.journal_model.specs.rules.Search.{place_search, is_caught}
use Rattle.journal_model.specs.rules.Tasks.{carried, task_of_misplaced, task_of_unready, task_of_failed, gives_back, forbidden, task_of_command, task_of_held, task_of_victim, first_missing, starts}
use Rattle.journal_model.specs.rules.Legal.{Made}
use Rattle.journal_model.specs.rules.Next.{next, step_of_task}
use Rattle.laws.proofs.law_state.Moves.{thread_step}
use Rattle.ttm_base.specs.declared.Actor.TheVariants as actor
use Rattle.journal_model.specs.statements.Causes.{is_out_of_frames, is_older, is_holder, wants_next, in_command, is_no_pages_of, places_sought, search_of, PressedSearch, pressed_by, no_first_had_room, all_went_dry, all_were_dry, is_search_over, is_out_of_space, has_its_cause}
use Rattle.laws.proofs.law_sound.Turns.{Turn, turn_of, lock, give_up}
use Rattle.laws.proofs.law_sound.Gifts.{Gives, task_gives, seeks, fills, backs, exists, no_buffer, no_swap, gives_up, refuses}
use Rattle.laws.proofs.law_sound.Bufs.{same_self, same_is, none_last, last_caught, clash}
use Rattle.laws.specs.law_causes.Explains.{Explains}
use Rattle.laws.proofs.lemma_causes_trail.Found.{Found, dries, place_search_found, Starved, fill_starved}
use Rattle.laws.proofs.lemma_causes_trail.Windows.{Trail}
use Rattle.laws.proofs.lemma_causes_trail.Tasks.{places_of, place_search_places, aim_is_named, Searcher, searcher_of, victims, named_one}
use Rattle.laws.proofs.lemma_causes_trail.Stages.{Stage, calm, pressed, spent, frameless, none_caught_is}
use Rattle.laws.proofs.law_causes.Steps.{places_are}
use Rattle.laws.proofs.law_causes.Carry.{of_search, of_fill}

-- ---- backoffs

backed_off : (o mine : Option Stamp) (st : Stamp) (n : Bool) → o ≡ Some st → elim mine as (λ p. Bool) [ None ↦ false | Some x ↦ nat_lt st.0 x.0 && n ] ≡ true →
    ((n && is_older o mine) && elim o as (λ p. Bool) [ Some holder ↦ holder.0 == st.0 | None ↦ false ]) ≡ true
backed_off None mine st n e h = cc
backed_off (Some x) None st n e h = cc
backed_off (Some x) (Some y) st n e h =
    let it : x ≡ st = cc in
    subst (λ z. ((n && nat_lt z.0 y.0) && (z.0 == st.0)) ≡ true) (sym it) (by (nat_lt st.0 y.0) n (st.0 == st.0) h (same st.0))
  where
    same : (a : ℕ) → (a == a) ≡ true
    same a = grind (arith, nat_tests)

    by : (a b c : Bool) → (a && b) ≡ true → c ≡ true → ((b && a) && c) ≡ true
    by true true c h k = k
    by true false c h k = cc
    by false b c h k = cc

-- ---- what a dry entry says

cause_self : (c : Cause) → same_cause c c ≡ true
cause_self cause.Pinned = refl
cause_self (cause.Reserved a) = same a.0
  where
    same : (n : ℕ) → (n == n) ≡ true
    same n = grind (arith, nat_tests)
cause_self cause.Outside = refl
cause_self cause.Skipped = refl

rows_self : (rows : List CauseRow) → same_rows rows rows ≡ true
rows_self [] = refl
rows_self (x ∷ xs) =
    ap (λ q. q && same_cause x.cause x.cause && same_rows xs xs) (same_self x.b)
    ∙ (ap (λ q. q && same_rows xs xs) (cause_self x.cause) ∙ rows_self xs)

why_self : (w : DryWhy) → same_why w w ≡ true
why_self dry.Short = refl
why_self (dry.Of rows) = rows_self rows

-- ---- a search that has ended

same_as_itself : (ns : List ℕ) → same_numbers ns ns ≡ true
same_as_itself [] = refl
same_as_itself (n ∷ ns) = ap₂ (λ a b. a && b) (same n) (same_as_itself ns)
  where
    same : (a : ℕ) → (a == a) ≡ true
    same a = grind (arith, nat_tests)

module _ (script : Script) (t : ℕ) (b : BufId) (list : List FlaggedPlace) (window : List Made) (r : Trail script t b list (length (forced_places list)) window) where
  -- the search of the trail, with the places of a list
  abbrev search : List FlaggedPlace → PressedSearch
  search l = record { thread = t; b = b; entries = window; start = r.first.before; first = first_places l; forced = forced_places l }

  three : (x y z : Bool) → x ≡ true → y ≡ true → z ≡ true → (x && y && z) ≡ true
  three true true z e f g = g
  three true false z e f g = cc
  three false y z e f g = cc

  pub trail_ends : is_out_of_space script t b window ≡ true
  trail_ends =
      ap (λ o. elim o [ None ↦ false | Some m ↦ is_search_over script (pressed_by script t b window m) ]) r.found
      ∙ (ap (λ l. is_search_over script (search l)) r.same
      ∙ three (no_first_had_room script (search list)) (all_went_dry (search list)) (all_were_dry script (search list))
      r.free (ap (λ l. same_numbers l (count_from 1 (length (forced_places list)) 0)) r.numbers ∙ same_as_itself (count_from 1 (length (forced_places list)) 0)) r.drys)

any_has : (p : BufId → Bool) (bs : List BufId) (b : BufId) → has_buffer bs b ≡ true → p b ≡ true → list_any p bs ≡ true
any_has p [] b h k = cc
any_has p (c ∷ bs) b h k =
    ⊎_elim
    (λ q. or_left (p c) (list_any p bs) (subst (λ z. p z ≡ true) (same_is b c q) k))
    (λ q. or_right (p c) (list_any p bs) (any_has p bs b q k))
    (or_cases (same_buffer b c) (has_buffer bs b) h)

-- ---- which refusals a task can make

-- for lack of room or frames
abbrev pub is_lack : Deny → Bool
is_lack deny.NoSpace = true
is_lack deny.NoPages = true
is_lack _ = false

-- what isn't a search's failure is refused for another cause
abbrev pub is_other : Task → Bool
is_other (task.Refuse d) = not (is_lack d)
is_other _ = true

abbrev is_other_ban : Option Deny → Bool
is_other_ban None = true
is_other_ban (Some d) = not (is_lack d)

forbidden_other : (s : State) (cmd : Command) → is_other_ban (forbidden s cmd) ≡ true
forbidden_other s (command.Pin b) = by ((reservation s b).pins == 255)
  where
    by : (q : Bool) → is_other_ban (if q then Some deny.PinMax else None) ≡ true
    by true = refl
    by false = refl
forbidden_other s (command.Unpin b) = by ((reservation s b).pins == 0)
  where
    by : (q : Bool) → is_other_ban (if q then Some deny.NotPinned else None) ≡ true
    by true = refl
    by false = refl
forbidden_other s (command.Free b) = by (nat_lt 0 (reservation s b).pins)
  where
    by : (q : Bool) → is_other_ban (if q then Some deny.Pinned else None) ≡ true
    by true = refl
    by false = refl
forbidden_other s (command.SwapOut b) = by (nat_lt 0 (reservation s b).pins)
  where
    by : (q : Bool) → is_other_ban (if q then Some deny.Pinned else None) ≡ true
    by true = refl
    by false = refl
forbidden_other s _ = refl

victim_other : (s : State) (v : Victim) → is_other (task_of_victim v (buffer s v.b)) ≡ true
victim_other s v = grind (arith, common_steps, nat_tests)

carried_other : (s : State) (mem : Mem) (b : BufId) → is_other (carried mem b (buffer s b)) ≡ true
carried_other s System b = grind (arith, common_steps)
carried_other s Tt b = grind (arith, common_steps, nat_tests)
carried_other s Vram b = grind (arith, common_steps, nat_tests)

misplaced_other : (s : State) (b : BufId) (g : Reservation) → is_other (task_of_misplaced b g (buffer s b)) ≡ true
misplaced_other s b g = let on : is_other (carried (buffer s b).mem b (buffer s b)) ≡ true = carried_other s (buffer s b).mem b in grind (arith, common_steps)

unready_other : (script : Script) (s : State) (cmd : Command) (b : BufId) → is_other (task_of_unready script s cmd b) ≡ true
unready_other script s cmd b = by (is_in_place script cmd b (buffer s b))
  where
    by : (q : Bool) → is_other (elim q [ true ↦ task.Fill b | false ↦ task_of_misplaced b (reservation s b) (buffer s b) ]) ≡ true
    by true = refl
    by false = misplaced_other s b (reservation s b)

failed_other : (script : Script) (s : State) (cmd : Command) (d : Deny) → is_other (task_of_failed script s cmd d) ≡ true
failed_other script s cmd d = by_buffer (first_unready script s cmd)
  where
    by_gift : (q : Bool) (b : BufId) → is_other (elim q [ true ↦ task.GiveBack b | false ↦ task.GiveUp d ]) ≡ true
    by_gift true b = refl
    by_gift false b = refl

    by_buffer : (o : Option BufId) → is_other (elim o [ Some b ↦ elim (gives_back (buffer s b)) [ true ↦ task.GiveBack b | false ↦ task.GiveUp d ] | None ↦ task.GiveUp d ]) ≡ true
    by_buffer None = refl
    by_buffer (Some b) = by_gift (gives_back (buffer s b)) b

held_other : (script : Script) (s : State) (c : Course) (cmd : Command) → is_other (task_of_held script s c cmd) ≡ true
held_other script s c cmd = by_ban (forbidden s cmd) (forbidden_other s cmd) c.fail (first_unready script s cmd)
  where
    by_ban : (o : Option Deny) → is_other_ban o ≡ true → (f : Option Deny) (u : Option BufId) →
        is_other (elim o [
          | Some d ↦ task.Refuse d
          | None ↦ elim f [
            | Some d ↦ task_of_failed script s cmd d
            | None ↦ elim u [ Some b ↦ task_of_unready script s cmd b | None ↦ task.Act ]
          ]
        ]) ≡ true
    by_ban (Some d) e f u = e
    by_ban None e (Some d) u = failed_other script s cmd d
    by_ban None e None (Some b) = unready_other script s cmd b
    by_ban None e None None = refl

pub command_other : (script : Script) (s : State) (c : Course) (cmd : Command) → is_other (task_of_command script s c cmd) ≡ true
command_other script s c cmd = by_phase c.made (starts c cmd) (first_missing c cmd) (last_of c.caught)
  where
    by_phase : (made began : Bool) (m : Option BufId) (v : Option Victim) →
        is_other (elim made [
          | true ↦ task.Answer
          | false ↦ elim began [
            | true ↦ task.Start
            | false ↦ elim m [
              | Some b ↦ task.Lock b
              | None ↦ elim v [ Some w ↦ task_of_victim w (buffer s w.b) | None ↦ task_of_held script s c cmd ]
            ]
          ]
        ]) ≡ true
    by_phase true began m v = refl
    by_phase false true m v = refl
    by_phase false false (Some b) v = refl
    by_phase false false None (Some w) = victim_other s w
    by_phase false false None None = held_other script s c cmd

-- ---- each cause

-- without a victim for swap, no buffer has a frame to give
abbrev pub NoneGives : State → Type 0
NoneGives s = swap_victim s ≡ None → list_all (λ e. not (has_frame e.1) || not (is_loose (reservation s e.0))) (live_buffers s.core) ≡ true

module _ (script : Script) (s : State) (t : ℕ) (cmd : Command) (at : command_at_work script s t ≡ Some cmd) (j : List Made) where
  abbrev HasCause : Kind → Type 0
  HasCause k = has_its_cause script j s t k ≡ true

  -- the places of the search are those that the entry's state tells
  list_is : (a : BufId) (aim : SearchAim) → Searcher script s (course s t) cmd a aim → places_sought script s t a ≡ (place_search script cmd (course s t) a aim).list
  list_is a aim (victims v on y f g) =
      places_are script s t cmd at a Hop (ap (λ q. if q || has_some_target (buffer s a) then Hop else Asked) (subst (λ z. is_caught (course s t) z ≡ true) (sym f) (last_caught (course s t) v on.last)))
      ∙ sym (place_search_places script cmd (course s t) a aim ∙ ap (places_of script cmd a) g)
  list_is a aim (named_one on fine seek) =
      places_are script s t cmd at a aim (aim_is_named (course s t) a (buffer s a) (none_caught_is (course s t) a (none_last (course s t).caught on.alone)) ∙ seek.aim_is)
      ∙ sym (place_search_places script cmd (course s t) a aim)

  dry_cause : (a : BufId) (aim : SearchAim) (b : BufId) (n : ℕ) (w : DryWhy) → Searcher script s (course s t) cmd a aim → Found script s (course s t) a (place_search script cmd (course s t) a aim) (kind.Dry b n w) → HasCause (kind.Dry b n w)
  dry_cause a aim b n w by (dries place here d y x) =
      ap (λ o. elim o [ None ↦ false | Some place ↦ is_dry script s (course s t).skips b place && same_why w (dry_why script s b place) ])
      (ap (λ l. slice_get (forced_places l) n) (list_is b aim by) ∙ here)
      ∙ ap₂ (λ q r. q && r) d (ap (λ z. same_why z (dry_why script s b place)) y ∙ why_self (dry_why script s b place))

  dry_by : (b : BufId) (n : ℕ) (w : DryWhy) (x : Task) → Turn script s (course s t) cmd x → step_of_task script s (course s t) cmd x ≡ Ok (kind.Dry b n w) → Gives script s (course s t) cmd x (kind.Dry b n w) → HasCause (kind.Dry b n w)
  dry_by b n w x turn step (seeks {b = a} {aim} f) =
      dry_cause a aim b n w (searcher_of script s (course s t) cmd a aim turn) (place_search_found script s (course s t) a (place_search script cmd (course s t) a aim) (kind.Dry b n w) step)
  dry_by b n w x turn step (fills {b = a} f) = absurd (clash (sym (of_fill script s (course s t) cmd a (kind.Dry b n w) f)))

  dry_explains : (a : BufId) (aim : SearchAim) (b : BufId) (n : ℕ) (w : DryWhy) → Searcher script s (course s t) cmd a aim → Found script s (course s t) a (place_search script cmd (course s t) a aim) (kind.Dry b n w) → Explains script s t b n w
  dry_explains a aim b n w by (dries place here d y x) =
      record { place = place; at = ap (λ l. slice_get (forced_places l) n) (list_is b aim by) ∙ here; dry = d; why = y }

  pub explains_by : (b : BufId) (n : ℕ) (w : DryWhy) (x : Task) → Turn script s (course s t) cmd x → step_of_task script s (course s t) cmd x ≡ Ok (kind.Dry b n w) → Gives script s (course s t) cmd x (kind.Dry b n w) → Explains script s t b n w
  explains_by b n w x turn step (seeks {b = a} {aim} f) =
      dry_explains a aim b n w (searcher_of script s (course s t) cmd a aim turn) (place_search_found script s (course s t) a (place_search script cmd (course s t) a aim) (kind.Dry b n w) step)
  explains_by b n w x turn step (fills {b = a} f) = absurd (clash (sym (of_fill script s (course s t) cmd a (kind.Dry b n w) f)))

  wanted : (b : BufId) → first_missing (course s t) cmd ≡ Some b → wants_next script s t b ≡ true
  wanted b f =
      ap (λ o. elim (option_and_then (first_missing (course s t)) o) [ Some c ↦ same_buffer b c | None ↦ false ]) at
      ∙ (ap (λ o. elim o [ Some c ↦ same_buffer b c | None ↦ false ]) f ∙ same_self b)

  backed_by : (b : BufId) (st : Stamp) (x : Task) → Turn script s (course s t) cmd x → Gives script s (course s t) cmd x (kind.Backoff b st) → HasCause (kind.Backoff b st)
  backed_by b st x (lock m n f) (backs l h q) =
      ap (λ w. (w && nat_lt 0 (length (course s t).held) && is_older (reservation s b).holder (course s t).stamp) && is_holder (reservation s b) st) (wanted b f)
      ∙ backed_off (reservation s b).holder (course s t).stamp st (nat_lt 0 (length (course s t).held)) h q
  backed_by b st x turn (seeks {b = a} {aim} f) = absurd (clash (sym (of_search script s (course s t) cmd a aim (kind.Backoff b st) f)))
  backed_by b st x turn (fills {b = a} f) = absurd (clash (sym (of_fill script s (course s t) cmd a (kind.Backoff b st) f)))

  starved_by : NoneGives s → (b : BufId) (x : Task) → step_of_task script s (course s t) cmd x ≡ Ok (kind.NoPages b) → Gives script s (course s t) cmd x (kind.NoPages b) → HasCause (kind.NoPages b)
  starved_by none b x step (seeks {b = a} {aim} f) = absurd (clash (sym (of_search script s (course s t) cmd a aim (kind.NoPages b) f)))
  starved_by none b x step (fills {b = a} f) = by (fill_starved script s a b step)
    where
      three : (x y z w : Bool) → x ≡ true → y ≡ true → (z ≡ true) ⊎ (w ≡ true) → (x && y && (z || w)) ≡ true
      three true true z w e f (inl g) = or_left z w g
      three true true z w e f (inr g) = or_right z w g
      three true false z w e f g = cc
      three false y z w e f g = cc

      by : Starved script s → is_out_of_frames script s ≡ true
      by v =
          three (is_none (free_frame script s.core)) (is_none (ghost_with_frame s)) (is_none (free_slot script s.core)) (list_all (λ e. not (has_frame e.1) || not (is_loose (reservation s e.0))) (live_buffers s.core))
          (ap is_none v.frames) (ap is_none v.ghosts) (⊎_elim (λ e. inl (ap is_none e)) (λ e. inr (none e)) v.slots)

  -- a refusal for lack of room or frames comes from a search's failure
  given_up : (d : Deny) → Turn script s (course s t) cmd (task.GiveUp d) → (course s t).fail ≡ Some d
  given_up d (give_up on l f u) = f

  lack_of : (d : Deny) (x : Task) → Turn script s (course s t) cmd x → is_other x ≡ true → is_lack d ≡ true → Gives script s (course s t) cmd x (kind.Refused d) → (course s t).fail ≡ Some d
  lack_of d x turn other lack (exists e) = absurd (clash (sym lack))
  lack_of d x turn other lack (no_buffer e) = absurd (clash (sym lack))
  lack_of d x turn other lack (no_swap e) = absurd (clash (sym lack))
  lack_of d x turn other lack gives_up = given_up d turn
  lack_of d x turn other lack refuses = absurd (by (is_lack d) other lack)
    where
      by : (q : Bool) → not q ≡ true → q ≡ true → ⊥
      by true e f = cc
      by false e f = cc
  lack_of d x turn other lack (seeks {b = a} {aim} f) = absurd (clash (sym (of_search script s (course s t) cmd a aim (kind.Refused d) f)))
  lack_of d x turn other lack (fills {b = a} f) = absurd (clash (sym (of_fill script s (course s t) cmd a (kind.Refused d) f)))

  two : (d e : Deny) (o : Option Deny) → o ≡ Some d → o ≡ Some e → d ≡ e
  two d e o f g = let it : Some d ≡ Some e = sym f ∙ g in cc

  none_some : (d : Deny) (o : Option Deny) → o ≡ None → o ≡ Some d → ⊥
  none_some d o f g = let it : None ≡ Some d = sym f ∙ g in cc

  no_space_by : (course s t).fail ≡ Some deny.NoSpace → Stage script s j t (course s t) cmd → HasCause (kind.Refused deny.NoSpace)
  no_space_by f (calm h quiet) = absurd (none_some deny.NoSpace (course s t).fail h.2 f)
  no_space_by f (pressed p) = absurd (none_some deny.NoSpace (course s t).fail p.fine f)
  no_space_by f (spent p) =
      ap (λ o. list_any (λ b. is_out_of_space script t b (search_of script t b j)) (unwrap_or (option_map named o) [])) at
      ∙ any_has (λ b. is_out_of_space script t b (search_of script t b j)) (named cmd) p.b p.is_named (trail_ends script t p.b p.list (search_of script t p.b j) p.trail)
  no_space_by f (frameless p) = absurd (by (two deny.NoSpace deny.NoPages (course s t).fail f p.failed))
    where
      by : deny.NoSpace ≡ deny.NoPages → ⊥
      by e = cc

  no_pages_by : (course s t).fail ≡ Some deny.NoPages → Stage script s j t (course s t) cmd → HasCause (kind.Refused deny.NoPages)
  no_pages_by f (calm h quiet) = absurd (none_some deny.NoPages (course s t).fail h.2 f)
  no_pages_by f (pressed p) = absurd (none_some deny.NoPages (course s t).fail p.fine f)
  no_pages_by f (frameless p) = ap (λ o. list_any (λ m. is_no_pages_of (unwrap_or (option_map named o) []) m.entry.kind) (in_command t j)) at ∙ p.said
  no_pages_by f (spent p) = absurd (by (two deny.NoPages deny.NoSpace (course s t).fail f p.failed))
    where
      by : deny.NoPages ≡ deny.NoSpace → ⊥
      by e = cc

  refused_by : (d : Deny) (x : Task) → Turn script s (course s t) cmd x → is_other x ≡ true → Gives script s (course s t) cmd x (kind.Refused d) → Stage script s j t (course s t) cmd → HasCause (kind.Refused d)
  refused_by deny.NoSpace x turn other g stage = no_space_by (lack_of deny.NoSpace x turn other refl g) stage
  refused_by deny.NoPages x turn other g stage = no_pages_by (lack_of deny.NoPages x turn other refl g) stage
  refused_by _ x turn other g stage = refl

  pub own_cause : (x : Task) (k : Kind) → x ≡ task_of_command script s (course s t) cmd → Turn script s (course s t) cmd x → step_of_task script s (course s t) cmd x ≡ Ok k → Gives script s (course s t) cmd x k → NoneGives s → Stage script s j t (course s t) cmd → HasCause k
  own_cause x (kind.Backoff b stamp) is turn step g none stage = backed_by b stamp x turn g
  own_cause x (kind.Dry b k w) is turn step g none stage = dry_by b k w x turn step g
  own_cause x (kind.NoPages b) is turn step g none stage = starved_by none b x step g
  own_cause x (kind.Refused d) is turn step g none stage = refused_by d x turn (subst (λ z. is_other z ≡ true) (sym is) (command_other script s (course s t) cmd)) g stage
  own_cause x _ is turn step g none stage = refl

-- ---- of any state

-- a dry entry names its cause
pub dry_explained : (script : Script) (s : State) (t : ℕ) (b : BufId) (k : ℕ) (w : DryWhy) → next script s (actor.Thread t) ≡ Ok (kind.Dry b k w) → Explains script s t b k w
dry_explained script s t b k w h =
    let st = thread_step script s t (kind.Dry b k w) h in
    explains_by script s t st.cmd st.at_work [] b k w st.task (subst (Turn script s (course s t) st.cmd) (sym st.is_task) (turn_of script s (course s t) st.cmd)) st.step (task_gives script s (course s t) st.cmd st.task (kind.Dry b k w) st.step)
