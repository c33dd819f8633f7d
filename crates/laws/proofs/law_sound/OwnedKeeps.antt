-- Each entry keeps who has what.
use Rattle.std.proofs.Common.{◌≡◌, ℕ, ◌<◌, Bool, true, false, List, [], ◌∷◌, ◌++◌, length, Option, Some, None, IsSome, refl, sym, ◌∙◌, ap, subst, arith, ◌⊎◌, inl, inr, ⊎_elim}
use Rattle.std.specs.Prelude.{slice_set, is_some, is_none, map, if◌then◌else◌, ◌||◌}
use Rattle.std.proofs.lemmas.Bool.{cases_Bool, both_ways}
use Rattle.ttm_base.specs.declared.BufId.{BufId}
use Rattle.ttm_base.specs.declared.Stamp.{Stamp}
use Rattle.ttm_base.specs.declared.Deny.{Deny}
use Rattle.ttm_base.specs.declared.Deny.TheVariants as deny
use Rattle.ttm_base.specs.Placement.{forced_places}
use Rattle.ttm_base.specs.declared.Actor.TheVariants as actor
use Rattle.journal_model.specs.declared.script.Script.{Script}
use Rattle.journal_model.specs.declared.script.Command.{Command}
use Rattle.journal_model.specs.declared.script.Command.TheVariants as command
use Rattle.journal_model.specs.declared.state.State.{State}
use Rattle.journal_model.specs.declared.state.Course.{Course}
use Rattle.journal_model.specs.declared.state.Victim.{Victim}
use Rattle.journal_model.specs.declared.state.Task.{Task}
use Rattle.journal_model.specs.declared.state.Task.TheVariants as task
use Rattle.journal_model.specs.declared.state.SearchAim.{SearchAim}
use Rattle.journal_model.specs.declared.entry.Why.{Why}
use Rattle.journal_model.specs.declared.entry.Why.TheVariants as why
use Rattle.journal_model.specs.declared.entry.Shown.{Shown}
use Rattle.journal_model.specs.declared.entry.Shown.TheVariants as shown
use Rattle.journal_model.specs.declared.entry.Kind.{Kind}
use Rattle.journal_model.specs.declared.entry.Kind.TheVariants as kind
use Rattle.journal_model.specs.rules.State.{course, course_of, reservation, reservation_in, no_reservation, is_live, has_buffer, same_buffer, without_buffer}
use Rattle.journal_model.specs.rules.Commands.{named, command_at_work}
use Rattle.journal_model.specs.rules.Search.{PlaceSearch, is_caught, place_search_at_work}
use Rattle.journal_model.specs.rules.Tasks.{starts, first_missing}
use Rattle.journal_model.specs.rules.Apply.{applied}
use Rattle.journal_model.specs.rules.ApplyCommands.{with_holder, released, on_to_next}
use Rattle.journal_model.specs.rules.PageSteps.{next_job}
use Rattle.journal_model.specs.rules.ApplyJobs.{ops_of}
use Rattle.journal_model.specs.rules.ApplyCommands.{named_in}
use Rattle.journal_model.specs.rules.ApplyPages.{search_over}
use Rattle.journal_model.specs.rules.ApplyVictims.{failed_if, with_fail, with_victim, no_longer_caught, gone_dry, course_after_dry}
use Rattle.laws.specs.law_sound.Sound.{Has, Steady, Owned, command_of, locks}
use Rattle.laws.proofs.law_sound.Turns.{Turn, Works, OnVictim, OnNamed, answer, start, lock, victim_empty, victim_skip, victim_fill, victim_search, refuse, give_up, act, fill_in_place, ask, fill_to_bind, hop_up, fill_to_move, hop_down, OnBuffer}
use Rattle.laws.proofs.law_sound.Gifts.{Gives, SearchOutcome, Filled, answers, makes, exists, shifts, draws, no_buffer, reserves, backs, seeks, binds, unbinds, moves, fills, lets_go, empties, depopulates, untakes, skips, gives_up, refuses, arms, frees, swaps, no_swap, acts, finds, evicts, dries, fresh, again, back, evicts_for_swap, nothing}
use Rattle.laws.proofs.law_sound.Bufs.{victims_of, same_self, same_is, same_or_other, other_is, has_pushed, has_more, has_new, has_without, without_gone, without_kept, names_let_go, names_failed, names_pushed, last_caught, none_last, none_caught, none_missing, clash}
use Rattle.laws.proofs.law_sound.Steadies.{next_course, own_course, locking_command, lock_wants, locks_alone, ticket_steady, reserve_steady, backoff_steady, made_steady, search_steady, dry_steady, fail_steady, catch_steady, loose_steady, next_steady}
use Rattle.laws.proofs.law_sound.Owners.{lets_keeps, gets_keeps, draws_keeps, none_or}
use Rattle.laws.proofs.law_sound.Reservations.{reservation_other, reservation_here, reservation_gone, released_gone, released_other, pins_hold, live_same, live_uses, live_set, live_more, live_within, IsFree, victim_free, swap_free, one_course}

-- a course has the buffer
abbrev pub HasIn : Course → BufId → Type 0
HasIn c b = (has_buffer c.held b ≡ true) ⊎ (is_caught c b ≡ true)

-- nothing is had before and after
pub record SameHad (c c' : Course) : Type 0 where
  pub stamp : c'.stamp ≡ c.stamp
  pub less : (d : BufId) → HasIn c' d → HasIn c d
  pub more : (d : BufId) → HasIn c d → HasIn c' d

module _ (script : Script) (s : State) (t : ℕ) (here : IsSome (course_of s t)) (o : Owned script s) where
  -- the thread's new course
  module _ (k : Kind) (c' : Course) (own : next_course script s t k ≡ c') where
    abbrev s' : State
    s' = applied script s (actor.Thread t) k

    is_own : course (applied script s (actor.Thread t) k) t ≡ c'
    is_own = own_course script s t k here ∙ own

    has_now : (d : BufId) → HasIn c' d → Has (applied script s (actor.Thread t) k) t d
    has_now d h = subst (λ c. HasIn c d) (sym is_own) h

    has_then : (d : BufId) → Has (applied script s (actor.Thread t) k) t d → HasIn c' d
    has_then d h = subst (λ c. HasIn c d) is_own h

    steady_now : Steady script t c' → Steady script t (course (applied script s (actor.Thread t) k) t)
    steady_now ok = subst (Steady script t) (sym is_own) ok

    stamp_now : (course (applied script s (actor.Thread t) k) t).stamp ≡ c'.stamp
    stamp_now = ap (λ c. c.stamp) is_own

    -- nobody gets or loses a buffer
    work : ((d : BufId) → (reservation (applied script s (actor.Thread t) k) d).holder ≡ (reservation s d).holder) → ((d : BufId) → is_live s d ≡ true → is_live (applied script s (actor.Thread t) k) d ≡ true)
        → SameHad (course s t) c' → (applied script s (actor.Thread t) k).last_stamp ≡ s.last_stamp → Steady script t c' → Owned script (applied script s (actor.Thread t) k)
    work holders live had last ok =
        lets_keeps script s (applied script s (actor.Thread t) k) t (one_course script s t k here) o (λ d. false)
        (record {
          lost_had = λ d h. absurd (clash (sym h));
          gone = λ d h. absurd (clash (sym h));
          kept = λ d h. holders d;
          live = λ d h. live d;
          less = λ d h. (had.less d (has_then d h), refl);
          more = λ d h q. has_now d (had.more d h);
          stamp_less = λ st e. sym had.stamp ∙ (sym stamp_now ∙ e);
          stamp_more = λ d h. stamp_now ∙ had.stamp;
          last = last;
        })
        (steady_now ok)

    -- the thread gets a buffer that nobody has
    get : (b : BufId) (st : Stamp) → (course s t).stamp ≡ Some st → is_live s b ≡ true → (reservation s b).holder ≡ None
        → (applied script s (actor.Thread t) k).reservations ≡ slice_set s.reservations b.0 (with_holder (course s t).stamp (reservation s b))
        → ((d : BufId) → is_live (applied script s (actor.Thread t) k) d ≡ is_live s d) → (applied script s (actor.Thread t) k).last_stamp ≡ s.last_stamp
        → c'.stamp ≡ (course s t).stamp → HasIn c' b → ((d : BufId) → HasIn (course s t) d → HasIn c' d) → ((d : BufId) → HasIn c' d → HasIn (course s t) d ⊎ (d ≡ b))
        → Steady script t c' → Owned script (applied script s (actor.Thread t) k)
    get b st stamp alive free reservations live last same mine more less ok =
        gets_keeps script s (applied script s (actor.Thread t) k) t (one_course script s t k here) o b st
        (record {
          stamp = stamp;
          free = free;
          here = alive;
          now = ap (λ gs. (reservation_in gs b).holder) reservations ∙ (ap (λ g. g.holder) (reservation_here s.reservations b (with_holder (course s t).stamp (reservation s b)) (let l = live_within s.core.buffers b.0 alive in let e = o.reservations in omega (arith, l, e))) ∙ stamp);
          kept = λ d n. ap (λ gs. (reservation_in gs d).holder) reservations ∙ ap (λ g. g.holder) (reservation_other s.reservations b d (with_holder (course s t).stamp (reservation s b)) n);
          live = live;
          stamp_same = stamp_now ∙ same;
          gets = has_now b mine;
          more = λ d h. has_now d (more d h);
          less = λ d h. less d (has_then d h);
          last = last;
        })
        (steady_now ok)

    -- the thread lets go one of its buffers
    drop_one : (b : BufId) → HasIn (course s t) b → ((reservation (applied script s (actor.Thread t) k) b).holder ≡ None)
        → ((d : BufId) → (d ≡ b → ⊥) → (reservation (applied script s (actor.Thread t) k) d).holder ≡ (reservation s d).holder)
        → ((d : BufId) → (d ≡ b → ⊥) → is_live s d ≡ true → is_live (applied script s (actor.Thread t) k) d ≡ true)
        → c'.stamp ≡ (course s t).stamp → ((d : BufId) → HasIn c' d → HasIn (course s t) d × (same_buffer b d ≡ false)) → ((d : BufId) → HasIn (course s t) d → (d ≡ b → ⊥) → HasIn c' d)
        → (applied script s (actor.Thread t) k).last_stamp ≡ s.last_stamp → Steady script t c' → Owned script (applied script s (actor.Thread t) k)
    drop_one b mine gone kept live same less more last ok =
        lets_keeps script s (applied script s (actor.Thread t) k) t (one_course script s t k here) o (same_buffer b)
        (record {
          lost_had = λ d h. subst (HasIn (course s t)) (same_is b d h) mine;
          gone = λ d h. subst (λ z. (reservation (applied script s (actor.Thread t) k) z).holder ≡ None) (same_is b d h) gone;
          kept = λ d h. kept d (other d h);
          live = λ d h. live d (other d h);
          less = λ d h. less d (has_then d h);
          more = λ d h q. has_now d (more d h (other d q));
          stamp_less = λ st e. sym same ∙ (sym stamp_now ∙ e);
          stamp_more = λ d h. stamp_now ∙ same;
          last = last;
        })
        (steady_now ok)
      where
        other : (d : BufId) → same_buffer b d ≡ false → d ≡ b → ⊥
        other d h e = both_ways (same_buffer b d) h (subst (λ z. same_buffer b z ≡ true) (sym e) (same_self b))

    -- the thread lets go all that it has
    drop_all : ((d : BufId) → is_caught (course s t) d ≡ true → ⊥) → ((d : BufId) → (reservation (applied script s (actor.Thread t) k) d).holder ≡ (reservation_in (released s.reservations (course s t).held) d).holder)
        → ((d : BufId) → is_live s d ≡ true → is_live (applied script s (actor.Thread t) k) d ≡ true)
        → ((st : Stamp) → c'.stamp ≡ Some st → (course s t).stamp ≡ Some st) → ((d : BufId) → HasIn c' d → ⊥)
        → (applied script s (actor.Thread t) k).last_stamp ≡ s.last_stamp → Steady script t c' → Owned script (applied script s (actor.Thread t) k)
    drop_all alone holders live stamps empty last ok =
        lets_keeps script s (applied script s (actor.Thread t) k) t (one_course script s t k here) o (has_buffer (course s t).held)
        (record {
          lost_had = λ d h. inl h;
          gone = λ d h. holders d ∙ released_gone (course s t).held s.reservations d h;
          kept = λ d h. holders d ∙ ap (λ g. g.holder) (released_other (course s t).held s.reservations d h);
          live = λ d h. live d;
          less = λ d h. absurd (empty d (has_then d h));
          more = λ d h q. absurd (⊎_elim (λ e. both_ways (has_buffer (course s t).held d) q e) (λ e. alone d e) h);
          stamp_less = λ st e. stamps st (sym stamp_now ∙ e);
          stamp_more = λ d h. absurd (empty d (has_then d h));
          last = last;
        })
        (steady_now ok)

-- ---- what is had by changed courses

had_same : (c : Course) → SameHad c c
had_same c = record { stamp = refl; less = λ d h. h; more = λ d h. h }

had_search : (b : BufId) (c : Course) → SameHad c (search_over b c)
had_search b c = by (is_caught c b)
  where
    by : (q : Bool) → SameHad c (if q then c else record c { forced = false; dry = 0 })
    by true = had_same c
    by false = record { stamp = refl; less = λ d h. h; more = λ d h. h }

had_failed : (b : BufId) (d : Deny) (c : Course) → SameHad c (record c { caught = map (failed_if d b) c.caught })
had_failed b d c =
    record {
      stamp = refl;
      less = λ x h. ⊎_elim (λ k. inl k) (λ k. inr (sym (ap (λ bs. has_buffer bs x) (names_failed d b c.caught)) ∙ k)) h;
      more = λ x h. ⊎_elim (λ k. inl k) (λ k. inr (ap (λ bs. has_buffer bs x) (names_failed d b c.caught) ∙ k)) h;
    }

had_fail : (b : BufId) (d : Deny) (c : Course) → SameHad c (with_fail b d c)
had_fail b d c = by (is_caught c b)
  where
    by : (q : Bool) → SameHad c (if q then record c { caught = map (failed_if d b) c.caught } else record c { fail = Some d })
    by true = had_failed b d c
    by false = record { stamp = refl; less = λ x h. h; more = λ x h. h }

had_dry : (script : Script) (s : State) (b : BufId) (k : ℕ) (x : Option Command) (c : Course) → SameHad c (course_after_dry script s b k x c)
had_dry script s b k None c = had_same c
had_dry script s b k (Some cmd) c = by (is_caught c b)
  where
    by : (q : Bool) → SameHad c (if q then with_fail b deny.NoSpace c else gone_dry k (length (forced_places (place_search_at_work script s c cmd b).list)) c)
    by true = had_fail b deny.NoSpace c
    by false = record { stamp = refl; less = λ x h. h; more = λ x h. h }

-- ---- what a search or a fill is at

pub record Seeks (c : Course) (cmd : Command) (b : BufId) : Type 0 where
  pub works : Works c cmd
  pub fine : c.fail ≡ None
  pub alone : is_caught c b ≡ false → c.caught ≡ []

module _ (script : Script) (s : State) (t : ℕ) (cmd : Command) (ok : Steady script t (course s t)) where
  abbrev c : Course
  c = course s t

  of_victim : (v : Victim) → OnVictim (course s t) cmd v → Seeks (course s t) cmd v.b
  of_victim v on =
      let caught = last_caught (course s t) v on.last in
      record { works = on.works; fine = ok.unfailed v.b caught; alone = λ h. absurd (both_ways (is_caught (course s t) v.b) h caught) }

  of_buffer : (b : BufId) → OnBuffer script s (course s t) cmd b → Seeks (course s t) cmd b
  of_buffer b on = record { works = on.named.works; fine = on.fine; alone = λ h. none_last (course s t).caught on.named.alone }

  pub at_search : (b : BufId) (aim : SearchAim) → Turn script s (course s t) cmd (task.Search b aim) → Seeks (course s t) cmd b
  at_search b aim (victim_search v on i f n) = of_victim v on
  at_search b aim (ask on n) = of_buffer b on.on
  at_search b aim (hop_up on n) = of_buffer b on.on.on
  at_search b aim (hop_down on m n) = of_buffer b on.on.on

  pub at_fill : (b : BufId) → Turn script s (course s t) cmd (task.Fill b) → Seeks (course s t) cmd b
  at_fill b (victim_fill v on i f n q) = of_victim v on
  at_fill b (fill_in_place on i) = of_buffer b on
  at_fill b (fill_to_bind on n q) = of_buffer b on.on.on
  at_fill b (fill_to_move on m n q) = of_buffer b on.on.on

-- a victim that is let go
pub record Leaves (c : Course) (cmd : Command) (b : BufId) : Type 0 where
  pub works : Works c cmd
  pub caught : is_caught c b ≡ true

at_empty : (script : Script) (s : State) (c : Course) (cmd : Command) (b : BufId) → Turn script s c cmd (task.Empty b) → Leaves c cmd b
at_empty script s c cmd b (victim_empty v on n e) = record { works = on.works; caught = last_caught c v on.last }

at_skip : (script : Script) (s : State) (c : Course) (cmd : Command) (b : BufId) → Turn script s c cmd (task.Skip b) → Leaves c cmd b
at_skip script s c cmd b (victim_skip v d on i f n) = record { works = on.works; caught = last_caught c v on.last }

at_act : (script : Script) (s : State) (c : Course) (cmd : Command) → Turn script s c cmd task.Act → OnNamed s c cmd
at_act script s c cmd (act on a f u) = on

-- ---- each kind

module _ (script : Script) (s : State) (t : ℕ) (cmd : Command) (here : IsSome (course_of s t)) (at : command_of script t (course s t) ≡ Some cmd) (o : Owned script s) where
  ok : Steady script t (course s t)
  ok = o.steady t

  -- a thread without a stamp has nothing
  pub bare : (course s t).stamp ≡ None → (d : BufId) → HasIn (course s t) d → ⊥
  bare e d h = let w = o.held t d h in none_or (course s t).stamp w.0 e w.3

  -- nor has one whose command locks nothing
  pub unlocked : locks cmd ≡ false → (d : BufId) → HasIn (course s t) d → ⊥
  unlocked l d h =
      let w = o.held t d h in
      let k = ok.at_work w.0 w.3 in
      let it : Some cmd ≡ Some k.0 = sym at ∙ k.1 in
      let same : cmd ≡ k.0 = cc in
      clash (sym (ap locks same ∙ k.2) ∙ l)

  pub unlocked_alone : locks cmd ≡ false → (course s t).caught ≡ []
  unlocked_alone l = by (course s t).caught refl
    where
      by : (vs : List Victim) → (course s t).caught ≡ vs → vs ≡ []
      by [] e = refl
      by (v ∷ vs) e =
          absurd (unlocked l v.b (inr (ap (λ us. has_buffer (victims_of us) v.b) e ∙ first v vs)))
        where
          first : (v : Victim) (vs : List Victim) → has_buffer (victims_of (v ∷ vs)) v.b ≡ true
          first v vs = ap (λ q. q || has_buffer (victims_of vs) v.b) (same_self v.b)

  -- who holds all that it named has a stamp, if it names something
  ticket_keeps : (stamp : Stamp) → s.last_stamp < stamp.0 → locks cmd ≡ true → (course s t).stamp ≡ None → Owned script (applied script s (actor.Thread t) (kind.Ticket stamp))
  ticket_keeps stamp more l e =
      draws_keeps script s (applied script s (actor.Thread t) (kind.Ticket stamp)) t (one_course script s t (kind.Ticket stamp) here) o stamp
      (record {
        next = more;
        empty = bare e;
        empty_now = λ d h. bare e d (subst (λ c. HasIn c d) (own_course script s t (kind.Ticket stamp) here) h);
        same = λ d. refl;
        live = λ d. refl;
        now = ap (λ c. c.stamp) (own_course script s t (kind.Ticket stamp) here);
        last = refl;
      })
      (subst (Steady script t) (sym (own_course script s t (kind.Ticket stamp) here)) (ticket_steady script t (course s t) cmd ok at stamp l (λ b h. bare e b (inr h))))

  -- a course that began has a stamp
  pub has_stamp : locks cmd ≡ true → starts (course s t) cmd ≡ false → (st : Stamp) × ((course s t).stamp ≡ Some st)
  has_stamp l n = by (course s t).stamp refl
    where
      by : (p : Option Stamp) → (course s t).stamp ≡ p → (st : Stamp) × ((course s t).stamp ≡ Some st)
      by (Some st) e = (st, e)
      by None e = absurd (clash (sym (begins cmd l e) ∙ n))
        where
          begins : (x : Command) → locks x ≡ true → (course s t).stamp ≡ None → starts (course s t) x ≡ true
          begins (command.New b) q e = cc
          begins (command.Touch group) q e = cc
          begins cmd q e = ap is_none e

  -- only a command that locks gets beyond its start
  pub begun_locks : starts (course s t) cmd ≡ false → locks cmd ≡ true
  begun_locks n = by cmd n
    where
      by : (x : Command) → starts (course s t) x ≡ false → locks x ≡ true
      by (command.New b) q = cc
      by (command.Touch group) q = cc
      by cmd q = refl

  reserve_keeps : (b : BufId) → (course s t).made ≡ false → starts (course s t) cmd ≡ false → first_missing (course s t) cmd ≡ Some b → is_live s b ≡ true → (reservation s b).holder ≡ None → Owned script (applied script s (actor.Thread t) (kind.Reserve b))
  reserve_keeps b m n f alive free =
      let st = has_stamp (begun_locks n) n in
      get script s t here o (kind.Reserve b) (record (course s t) { held = (course s t).held ++ b ∷ [] }) refl b st.0 st.1 alive free refl (λ d. refl) refl refl (inl (has_new (course s t).held b))
      (λ d h. ⊎_elim (λ k. inl (has_more (course s t).held b d k)) (λ k. inr k) h)
      (λ d h. ⊎_elim (λ k. ⊎_elim (λ q. inl (inl q)) (λ q. inr q) (has_pushed (course s t).held b d k)) (λ k. inl (inr k)) h)
      (reserve_steady script t (course s t) cmd ok at b m n f)

  backoff_keeps : (b : BufId) (st : Stamp) → (course s t).made ≡ false → starts (course s t) cmd ≡ false → first_missing (course s t) cmd ≡ Some b → Owned script (applied script s (actor.Thread t) (kind.Backoff b st))
  backoff_keeps b st m n f =
      drop_all script s t here o (kind.Backoff b st) (record (course s t) { held = []; first = Some b }) refl
      (λ d h. locks_alone script t (course s t) cmd ok at b d (lock_wants (course s t) cmd b m n f) h) (λ d. refl) (λ d h. h) (λ su e. e)
      (λ d h. ⊎_elim (λ k. clash (sym k)) (λ k. locks_alone script t (course s t) cmd ok at b d (lock_wants (course s t) cmd b m n f) k) h)
      refl (backoff_steady script t (course s t) cmd ok at b m n f)

  -- a dead buffer has no holder
  dead_free : (b : BufId) → is_live s b ≡ false → (reservation s b).holder ≡ None
  dead_free b l = by (reservation s b).holder refl
    where
      by : (p : Option Stamp) → (reservation s b).holder ≡ p → p ≡ None
      by None e = refl
      by (Some st) e = let h = o.holder b st e in let w = o.held h.0 b h.2 in absurd (both_ways (is_live s b) l w.1)

  new_keeps : (b : BufId) → (course s t).caught ≡ [] → is_live s b ≡ false → Owned script (applied script s (actor.Thread t) (kind.New b))
  new_keeps b alone dead =
      work script s t here o (kind.New b) (record (course s t) { made = true }) refl
      (λ d. ⊎_elim
      (λ e. subst (λ z. (reservation_in (slice_set s.reservations b.0 no_reservation) z).holder ≡ (reservation s z).holder) (sym e) (reservation_gone s.reservations b no_reservation refl ∙ sym (dead_free b dead)))
      (λ n. ap (λ g. g.holder) (reservation_other s.reservations b d no_reservation n))
      (same_or_other d b))
      (λ d h. live_more s.core.buffers b d _ h)
      (record { stamp = refl; less = λ d h. h; more = λ d h. h }) refl
      (made_steady script t (course s t) cmd ok at (course s t).held alone (λ d h. h))

  made_keeps : (k : Kind) → next_course script s t k ≡ record (course s t) { made = true } → ((d : BufId) → (reservation (applied script s (actor.Thread t) k) d).holder ≡ (reservation s d).holder)
      → ((d : BufId) → is_live s d ≡ true → is_live (applied script s (actor.Thread t) k) d ≡ true) → (applied script s (actor.Thread t) k).last_stamp ≡ s.last_stamp
      → (course s t).caught ≡ [] → Owned script (applied script s (actor.Thread t) k)
  made_keeps k own holders live last alone =
      work script s t here o k (record (course s t) { made = true }) own holders live (record { stamp = refl; less = λ d h. h; more = λ d h. h }) last
      (made_steady script t (course s t) cmd ok at (course s t).held alone (λ d h. h))

  free_keeps : (b : BufId) (g : ℕ) → cmd ≡ command.Free b → OnNamed s (course s t) cmd → Owned script (applied script s (actor.Thread t) (kind.Free b g))
  free_keeps b g is on =
      let alone = none_last (course s t).caught on.alone in
      let mine : has_buffer (course s t).held b ≡ true = none_missing (course s t) cmd b on.works.whole (subst (λ x. has_buffer (named x) b ≡ true) (sym is) (ap (λ q. q || false) (same_self b))) in
      drop_one script s t here o (kind.Free b g) (record (course s t) { held = without_buffer (course s t).held b; made = true }) refl b (inl mine)
      (reservation_gone s.reservations b no_reservation refl)
      (λ d n. ap (λ z. z.holder) (reservation_other s.reservations b d no_reservation n))
      (λ d n h. ap is_some (live_set s.core.buffers b d None n) ∙ h)
      refl
      (λ d h. ⊎_elim
      (λ k. (inl (has_without (course s t).held b d k), ⊎_elim (λ q. absurd (clash (sym (subst (λ z. has_buffer (without_buffer (course s t).held b) z ≡ true) (sym (same_is b d q)) k) ∙ without_gone (course s t).held b))) (λ q. q) (cases_Bool (same_buffer b d))))
      (λ k. absurd (none_caught (course s t) d alone k)) h)
      (λ d h n. ⊎_elim (λ k. inl (without_kept (course s t).held b d n k)) (λ k. inr k) h)
      refl
      (made_steady script t (course s t) cmd ok at (without_buffer (course s t).held b) alone (λ d h. has_without (course s t).held b d h))

  -- the course goes on to the next command
  next_keeps : (k : Kind) → next_course script s t k ≡ on_to_next (course s t) → ((d : BufId) → is_caught (course s t) d ≡ true → ⊥)
      → ((d : BufId) → (reservation (applied script s (actor.Thread t) k) d).holder ≡ (reservation_in (released s.reservations (course s t).held) d).holder)
      → ((d : BufId) → is_live s d ≡ true → is_live (applied script s (actor.Thread t) k) d ≡ true) → (applied script s (actor.Thread t) k).last_stamp ≡ s.last_stamp → Owned script (applied script s (actor.Thread t) k)
  next_keeps k own alone holders live last =
      drop_all script s t here o k (on_to_next (course s t)) own alone holders live
      (λ st e. absurd (none_or None st refl e)) (λ d h. ⊎_elim (λ q. clash (sym q)) (λ q. clash (sym q)) h) last (next_steady script t (course s t) cmd at)

  result_keeps : (r : Shown) → ((d : BufId) → is_caught (course s t) d ≡ true → ⊥) → Owned script (applied script s (actor.Thread t) (kind.Result r))
  result_keeps r alone = next_keeps (kind.Result r) refl alone (λ d. pins_hold (command_at_work script s t) (released s.reservations (course s t).held) d) (λ d h. h) refl

  refused_keeps : (d : Deny) → ((b : BufId) → is_caught (course s t) b ≡ true → ⊥) → Owned script (applied script s (actor.Thread t) (kind.Refused d))
  refused_keeps d alone = next_keeps (kind.Refused d) refl alone (λ b. refl) (λ b h. h) refl

  loose_keeps : (k : Kind) (b : BufId) (passed : List BufId) → Leaves (course s t) cmd b → next_course script s t k ≡ record (no_longer_caught b (course s t)) { skips = passed }
      → (applied script s (actor.Thread t) k).reservations ≡ slice_set s.reservations b.0 (with_holder None (reservation s b)) → ((d : BufId) → is_live s d ≡ true → is_live (applied script s (actor.Thread t) k) d ≡ true)
      → (applied script s (actor.Thread t) k).last_stamp ≡ s.last_stamp → Owned script (applied script s (actor.Thread t) k)
  loose_keeps k b passed leaves own reservations live last =
      drop_one script s t here o k (record (no_longer_caught b (course s t)) { skips = passed }) own b (inr leaves.caught)
      (ap (λ gs. (reservation_in gs b).holder) reservations ∙ reservation_gone s.reservations b (with_holder None (reservation s b)) refl)
      (λ d n. ap (λ gs. (reservation_in gs d).holder) reservations ∙ ap (λ z. z.holder) (reservation_other s.reservations b d (with_holder None (reservation s b)) n))
      (λ d n h. live d h)
      refl less
      (λ d h n. ⊎_elim (λ q. inl q) (λ q. inr (ap (λ bs. has_buffer bs d) (names_let_go b (course s t).caught) ∙ without_kept (victims_of (course s t).caught) b d n q)) h)
      last
      (loose_steady script t (course s t) cmd ok at b passed leaves.works)
    where
      less : (d : BufId) → HasIn (record (no_longer_caught b (course s t)) { skips = passed }) d → HasIn (course s t) d × (same_buffer b d ≡ false)
      less d (inl q) = (inl q, other_is b d (λ e. clash (sym (subst (λ z. has_buffer (course s t).held z ≡ true) (sym e) q) ∙ ok.apart b leaves.caught)))
      less d (inr q) =
          let w : has_buffer (without_buffer (victims_of (course s t).caught) b) d ≡ true = sym (ap (λ bs. has_buffer bs d) (names_let_go b (course s t).caught)) ∙ q in
          (inr (has_without (victims_of (course s t).caught) b d w), other_is b d (λ e. clash (sym (subst (λ z. has_buffer (without_buffer (victims_of (course s t).caught) b) z ≡ true) (sym e) w) ∙ without_gone (victims_of (course s t).caught) b)))

  catch_keeps : (b : BufId) (w : Why) → Works (course s t) cmd → (course s t).fail ≡ None → IsFree s b → Owned script (applied script s (actor.Thread t) (kind.Catch b w))
  catch_keeps b w works fine free =
      let st = has_stamp (begun_locks works.begun) works.begun in
      get script s t here o (kind.Catch b w) (with_victim b w (course s t)) refl b st.0 st.1 free.live free.free refl (λ d. live_same _ s.core.buffers b d) refl refl
      (inr (ap (λ bs. has_buffer bs b) (names_pushed (course s t).caught _) ∙ has_new (victims_of (course s t).caught) b))
      (λ d h. ⊎_elim (λ k. inl k) (λ k. inr (ap (λ bs. has_buffer bs d) (names_pushed (course s t).caught _) ∙ has_more (victims_of (course s t).caught) b d k)) h)
      (λ d h. ⊎_elim (λ k. inl (inl k)) (λ k. ⊎_elim (λ q. inl (inr q)) (λ q. inr q) (has_pushed (victims_of (course s t).caught) b d (sym (ap (λ bs. has_buffer bs d) (names_pushed (course s t).caught _)) ∙ k))) h)
      (catch_steady script t (course s t) cmd ok at b w works fine (not_held (has_buffer (course s t).held b) refl))
    where
      not_held : (q : Bool) → has_buffer (course s t).held b ≡ q → q ≡ false
      not_held false e = refl
      not_held true e = let h = o.held t b (inl e) in absurd (none_or (reservation s b).holder h.0 free.free h.2)

  -- a change of one buffer, or none, and no course
  plain_keeps : (k : Kind) → next_course script s t k ≡ course s t → ((d : BufId) → (reservation (applied script s (actor.Thread t) k) d).holder ≡ (reservation s d).holder)
      → ((d : BufId) → is_live s d ≡ true → is_live (applied script s (actor.Thread t) k) d ≡ true) → (applied script s (actor.Thread t) k).last_stamp ≡ s.last_stamp → Owned script (applied script s (actor.Thread t) k)
  plain_keeps k own holders live last = work script s t here o k (course s t) own holders live (had_same (course s t)) last ok

  sought_keeps : (b : BufId) (aim : SearchAim) (q : PlaceSearch) (k : Kind) → Seeks (course s t) cmd b → SearchOutcome script s (course s t) b q k → Owned script (applied script s (actor.Thread t) k)
  sought_keeps b aim q k sk (finds place {mem} {spans} w m h) =
      work script s t here o (kind.Take b mem spans) (search_over b (course s t)) refl (λ d. refl) (λ d l. live_same _ s.core.buffers b d ∙ l) (had_search b (course s t)) refl
      (search_steady script t (course s t) cmd ok at b)
  sought_keeps b aim q k sk (evicts place {v} {w} a n e h) = catch_keeps v w sk.works sk.fine (victim_free script s (course s t).skips place v h)
  sought_keeps b aim q k sk (dries place {w} a n) =
      work script s t here o (kind.Dry b q.dry w) (course_after_dry script s b q.dry (command_at_work script s t) (course s t)) refl (λ d. refl) (λ d l. l)
      (had_dry script s b q.dry (command_at_work script s t) (course s t)) refl
      (dry_steady script t (course s t) cmd ok at s b q.dry sk.works sk.alone (command_at_work script s t))

  filled_keeps : (b : BufId) (k : Kind) → Seeks (course s t) cmd b → Filled script s b k → Owned script (applied script s (actor.Thread t) k)
  filled_keeps b k sk (fresh {frame} f l) = plain_keeps (kind.Populate b _ frame) refl (λ d. refl) (λ d h. live_same _ s.core.buffers b d ∙ h) refl
  filled_keeps b k sk (again {frame} f l) = plain_keeps (kind.Populate b _ frame) refl (λ d. refl) (λ d h. live_same _ s.core.buffers b d ∙ h) refl
  filled_keeps b k sk (back {slot} {frame} f l) = plain_keeps (kind.SwapIn b _ slot frame) refl (λ d. refl) (λ d h. live_same _ s.core.buffers b d ∙ h) refl
  filled_keeps b k sk (evicts_for_swap {slot} {v} f e) = catch_keeps v why.Swap sk.works sk.fine (swap_free s v e)
  filled_keeps b k sk (nothing f) =
      work script s t here o (kind.NoPages b) (with_fail b deny.NoPages (course s t)) refl (λ d. refl) (λ d h. h) (had_fail b deny.NoPages (course s t)) refl
      (fail_steady script t (course s t) cmd ok at b deny.NoPages sk.works sk.alone)

  pub turn_keeps : (x : Task) (k : Kind) → Turn script s (course s t) cmd x → Gives script s (course s t) cmd x k → Owned script (applied script s (actor.Thread t) k)
  turn_keeps x k (answer m) answers = result_keeps shown.Plain (λ d h. none_caught (course s t) d (ok.finished m) h)
  turn_keeps x k (start m q) (makes {b} e l) = new_keeps b (unlocked_alone (ap locks e)) l
  turn_keeps x k (start m q) (exists e) = refused_keeps deny.Exists (λ d h. none_caught (course s t) d (unlocked_alone (ap locks e)) h)
  turn_keeps x k (start m q) (shifts {group} e) = made_keeps (kind.Bulk group) refl (λ d. refl) (λ d h. h) refl (unlocked_alone (ap locks e))
  turn_keeps x k (start m q) (draws l) = ticket_keeps _ (omega arith) l (locking_command (course s t) cmd q l)
  turn_keeps x k (lock m n f) (no_buffer {b} l) = refused_keeps deny.NoBuffer (λ d h. locks_alone script t (course s t) cmd ok at b d (lock_wants (course s t) cmd b m n f) h)
  turn_keeps x k (lock m n f) (reserves {b} l h) = reserve_keeps b m n f l h
  turn_keeps x k (lock m n f) (backs {b} {st} l h q) = backoff_keeps b st m n f
  turn_keeps x k turn (seeks {b} {aim} sought) = sought_keeps b aim _ k (at_search script s t cmd ok b aim turn) sought
  turn_keeps x k turn (binds {b}) = plain_keeps (kind.Bind b) refl (λ d. refl) (λ d h. live_same _ s.core.buffers b d ∙ h) refl
  turn_keeps x k turn (unbinds {b} i) = plain_keeps (kind.Unbind b) refl (λ d. refl) (λ d h. live_same _ s.core.buffers b d ∙ h) refl
  turn_keeps x k turn (moves {b} {mem}) = plain_keeps (kind.Move b mem _ _) refl (λ d. refl) (λ d h. live_same _ s.core.buffers b d ∙ h) refl
  turn_keeps x k turn (fills {b} filled) = filled_keeps b k (at_fill script s t cmd ok b turn) filled
  turn_keeps x k turn (lets_go {b}) = loose_keeps (kind.Loose b) b (course s t).skips (at_empty script s (course s t) cmd b turn) refl refl (λ d h. h) refl
  turn_keeps x k turn (empties {b} {slot} w f e) = plain_keeps (kind.SwapOut b _ slot) refl (λ d. refl) (λ d h. live_same _ s.core.buffers b d ∙ h) refl
  turn_keeps x k turn (depopulates {b} m f) = plain_keeps (kind.Depopulate b) refl (λ d. refl) (λ d h. live_same _ s.core.buffers b d ∙ h) refl
  turn_keeps x k turn (untakes {b} n) = plain_keeps (kind.Untake b _) refl (λ d. refl) (λ d h. live_same _ s.core.buffers b d ∙ h) refl
  turn_keeps x k turn (skips {b}) = loose_keeps (kind.Skip b) b ((course s t).skips ++ b ∷ []) (at_skip script s (course s t) cmd b turn) refl refl (λ d h. h) refl
  turn_keeps x k (give_up on a f u) (gives_up {d}) = refused_keeps d (λ d h. none_caught (course s t) d (none_last (course s t).caught on.alone) h)
  turn_keeps x k (refuse on r) (refuses {d}) = refused_keeps d (λ d h. none_caught (course s t) d (none_last (course s t).caught on.alone) h)
  turn_keeps x k (act on a f u) (arms {engine} ops e) = made_keeps (kind.Arm engine _) refl (λ d. refl) (λ d h. live_uses (record { ctx = engine; num = next_job s engine }) (ops_of (command_at_work script s t)) s.core.buffers (named_in (command_at_work script s t)) d ∙ h) refl (none_last (course s t).caught on.alone)
  turn_keeps x k (act on a f u) (frees {b} {g} e q) = free_keeps b g e on
  turn_keeps x k (act on a f u) (swaps {b} {slot} e q r) = plain_keeps (kind.SwapOut b _ slot) refl (λ d. refl) (λ d h. live_same _ s.core.buffers b d ∙ h) refl
  turn_keeps x k (act on a f u) (no_swap e) = refused_keeps deny.NoSwap (λ d h. none_caught (course s t) d (none_last (course s t).caught on.alone) h)
  turn_keeps x k (act on a f u) (acts {r}) = result_keeps r (λ d h. none_caught (course s t) d (none_last (course s t).caught on.alone) h)
