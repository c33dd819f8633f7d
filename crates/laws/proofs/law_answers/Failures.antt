-- A command whose search has failed has a buffer that isn't ready, until it is refused.
use Rattle.std.proofs.Common.{◌≡◌, ℕ, Bool, true, false, List, length, Option, Some, None, IsSome, refl, sym, ◌∙◌, ap, ap₂, subst, inl, ⊎_elim}
use Rattle.std.specs.Prelude.{slice_get, map, unwrap_or, not, ◌||◌, ◌&&◌, if◌then◌else◌}
use Rattle.std.proofs.lemmas.Bool.{and_parts, or_cases, not-true, false_from_ne_true}
use Rattle.ttm_base.specs.Reach.{same_mem}
use Rattle.ttm_base.specs.Placement.{forced_places}
use Rattle.ttm_base.specs.declared.Mem.{Mem}
use Rattle.ttm_base.specs.declared.Mem.TheVariants.{System, Tt, Vram}
use Rattle.ttm_base.specs.declared.BufId.{BufId}
use Rattle.ttm_base.specs.declared.Deny.{Deny}
use Rattle.ttm_base.specs.declared.Deny.TheVariants as deny
use Rattle.ttm_base.specs.declared.JobId.{JobId}
use Rattle.ttm_base.specs.declared.Span.{Span}
use Rattle.ttm_base.specs.declared.Loc.{Loc}
use Rattle.ttm_base.specs.declared.Loc.TheVariants as loc
use Rattle.journal_model.specs.declared.script.Script.{Script}
use Rattle.journal_model.specs.declared.script.Command.{Command}
use Rattle.journal_model.specs.declared.entry.Kind.{Kind}
use Rattle.journal_model.specs.declared.entry.Kind.TheVariants as kind
use Rattle.journal_model.specs.declared.entry.Why.{Why}
use Rattle.journal_model.specs.declared.entry.DryWhy.{DryWhy}
use Rattle.journal_model.specs.declared.entry.Left.{Left}
use Rattle.journal_model.specs.declared.entry.Why.TheVariants as why
use Rattle.journal_model.specs.declared.state.SearchAim.{SearchAim}
use Rattle.journal_model.specs.declared.state.State.{State}
use Rattle.journal_model.specs.declared.state.Course.{Course}
use Rattle.journal_model.specs.declared.state.Buffer.{Buffer}
use Rattle.journal_model.specs.declared.state.Victim.{Victim}
use Rattle.journal_model.specs.declared.state.Task.{Task}
use Rattle.journal_model.specs.declared.state.Task.TheVariants as task
use Rattle.journal_model.specs.rules.State.{new_buffer, buffer, reservation, course, course_of, changed, live_in, has_target, same_buffer, has_buffer, without_buffer}
use Rattle.journal_model.specs.rules.Commands.{named, commands_of, command_at_work}
use Rattle.journal_model.specs.rules.Dry.{has_frame}
use Rattle.journal_model.specs.rules.Ready.{has_all_frames, has_some_target, is_in_place, is_ready, is_filled, uses_bytes, meets, first_unready}
use Rattle.journal_model.specs.rules.Search.{is_caught, place_search, place_search_at_work}
use Rattle.journal_model.specs.rules.Tasks.{starts, first_missing, gives_back}
use Rattle.journal_model.specs.rules.PageSteps.{target_to_untake, next_job}
use Rattle.journal_model.specs.rules.ApplyCommands.{named_in, on_to_next}
use Rattle.journal_model.specs.rules.ApplyJobs.{ops_of}
use Rattle.journal_model.specs.rules.ApplyPages.{with_spans, with_loc, without_frames, bound, unbound, search_over}
use Rattle.journal_model.specs.rules.ApplyMoves.{moved}
use Rattle.journal_model.specs.rules.ApplyVictims.{failed_if, with_fail, with_victim, gone_dry, course_after_dry}
use Rattle.laws.specs.law_sound.Sound.{Carried, Fits, command_of, locks, system_tt, system_vram, system_both, tt_system, tt_tt, tt_vram, vram_vram, vram_tt, vram_system, vram_both}
use Rattle.laws.proofs.law_sound.Turns.{Turn, Works, OnVictim, OnBuffer, OnCarried, start, lock, victim_unbind, victim_empty, victim_give, victim_skip, victim_move, victim_fill, victim_search, give, act, fill_in_place, ask, bind, fill_to_bind, hop_up, unbind, move_up, move_across, move_down, fill_to_move, hop_down}
use Rattle.laws.proofs.law_sound.Gifts.{Gives, SearchOutcome, Filled, answers, makes, shifts, draws, reserves, backs, seeks, binds, unbinds, moves, fills, lets_go, empties, depopulates, untakes, skips, arms, frees, swaps, finds, evicts, dries, fresh, again, back, evicts_for_swap, nothing}
use Rattle.laws.proofs.law_sound.Bufs.{same_or_other, other_is, has_found, found_passes, has_pushed, has_without, without_gone, last_caught, none_missing, clash}
use Rattle.laws.proofs.law_sound.Steadies.{next_course, locking_command}
use Rattle.laws.proofs.law_sound.Owners.{none_or}
use Rattle.laws.proofs.law_sound.Reservations.{live_set, victim_free, swap_free}
use Rattle.laws.proofs.law_sound.OwnedKeeps.{bare, unlocked}
use Rattle.laws.proofs.lemma_end_measure.Frame.{untouched}
use Rattle.laws.proofs.lemma_end_measure.Giving.{changed_here}
use Rattle.laws.proofs.lemma_end_measure.Border.{Known}
use Rattle.laws.proofs.lemma_end_measure.Parts.{after}
use Rattle.laws.proofs.lemma_end_ways.Rows.{meets_alike, some_is}
use Rattle.laws.proofs.lemma_end_ways.Carries.{live_is}
use Rattle.laws.proofs.lemma_end_ways.Takes.{taken, taken_body}
use Rattle.laws.proofs.lemma_end_ways.OnWays.{Carrying, SameLock, lock_same, works_alike, search_lock, fail_lock, dry_lock}
use Rattle.laws.proofs.lemma_end_ways.Keeps.{targets_changed, targets_used}
use Rattle.laws.proofs.law_answers.Frames.{AreFull}

-- a held buffer with targets stands where the command doesn't want it; or it is half way, and its search won't fail any more
pub data IsAway (script : Script) (c : Course) (cmd : Command) (b : BufId) (x : Buffer) : Type 0 where
  half_way : c.fail ≡ None → x.mem ≡ Tt → IsAway script c cmd b x
  on_its_way_back : c.fail ≡ None → x.mem ≡ System → has_target Tt x ≡ true → has_all_frames x ≡ true → IsAway script c cmd b x
  unmet : meets script cmd b x ≡ false → IsAway script c cmd b x

-- a buffer of the command isn't ready
pub record HasUnready (script : Script) (s : State) (c : Course) (cmd : Command) : Type 0 where
  pub works : Works c cmd
  pub b : BufId
  pub member : has_buffer (named cmd) b ≡ true
  pub unready : is_ready script s cmd b ≡ false

-- what is known of a thread at a command
pub record Fares (script : Script) (s : State) (c : Course) (cmd : Command) : Type 0 where
  pub away : (b : BufId) → has_buffer c.held b ≡ true → has_some_target (buffer s b) ≡ true → IsAway script c cmd b (buffer s b)
  pub failed : (d : Deny) → c.fail ≡ Some d → HasUnready script s c cmd

-- ---- of one buffer

none_fails : (o : Option Deny) (d : Deny) → o ≡ None → o ≡ Some d → ⊥
none_fails o d e f = some d (sym e ∙ f)
  where
    some : (d : Deny) → None ≡ Some d → ⊥
    some d e = cc

away_alike : (script : Script) (c c' : Course) (cmd : Command) (b : BufId) (x : Buffer) → c'.fail ≡ c.fail → IsAway script c cmd b x → IsAway script c' cmd b x
away_alike script c c' cmd b x e (half_way f m) = half_way (e ∙ f) m
away_alike script c c' cmd b x e (on_its_way_back f m q a) = on_its_way_back (e ∙ f) m q a
away_alike script c c' cmd b x e (unmet r) = unmet r

-- elsewhere than half way
vram_unmet : (script : Script) (c : Course) (cmd : Command) (b : BufId) (x : Buffer) → x.mem ≡ Vram → IsAway script c cmd b x → meets script cmd b x ≡ false
vram_unmet script c cmd b x v (half_way f m) = absurd (let z : Vram ≡ Tt = sym v ∙ m in cc)
vram_unmet script c cmd b x v (on_its_way_back f m q a) = absurd (let z : Vram ≡ System = sym v ∙ m in cc)
vram_unmet script c cmd b x v (unmet r) = r

system_unmet : (script : Script) (c : Course) (cmd : Command) (b : BufId) (x : Buffer) → x.mem ≡ System → (has_target Tt x ≡ true → has_all_frames x ≡ true → ⊥) → IsAway script c cmd b x → meets script cmd b x ≡ false
system_unmet script c cmd b x v n (half_way f m) = absurd (let z : System ≡ Tt = sym v ∙ m in cc)
system_unmet script c cmd b x v n (on_its_way_back f m q a) = absurd (n q a)
system_unmet script c cmd b x v n (unmet r) = r

failed_unmet : (script : Script) (c : Course) (cmd : Command) (b : BufId) (x : Buffer) (d : Deny) → c.fail ≡ Some d → IsAway script c cmd b x → meets script cmd b x ≡ false
failed_unmet script c cmd b x d e (half_way f m) = absurd (none_fails c.fail d f e)
failed_unmet script c cmd b x d e (on_its_way_back f m q a) = absurd (none_fails c.fail d f e)
failed_unmet script c cmd b x d e (unmet r) = r

-- out of place and without targets
misplaced_unmet : (script : Script) (cmd : Command) (b : BufId) (x : Buffer) → is_in_place script cmd b x ≡ false → has_some_target x ≡ false → meets script cmd b x ≡ false
misplaced_unmet script cmd b x h n = sym (ap (λ q. not q && meets script cmd b x) n) ∙ h

-- out of place
unmet_unready : (script : Script) (cmd : Command) (b : BufId) (x : Buffer) → meets script cmd b x ≡ false → (is_in_place script cmd b x && is_filled cmd x) ≡ false
unmet_unready script cmd b x h = by (not (has_some_target x)) (meets script cmd b x) h
  where
    by : (p q : Bool) → q ≡ false → ((p && q) && is_filled cmd x) ≡ false
    by true true e = cc
    by true false e = refl
    by false q e = refl

-- with no frames any more
emptied_unready : (script : Script) (cmd : Command) (b : BufId) (x : Buffer) → x.mem ≡ Vram → (is_in_place script cmd b x && is_filled cmd x) ≡ false → (is_in_place script cmd b (without_frames x) && is_filled cmd (without_frames x)) ≡ false
emptied_unready script cmd b x v h =
    ap (λ q. (not (has_some_target x) && q) && is_filled cmd (without_frames x)) (meets_alike script cmd b (without_frames x) x refl refl)
    ∙ by (is_in_place script cmd b x) (is_filled cmd x) (filled x v) h
  where
    in_vram : (p q : Bool) (m : Mem) → m ≡ Vram → ((p || not (same_mem m System)) || q) ≡ true
    in_vram true q m e = refl
    in_vram false q Vram e = refl
    in_vram false q Tt e = refl
    in_vram false q System e = cc

    filled : (y : Buffer) → y.mem ≡ Vram → is_filled cmd y ≡ true
    filled y e = in_vram (not (uses_bytes cmd)) (has_all_frames y) y.mem e

    by : (p q : Bool) → q ≡ true → (p && q) ≡ false → (p && is_filled cmd (without_frames x)) ≡ false
    by true true e f = cc
    by true false e f = cc
    by false q e f = refl

-- ---- memory types and options told apart

some_alone : {X : Type 0} (x y : X) → Some x ≡ Some y → x ≡ y
some_alone x y e = cc

some_none : {X : Type 0} (x : X) → Some x ≡ None → ⊥
some_none x e = cc

system-not-tt : System ≡ Tt → ⊥
system-not-tt e = cc

system-not-vram : System ≡ Vram → ⊥
system-not-vram e = cc

tt-not-vram : Tt ≡ Vram → ⊥
tt-not-vram e = cc

vram-not-tt : Vram ≡ Tt → ⊥
vram-not-tt e = cc

-- ---- of a thread

module _ (script : Script) (s : State) (t : ℕ) (cmd : Command) (here : IsSome (course_of s t)) (at : command_of script t (course s t) ≡ Some cmd) (at_work : command_at_work script s t ≡ Some cmd) (known : Known script s) (carrying : Carrying script s)
    (full : AreFull s.core.buffers) (ready_clear : first_unready script s cmd ≡ None → (d : BufId) → has_buffer (course s t).held d ≡ true → has_some_target (buffer s d) ≡ false) (fares : Fares script s (course s t) cmd) where
  abbrev Goes : Kind → Course → Type 0
  Goes k c = (x : Command) → command_of script t c ≡ Some x → Fares script (after script s t k) c x

  same_command : (c : Course) (x : Command) → c.answered ≡ (course s t).answered → command_of script t c ≡ Some x → cmd ≡ x
  same_command c x l e = some_alone cmd x (sym (ap (slice_get (commands_of script t)) l ∙ at) ∙ e)

  goes_empty : (k : Kind) → Goes k (on_to_next (course s t))
  goes_empty k x e = record { away = λ b h some. absurd (clash (sym h)); failed = λ d f. absurd (none_fails (on_to_next (course s t)).fail d refl f) }

  -- nothing held has targets, and nothing has failed
  goes_clear : (k : Kind) (c : Course) → ((d : BufId) → has_buffer c.held d ≡ true → has_some_target (buffer (after script s t k) d) ≡ false) → ((d : Deny) → c.fail ≡ Some d → ⊥) → Goes k c
  goes_clear k c none fine x e = record { away = λ b h some. absurd (clash (sym some ∙ none b h)); failed = λ d f. absurd (fine d f) }

  -- a command that starts or locks hasn't failed
  not_begun : starts (course s t) cmd ≡ true → (d : Deny) → (course s t).fail ≡ Some d → ⊥
  not_begun q d f = clash (sym q ∙ (fares.failed d f).works.begun)

  not_whole : (b : BufId) → first_missing (course s t) cmd ≡ Some b → (d : Deny) → (course s t).fail ≡ Some d → ⊥
  not_whole b q d f = some_none b (sym q ∙ (fares.failed d f).works.whole)

  fine : (course s t).fail ≡ None → (d : Deny) → (course s t).fail ≡ Some d → ⊥
  fine e d f = none_fails (course s t).fail d e f

  same_live : (k : Kind) (d : BufId) → live_in (after script s t k).core.buffers d ≡ live_in s.core.buffers d → buffer (after script s t k) d ≡ buffer s d
  same_live k d e = ap (λ o. unwrap_or o (new_buffer 0)) e

  still_unready : (z : State) (c : Course) (b : BufId) → SameLock (course s t) c → Works (course s t) cmd → has_buffer (named cmd) b ≡ true → is_ready script z cmd b ≡ false → HasUnready script z c cmd
  still_unready z c b l works member unready = record { works = works_alike (course s t) c cmd l works; b = b; member = member; unready = unready }

  -- the buffers that it holds stay, and it fails no more than before
  goes_same : (k : Kind) (c : Course) → SameLock (course s t) c → c.fail ≡ (course s t).fail → ((d : BufId) → has_buffer (course s t).held d ≡ true → buffer (after script s t k) d ≡ buffer s d) → Goes k c
  goes_same k c l fails same x e =
      subst (Fares script (after script s t k) c) (same_command c x l.answered e)
      (record {
        away = λ b h some.
            let held = subst (λ bs. has_buffer bs b ≡ true) l.held h in
            subst (IsAway script c cmd b) (sym (same b held))
            (away_alike script (course s t) c cmd b (buffer s b) fails (fares.away b held (subst (λ y. has_some_target y ≡ true) (same b held) some)));
        failed = λ d f.
            let was = fares.failed d (sym fails ∙ f) in
            still_unready (after script s t k) c was.b l was.works was.member
            (ap (λ y. is_in_place script cmd was.b y && is_filled cmd y) (same was.b (none_missing (course s t) cmd was.b was.works.whole was.member)) ∙ was.unready);
      })

  -- ---- the first that isn't ready has changed

  held_first : (b : BufId) → Works (course s t) cmd → first_unready script s cmd ≡ Some b → has_buffer (course s t).held b ≡ true
  held_first b works u = none_missing (course s t) cmd b works.whole (has_found (λ d. not (is_ready script s cmd d)) (named cmd) b u)

  is_member_first : (b : BufId) → first_unready script s cmd ≡ Some b → has_buffer (named cmd) b ≡ true
  is_member_first b u = has_found (λ d. not (is_ready script s cmd d)) (named cmd) b u

  is_unready : (b : BufId) → first_unready script s cmd ≡ Some b → is_ready script s cmd b ≡ false
  is_unready b u = not-true (is_ready script s cmd b) (found_passes (λ d. not (is_ready script s cmd d)) (named cmd) b u)

  -- what is held and has targets is that one
  only_first : (b d : BufId) → first_unready script s cmd ≡ Some b → has_buffer (course s t).held d ≡ true → has_some_target (buffer s d) ≡ true → d ≡ b
  only_first b d u h some = let w = carrying.carried t cmd d at h some in some_alone d b (sym w.first ∙ u)

  goes_first : (k : Kind) (c : Course) (b : BufId) → SameLock (course s t) c → first_unready script s cmd ≡ Some b → ((d : BufId) → same_buffer b d ≡ false → buffer (after script s t k) d ≡ buffer s d)
      → (has_some_target (buffer (after script s t k) b) ≡ true → IsAway script c cmd b (buffer (after script s t k) b)) → ((d : Deny) → c.fail ≡ Some d → HasUnready script (after script s t k) c cmd) → Goes k c
  goes_first k c b l u others now fails x e =
      subst (Fares script (after script s t k) c) (same_command c x l.answered e)
      (record {
        away = λ d h some. ⊎_elim (λ q. it d q some) (λ n. absurd (n (other d n (subst (λ bs. has_buffer bs d ≡ true) l.held h) some))) (same_or_other d b);
        failed = fails;
      })
    where
      it : (d : BufId) → d ≡ b → has_some_target (buffer (after script s t k) d) ≡ true → IsAway script c cmd d (buffer (after script s t k) d)
      it d q some = subst (λ z. IsAway script c cmd z (buffer (after script s t k) z)) (sym q) (now (subst (λ z. has_some_target (buffer (after script s t k) z) ≡ true) q some))

      other : (d : BufId) → (d ≡ b → ⊥) → has_buffer (course s t).held d ≡ true → has_some_target (buffer (after script s t k) d) ≡ true → d ≡ b
      other d n h some = only_first b d u h (subst (λ y. has_some_target y ≡ true) (others d (other_is b d (λ q. n (sym q)))) some)

  -- and its search hasn't failed
  goes_on : (k : Kind) (c : Course) (b : BufId) → SameLock (course s t) c → c.fail ≡ None → first_unready script s cmd ≡ Some b → ((d : BufId) → same_buffer b d ≡ false → live_in (after script s t k).core.buffers d ≡ live_in s.core.buffers d)
      → (has_some_target (buffer (after script s t k) b) ≡ true → IsAway script c cmd b (buffer (after script s t k) b)) → Goes k c
  goes_on k c b l none u others now = goes_first k c b l u (λ d h. same_live k d (others d h)) now (λ d f. absurd (none_fails c.fail d none f))

  become : (b : BufId) (f : Buffer → Buffer) → Works (course s t) cmd → first_unready script s cmd ≡ Some b → unwrap_or (live_in (changed f s.core.buffers b) b) (new_buffer 0) ≡ f (buffer s b)
  become b f works u = ap (λ o. unwrap_or o (new_buffer 0)) (changed_here f s.core.buffers b (buffer s b) (live_is s b (known.owned.held t b (inl (held_first b works u))).1))

  -- it fails in a state that is the same
  goes_failing : (k : Kind) (c : Course) (b : BufId) → SameLock (course s t) c → Works (course s t) cmd → first_unready script s cmd ≡ Some b → ((d : BufId) → buffer (after script s t k) d ≡ buffer s d)
      → (has_some_target (buffer s b) ≡ true → meets script cmd b (buffer s b) ≡ false) → Goes k c
  goes_failing k c b l works u same out =
      goes_first k c b l u (λ d h. same d)
      (λ some. subst (IsAway script c cmd b) (sym (same b)) (unmet (out (subst (λ y. has_some_target y ≡ true) (same b) some))))
      (λ d f. still_unready (after script s t k) c b l works (is_member_first b u) (ap (λ y. is_in_place script cmd b y && is_filled cmd y) (same b) ∙ is_unready b u))

  -- ---- of a victim no held buffer changes

  apart : (v : Victim) → OnVictim (course s t) cmd v → (d : BufId) → has_buffer (course s t).held d ≡ true → same_buffer v.b d ≡ false
  apart v on d h = other_is v.b d (λ e. clash (sym (subst (λ z. has_buffer (course s t).held z ≡ true) (sym e) h) ∙ (known.owned.steady t).apart v.b (last_caught (course s t) v on.last)))

  goes_victim : (k : Kind) (v : Victim) → OnVictim (course s t) cmd v → ((d : BufId) → same_buffer v.b d ≡ false → live_in (after script s t k).core.buffers d ≡ live_in s.core.buffers d) → (c : Course) → SameLock (course s t) c → c.fail ≡ (course s t).fail → Goes k c
  goes_victim k v on others c l fails = goes_same k c l fails (λ d h. same_live k d (others d (apart v on d h)))

  goes_catch : (v : BufId) (w : Why) → (reservation s v).holder ≡ None → Goes (kind.Catch v w) (with_victim v w (course s t))
  goes_catch v w free =
      goes_same (kind.Catch v w) (with_victim v w (course s t)) (record { answered = refl; made = refl; stamp = refl; held = refl; first = refl }) refl
      (λ d h. same_live (kind.Catch v w) d (untouched script s t (kind.Catch v w) d (other_is v d (λ e. let a = known.owned.held t d (inl h) in none_or (reservation s d).holder a.0 (subst (λ z. (reservation s z).holder ≡ None) e free) a.2))))

  -- ---- searches

  search_fail : (b : BufId) → (search_over b (course s t)).fail ≡ (course s t).fail
  search_fail b = by (is_caught (course s t) b)
    where
      by : (q : Bool) → (if q then course s t else record (course s t) { forced = false; dry = 0 }).fail ≡ (course s t).fail
      by true = refl
      by false = refl

  -- pages for a buffer that stands where the command doesn't want it
  goes_taken : (b : BufId) (mem : Mem) (spans : List Span) → OnBuffer script s (course s t) cmd b → meets script cmd b (buffer s b) ≡ false → Goes (kind.Take b mem spans) (search_over b (course s t))
  goes_taken b mem spans on out =
      goes_on (kind.Take b mem spans) (search_over b (course s t)) b (search_lock b (course s t)) (search_fail b ∙ on.fine) on.first (λ d h. untouched script s t (kind.Take b mem spans) d h)
      (λ some. subst (IsAway script (search_over b (course s t)) cmd b) (sym (become b (taken s mem spans) on.named.works on.first)) (unmet (let body = taken_body s mem spans (buffer s b) in meets_alike script cmd b (taken s mem spans (buffer s b)) (buffer s b) body.mem body.spans ∙ out)))

  up_unmet : (b : BufId) → OnCarried script s (course s t) cmd b System → has_target Tt (buffer s b) ≡ false → meets script cmd b (buffer s b) ≡ false
  up_unmet b on q = system_unmet script (course s t) cmd b (buffer s b) on.stands (λ p a. clash (sym p ∙ q)) (fares.away b (held_first b on.on.on.named.works on.on.on.first) on.some)

  down_unmet : (b : BufId) → OnCarried script s (course s t) cmd b Vram → meets script cmd b (buffer s b) ≡ false
  down_unmet b on = vram_unmet script (course s t) cmd b (buffer s b) on.stands (fares.away b (held_first b on.on.on.named.works on.on.on.first) on.some)

  goes_take : (b : BufId) (aim : SearchAim) (mem : Mem) (spans : List Span) → Turn script s (course s t) cmd (task.Search b aim) → Goes (kind.Take b mem spans) (search_over b (course s t))
  goes_take b aim mem spans (victim_search v on i f q) = goes_victim (kind.Take v.b mem spans) v on (λ d h. untouched script s t (kind.Take v.b mem spans) d h) (search_over v.b (course s t)) (search_lock v.b (course s t)) (search_fail v.b)
  goes_take b aim mem spans (ask on none) = goes_taken b mem spans on.on (misplaced_unmet script cmd b (buffer s b) on.misplaced none)
  goes_take b aim mem spans (hop_up on q) = goes_taken b mem spans on.on.on (up_unmet b on q)
  goes_take b aim mem spans (hop_down on v q) = goes_taken b mem spans on.on.on (down_unmet b on)

  victim_fails : (v : Victim) (d : Deny) → OnVictim (course s t) cmd v → (with_fail v.b d (course s t)).fail ≡ (course s t).fail
  victim_fails v d on = ap (λ (q : Bool). (if q then record (course s t) { caught = map (failed_if d v.b) (course s t).caught } else record (course s t) { fail = Some d }).fail) (last_caught (course s t) v on.last)

  victim_dries : (v : Victim) (k : ℕ) (o : Option Command) → OnVictim (course s t) cmd v → (course_after_dry script s v.b k o (course s t)).fail ≡ (course s t).fail
  victim_dries v k None on = refl
  victim_dries v k (Some x) on =
      ap (λ (q : Bool). (if q then with_fail v.b deny.NoSpace (course s t) else gone_dry k (length (forced_places (place_search_at_work script s (course s t) x v.b).list)) (course s t)).fail) (last_caught (course s t) v on.last)
      ∙ victim_fails v deny.NoSpace on

  goes_dry : (b : BufId) (aim : SearchAim) (k : ℕ) (w : DryWhy) → Turn script s (course s t) cmd (task.Search b aim) → Goes (kind.Dry b k w) (course_after_dry script s b k (command_at_work script s t) (course s t))
  goes_dry b aim k w (victim_search v on i f q) =
      goes_victim (kind.Dry v.b k w) v on (λ d h. refl) (course_after_dry script s v.b k (command_at_work script s t) (course s t)) (dry_lock script s v.b k (command_at_work script s t) (course s t)) (victim_dries v k (command_at_work script s t) on)
  goes_dry b aim k w (ask on none) =
      goes_failing (kind.Dry b k w) (course_after_dry script s b k (command_at_work script s t) (course s t)) b (dry_lock script s b k (command_at_work script s t) (course s t)) on.on.named.works on.on.first (λ d. refl) (λ some. absurd (clash (sym some ∙ none)))
  goes_dry b aim k w (hop_up on q) =
      goes_failing (kind.Dry b k w) (course_after_dry script s b k (command_at_work script s t) (course s t)) b (dry_lock script s b k (command_at_work script s t) (course s t)) on.on.on.named.works on.on.on.first (λ d. refl) (λ some. up_unmet b on q)
  goes_dry b aim k w (hop_down on v q) =
      goes_failing (kind.Dry b k w) (course_after_dry script s b k (command_at_work script s t) (course s t)) b (dry_lock script s b k (command_at_work script s t) (course s t)) on.on.on.named.works on.on.on.first (λ d. refl) (λ some. down_unmet b on)

  goes_sought : (b : BufId) (aim : SearchAim) (k : Kind) → Turn script s (course s t) cmd (task.Search b aim) → SearchOutcome script s (course s t) b (place_search script cmd (course s t) b aim) k → Goes k (next_course script s t k)
  goes_sought b aim k turn (finds place {mem} {spans} w m e) = goes_take b aim mem spans turn
  goes_sought b aim k turn (evicts place {v} {w} a n e f) = goes_catch v w (victim_free script s (course s t).skips place v f).free
  goes_sought b aim k turn (dries place {w} a n) = goes_dry b aim _ w turn

  -- ---- pages

  in_place_bare : (b : BufId) (x : Buffer) → is_in_place script cmd b x ≡ true → has_some_target x ≡ false
  in_place_bare b x h = not-true (has_some_target x) (and_parts (not (has_some_target x)) (meets script cmd b x) h).0

  bind_unmet : (b : BufId) → OnCarried script s (course s t) cmd b System → has_all_frames (buffer s b) ≡ false → meets script cmd b (buffer s b) ≡ false
  bind_unmet b on r = system_unmet script (course s t) cmd b (buffer s b) on.stands (λ p a. clash (sym a ∙ r)) (fares.away b (held_first b on.on.on.named.works on.on.on.first) on.some)

  goes_paged : (b : BufId) (k : Kind) (page : ℕ) (l : Loc) → OnBuffer script s (course s t) cmd b → next_course script s t k ≡ course s t → (after script s t k).core.buffers ≡ changed (with_loc page l) s.core.buffers b
      → ((d : BufId) → same_buffer b d ≡ false → live_in (after script s t k).core.buffers d ≡ live_in s.core.buffers d) → (has_some_target (buffer s b) ≡ true → meets script cmd b (buffer s b) ≡ false) → Goes k (course s t)
  goes_paged b k page l on own core others out =
      goes_on k (course s t) b (lock_same (course s t)) on.fine on.first others
      (λ some.
      subst (IsAway script (course s t) cmd b) (sym is)
      (unmet (meets_alike script cmd b (with_loc page l (buffer s b)) (buffer s b) refl refl ∙ out (subst (λ y. has_some_target y ≡ true) is some))))
    where
      is : buffer (after script s t k) b ≡ with_loc page l (buffer s b)
      is = ap (λ xs. unwrap_or (live_in xs b) (new_buffer 0)) core ∙ become b (with_loc page l) on.named.works on.first

  goes_page : (b : BufId) (k : Kind) (page : ℕ) (l : Loc) → Turn script s (course s t) cmd (task.Fill b) → next_course script s t k ≡ course s t → (after script s t k).core.buffers ≡ changed (with_loc page l) s.core.buffers b
      → ((d : BufId) → same_buffer b d ≡ false → live_in (after script s t k).core.buffers d ≡ live_in s.core.buffers d) → Goes k (course s t)
  goes_page b k page l (victim_fill v on i f q r) own core others = goes_victim k v on others (course s t) (lock_same (course s t)) refl
  goes_page b k page l (fill_in_place on i) own core others = goes_paged b k page l on own core others (λ some. absurd (clash (sym some ∙ in_place_bare b (buffer s b) i)))
  goes_page b k page l (fill_to_bind on q r) own core others = goes_paged b k page l on.on.on own core others (λ some. bind_unmet b on r)
  goes_page b k page l (fill_to_move on v q r) own core others = goes_paged b k page l on.on.on own core others (λ some. down_unmet b on)

  goes_without : (b : BufId) → Turn script s (course s t) cmd (task.Fill b) → Goes (kind.NoPages b) (with_fail b deny.NoPages (course s t))
  goes_without b (victim_fill v on i f q r) = goes_victim (kind.NoPages v.b) v on (λ d h. refl) (with_fail v.b deny.NoPages (course s t)) (fail_lock v.b deny.NoPages (course s t)) (victim_fails v deny.NoPages on)
  goes_without b (fill_in_place on i) =
      goes_failing (kind.NoPages b) (with_fail b deny.NoPages (course s t)) b (fail_lock b deny.NoPages (course s t)) on.named.works on.first (λ d. refl) (λ some. absurd (clash (sym some ∙ in_place_bare b (buffer s b) i)))
  goes_without b (fill_to_bind on q r) =
      goes_failing (kind.NoPages b) (with_fail b deny.NoPages (course s t)) b (fail_lock b deny.NoPages (course s t)) on.on.on.named.works on.on.on.first (λ d. refl) (λ some. bind_unmet b on r)
  goes_without b (fill_to_move on v q r) =
      goes_failing (kind.NoPages b) (with_fail b deny.NoPages (course s t)) b (fail_lock b deny.NoPages (course s t)) on.on.on.named.works on.on.on.first (λ d. refl) (λ some. down_unmet b on)

  goes_filled : (b : BufId) (k : Kind) → Turn script s (course s t) cmd (task.Fill b) → Filled script s b k → Goes k (next_course script s t k)
  goes_filled b k turn (fresh {frame} f l) = goes_page b (kind.Populate b _ frame) _ (loc.Frame frame) turn refl refl (λ d h. untouched script s t (kind.Populate b _ frame) d h)
  goes_filled b k turn (again {f} {frame} e l) = goes_page b (kind.Populate b _ frame) _ (loc.Frame frame) turn refl refl (λ d h. untouched script s t (kind.Populate b _ frame) d h)
  goes_filled b k turn (back {slot} {frame} f l) = goes_page b (kind.SwapIn b _ slot frame) _ (loc.Frame frame) turn refl refl (λ d h. untouched script s t (kind.SwapIn b _ slot frame) d h)
  goes_filled b k turn (evicts_for_swap {slot} {v} f e) = goes_catch v why.Swap (swap_free s v e).free
  goes_filled b k turn (nothing f) = goes_without b turn

  -- ---- carries

  goes_carried : (k : Kind) (b : BufId) (f : Buffer → Buffer) → OnBuffer script s (course s t) cmd b → ((d : BufId) → same_buffer b d ≡ false → live_in (after script s t k).core.buffers d ≡ live_in s.core.buffers d)
      → (after script s t k).core.buffers ≡ changed f s.core.buffers b → (has_some_target (f (buffer s b)) ≡ true → IsAway script (course s t) cmd b (f (buffer s b))) → Goes k (course s t)
  goes_carried k b f on others core now =
      goes_on k (course s t) b (lock_same (course s t)) on.fine on.first others
      (λ some. subst (IsAway script (course s t) cmd b) (sym is) (now (subst (λ y. has_some_target y ≡ true) is some)))
    where
      is : buffer (after script s t k) b ≡ f (buffer s b)
      is = ap (λ xs. unwrap_or (live_in xs b) (new_buffer 0)) core ∙ become b f on.named.works on.first

  goes_moved : (b : BufId) (mem : Mem) (n : ℕ) (l : Left) → OnBuffer script s (course s t) cmd b → ((job : JobId) → has_some_target (moved mem job (buffer s b)) ≡ true → IsAway script (course s t) cmd b (moved mem job (buffer s b))) → Goes (kind.Move b mem n l) (course s t)
  goes_moved b mem n l on now = goes_carried (kind.Move b mem n l) b (moved mem (record { ctx = 0; num = n })) on (λ d h. untouched script s t (kind.Move b mem n l) d h) refl (now (record { ctx = 0; num = n }))

  goes_victim_moved : (v : Victim) (n : ℕ) (l : Left) → OnVictim (course s t) cmd v → Goes (kind.Move v.b Tt n l) (course s t)
  goes_victim_moved v n l on = goes_victim (kind.Move v.b Tt n l) v on (λ d h. untouched script s t (kind.Move v.b Tt n l) d h) (course s t) (lock_same (course s t)) refl

  row_of : (b : BufId) (mem : Mem) → OnCarried script s (course s t) cmd b mem → Carried (Fits script (course s t) cmd b (buffer s b)) (buffer s b)
  row_of b mem on = (carrying.carried t cmd b at (held_first b on.on.on.named.works on.on.on.first) on.some).row

  -- back from TT, or to another place of it
  unbound_away : {P : Mem → Type 0} (b : BufId) (x : Buffer) → (course s t).fail ≡ None → x.mem ≡ Tt → (has_target System x || has_target Tt x) ≡ true → has_all_frames x ≡ true → Carried P x → has_some_target (unbound x) ≡ true → IsAway script (course s t) cmd b (unbound x)
  unbound_away b x none m g a (system_tt e ts f) some = absurd (system-not-tt (sym e ∙ m))
  unbound_away b x none m g a (system_vram e ts f) some = absurd (system-not-tt (sym e ∙ m))
  unbound_away b x none m g a (system_both e ts f) some = absurd (system-not-tt (sym e ∙ m))
  unbound_away b x none m g a (vram_vram e ts f) some = absurd (vram-not-tt (sym e ∙ m))
  unbound_away b x none m g a (vram_tt e ts f) some = absurd (vram-not-tt (sym e ∙ m))
  unbound_away b x none m g a (vram_system e ts f) some = absurd (vram-not-tt (sym e ∙ m))
  unbound_away b x none m g a (vram_both e ts f) some = absurd (vram-not-tt (sym e ∙ m))
  unbound_away b x none m g a (tt_system e ts f) some = absurd (clash (sym some ∙ some_is (unbound x) false false false (refl, ts.1, ts.2)))
  unbound_away b x none m g a (tt_tt e ts f) some = on_its_way_back none refl ts.1 a
  unbound_away b x none m g a (tt_vram e ts f) some = absurd (clash (sym g ∙ ap₂ (λ p q. p || q) ts.0 ts.1))

  -- in VRAM there is no further target
  up_bare : {P : Mem → Type 0} (job : JobId) (x : Buffer) → x.mem ≡ Tt → (has_target System x || has_target Tt x) ≡ false → Carried P x → has_some_target (moved Vram job x) ≡ false
  up_bare job x m g (system_tt e ts f) = absurd (system-not-tt (sym e ∙ m))
  up_bare job x m g (system_vram e ts f) = absurd (system-not-tt (sym e ∙ m))
  up_bare job x m g (system_both e ts f) = absurd (system-not-tt (sym e ∙ m))
  up_bare job x m g (vram_vram e ts f) = absurd (vram-not-tt (sym e ∙ m))
  up_bare job x m g (vram_tt e ts f) = absurd (vram-not-tt (sym e ∙ m))
  up_bare job x m g (vram_system e ts f) = absurd (vram-not-tt (sym e ∙ m))
  up_bare job x m g (vram_both e ts f) = absurd (vram-not-tt (sym e ∙ m))
  up_bare job x m g (tt_system e ts f) = absurd (clash (sym (ap₂ (λ p q. p || q) ts.0 ts.1) ∙ g))
  up_bare job x m g (tt_tt e ts f) = absurd (clash (sym (ap₂ (λ p q. p || q) ts.0 ts.1) ∙ g))
  up_bare job x m g (tt_vram e ts f) = some_is (moved Vram job x) false false false (ts.0, ts.1, refl)

  across_bare : {P : Mem → Type 0} (job : JobId) (x : Buffer) → x.mem ≡ Vram → has_target Vram x ≡ true → Carried P x → has_some_target (moved Vram job x) ≡ false
  across_bare job x m g (system_tt e ts f) = absurd (system-not-vram (sym e ∙ m))
  across_bare job x m g (system_vram e ts f) = absurd (system-not-vram (sym e ∙ m))
  across_bare job x m g (system_both e ts f) = absurd (system-not-vram (sym e ∙ m))
  across_bare job x m g (tt_system e ts f) = absurd (tt-not-vram (sym e ∙ m))
  across_bare job x m g (tt_tt e ts f) = absurd (tt-not-vram (sym e ∙ m))
  across_bare job x m g (tt_vram e ts f) = absurd (tt-not-vram (sym e ∙ m))
  across_bare job x m g (vram_vram e ts f) = some_is (moved Vram job x) false false false (ts.0, ts.1, refl)
  across_bare job x m g (vram_tt e ts f) = absurd (clash (sym g ∙ ts.2))
  across_bare job x m g (vram_system e ts f) = absurd (clash (sym g ∙ ts.2))
  across_bare job x m g (vram_both e ts f) = absurd (clash (sym g ∙ ts.2))

  full_at : (b : BufId) (works : Works (course s t) cmd) (u : first_unready script s cmd ≡ Some b) → (buffer s b).mem ≡ Tt → has_all_frames (buffer s b) ≡ true
  full_at b works u m = full b (buffer s b) (live_is s b (known.owned.held t b (inl (held_first b works u))).1) m

  -- ---- what a failed search gives back

  goes_given : (b : BufId) (d : Deny) (f : Buffer → Buffer) (k : Kind) → Works (course s t) cmd → (course s t).fail ≡ Some d → first_unready script s cmd ≡ Some b
      → ((e : BufId) → same_buffer b e ≡ false → live_in (after script s t k).core.buffers e ≡ live_in s.core.buffers e) → (after script s t k).core.buffers ≡ changed f s.core.buffers b
      → (has_some_target (f (buffer s b)) ≡ true → has_some_target (buffer s b) ≡ true) → (meets script cmd b (f (buffer s b)) ≡ meets script cmd b (buffer s b))
      → (is_in_place script cmd b (f (buffer s b)) && is_filled cmd (f (buffer s b))) ≡ false → Goes k (course s t)
  goes_given b d f k works failed u others core had alike unready =
      goes_first k (course s t) b (lock_same (course s t)) u (λ e h. same_live k e (others e h))
      (λ some.
      subst (IsAway script (course s t) cmd b) (sym is)
      (unmet (alike ∙ failed_unmet script (course s t) cmd b (buffer s b) d failed (fares.away b (held_first b works u) (had (subst (λ y. has_some_target y ≡ true) is some))))))
      (λ e g. still_unready (after script s t k) (course s t) b (lock_same (course s t)) works (is_member_first b u) (ap (λ y. is_in_place script cmd b y && is_filled cmd y) is ∙ unready))
    where
      is : buffer (after script s t k) b ≡ f (buffer s b)
      is = ap (λ xs. unwrap_or (live_in xs b) (new_buffer 0)) core ∙ become b f works u

  has_targets : (x : Buffer) → gives_back x ≡ true → (x.mem ≡ Vram → has_frame x ≡ false) → has_some_target x ≡ true
  has_targets x g n =
      ⊎_elim
      (λ h. let p = and_parts (same_mem x.mem Vram) (has_frame x) h in absurd (clash (sym p.1 ∙ n (vram_is x.mem p.0))))
      (λ h. h)
      (or_cases (same_mem x.mem Vram && has_frame x) (has_some_target x) g)
    where
      vram_is : (m : Mem) → same_mem m Vram ≡ true → m ≡ Vram
      vram_is Vram h = refl
      vram_is Tt h = absurd (clash (sym h))
      vram_is System h = absurd (clash (sym h))

  untaken_meets : (m : Mem) (b : BufId) (x : Buffer) → meets script cmd b (with_spans m None x) ≡ meets script cmd b x
  untaken_meets m b x = meets_alike script cmd b (with_spans m None x) x refl refl

  -- ---- each entry

  pub goes : (x : Task) (k : Kind) → Turn script s (course s t) cmd x → Gives script s (course s t) cmd x k → Goes k (next_course script s t k)
  goes x k turn answers = goes_empty k
  goes x k (start m q) (makes e dead) = goes_clear k _ (λ d h. absurd (unlocked script s t cmd here at known.owned (ap locks e) d (inl h))) (not_begun q)
  goes x k (start m q) (shifts e) = goes_clear k _ (λ d h. absurd (unlocked script s t cmd here at known.owned (ap locks e) d (inl h))) (not_begun q)
  goes x k (start m q) (draws l) = goes_clear k _ (λ d h. absurd (bare script s t cmd here at known.owned (locking_command (course s t) cmd q l) d (inl h))) (not_begun q)
  goes x k (lock m n f) (reserves {b} l free) =
      goes_clear k _
      (λ d h. ⊎_elim
      (λ held. false_from_ne_true (has_some_target (buffer s d)) (λ some. let w = carrying.carried t cmd d at held some in some_none b (sym f ∙ w.works.whole)))
      (λ q. false_from_ne_true (has_some_target (buffer s d)) (λ some. carrying.targets d some (subst (λ z. (reservation s z).holder ≡ None) (sym q) free)))
      (has_pushed (course s t).held b d h))
      (not_whole b f)
  goes x k (lock m n f) (backs {b} l h q) = goes_clear k _ (λ d h. absurd (clash (sym h))) (not_whole b f)
  goes x k turn (seeks {b} {aim} sought) = goes_sought b aim k turn sought
  goes x k turn (fills {b} filled) = goes_filled b k turn filled
  goes x k (bind {b} on q r) binds = goes_carried (kind.Bind b) b bound on.on.on (λ d h. untouched script s t (kind.Bind b) d h) refl (λ some. half_way on.on.on.fine refl)
  goes x k (victim_unbind v on q) (unbinds i) = goes_victim (kind.Unbind v.b) v on (λ d h. untouched script s t (kind.Unbind v.b) d h) (course s t) (lock_same (course s t)) refl
  goes x k (unbind {b} on q) (unbinds i) =
      goes_carried (kind.Unbind b) b unbound on.on.on (λ d h. untouched script s t (kind.Unbind b) d h) refl
      (λ some. unbound_away b (buffer s b) on.on.on.fine on.stands q (full_at b on.on.on.named.works on.on.on.first on.stands) (row_of b Tt on) some)
  goes x k (victim_move v on i f q r) moves = goes_victim_moved v _ _ on
  goes x k (move_up {b} on q) moves = goes_moved b Vram _ _ on.on.on (λ job some. absurd (clash (sym some ∙ up_bare job (buffer s b) on.stands q (row_of b Tt on))))
  goes x k (move_across {b} on q) moves = goes_moved b Vram _ _ on.on.on (λ job some. absurd (clash (sym some ∙ across_bare job (buffer s b) on.stands q (row_of b Vram on))))
  goes x k (move_down {b} on v q r) moves = goes_moved b Tt _ _ on.on.on (λ job some. half_way on.on.on.fine refl)
  goes x k (victim_empty v on q e) lets_go = goes_victim (kind.Loose v.b) v on (λ d h. refl) _ (record { answered = refl; made = refl; stamp = refl; held = refl; first = refl }) refl
  goes x k (victim_empty v on q e) (empties {b} {slot} w f g) = goes_victim (kind.SwapOut v.b _ slot) v on (λ d h. untouched script s t (kind.SwapOut v.b _ slot) d h) (course s t) (lock_same (course s t)) refl
  goes x k (victim_skip v d on i f q) skips = goes_victim (kind.Skip v.b) v on (λ d h. refl) _ (record { answered = refl; made = refl; stamp = refl; held = refl; first = refl }) refl
  goes x k (victim_give v d on i f q) (depopulates m g) = goes_victim (kind.Depopulate v.b) v on (λ d h. untouched script s t (kind.Depopulate v.b) d h) (course s t) (lock_same (course s t)) refl
  goes x k (victim_give v d on i f q) (untakes n) = goes_victim (kind.Untake v.b _) v on (λ d h. untouched script s t (kind.Untake v.b _) d h) (course s t) (lock_same (course s t)) refl
  goes x k (give {b} d on a f u g) (depopulates m p) =
      goes_given b d without_frames (kind.Depopulate b) on.works f u (λ e h. untouched script s t (kind.Depopulate b) e h) refl (λ h. h) (meets_alike script cmd b (without_frames (buffer s b)) (buffer s b) refl refl)
      (emptied_unready script cmd b (buffer s b) m (is_unready b u))
  goes x k (give {b} d on a f u g) (untakes n) =
      goes_given b d (with_spans (target_to_untake (buffer s b)) None) (kind.Untake b (target_to_untake (buffer s b))) on.works f u (λ e h. untouched script s t (kind.Untake b (target_to_untake (buffer s b))) e h) refl
      (λ h. has_targets (buffer s b) g n) (untaken_meets (target_to_untake (buffer s b)) b (buffer s b))
      (unmet_unready script cmd b (with_spans (target_to_untake (buffer s b)) None (buffer s b))
      (untaken_meets (target_to_untake (buffer s b)) b (buffer s b) ∙ failed_unmet script (course s t) cmd b (buffer s b) d f (fares.away b (held_first b on.works u) (has_targets (buffer s b) g n))))
  goes x k (act on a f u) (arms {engine} ops e) =
      goes_clear k _ (λ d h. targets_used (record { ctx = engine; num = next_job s engine }) (ops_of (command_at_work script s t)) s.core.buffers (named_in (command_at_work script s t)) d ∙ ready_clear u d h) (fine f)
  goes x k (act on a f u) (frees {b} {g} e q) =
      goes_clear k _
      (λ d h.
      let n : d ≡ b → ⊥ = λ r. clash (sym (subst (λ z. has_buffer (without_buffer (course s t).held b) z ≡ true) r h) ∙ without_gone (course s t).held b) in
      ap (λ o. has_some_target (unwrap_or o (new_buffer 0))) (live_set s.core.buffers b d None n) ∙ ready_clear u d (has_without (course s t).held b d h))
      (fine f)
  goes x k (act on a f u) (swaps {b} {slot} e q r) = goes_clear k _ (λ d h. targets_changed (with_loc _ (loc.Slot slot)) s.core.buffers b d (λ y. refl) ∙ ready_clear u d h) (fine f)
  goes x k turn gives = goes_empty k
