-- A victim that is caught lowers the measure: fewer may be caught after it.
use Rattle.std.proofs.Common.{◌≡◌, ℕ, ◌≤◌, ◌+◌, Bool, true, false, List, [], ◌∷◌, ◌++◌, Option, Some, None, refl, sym, ◌∙◌, ap, ap₂, subst, arith, inr}
use Rattle.std.specs.Prelude.{slice_get, sum_by, not, unwrap_or, is_some, option_map, ◌||◌, ◌&&◌, if◌then◌else◌}
use Rattle.std.specs.List.{list_any, enumerate_from}
use Rattle.std.proofs.lemmas.List.Folds.{list_any-append}
use Rattle.ttm_base.specs.ListWords.{last_of}
use Rattle.ttm_base.specs.Placement.{forced_places}
use Rattle.ttm_base.specs.Reach.{same_mem}
use Rattle.ttm_base.specs.declared.Mem.{Mem}
use Rattle.ttm_base.specs.declared.Mem.TheVariants.{System, Tt, Vram}
use Rattle.ttm_base.specs.declared.Place.{Place}
use Rattle.ttm_base.specs.declared.Span.{Span}
use Rattle.ttm_base.specs.declared.BufId.{BufId}
use Rattle.ttm_base.specs.declared.Stamp.{Stamp}
use Rattle.journal_model.specs.declared.script.Script.{Script}
use Rattle.journal_model.specs.declared.script.Decl.{Decl}
use Rattle.journal_model.specs.declared.script.Command.{Command}
use Rattle.journal_model.specs.declared.state.State.{State}
use Rattle.journal_model.specs.declared.state.Course.{Course}
use Rattle.journal_model.specs.declared.state.Victim.{Victim}
use Rattle.journal_model.specs.declared.state.Buffer.{Buffer}
use Rattle.journal_model.specs.declared.state.SearchAim.TheVariants.{Hop}
use Rattle.journal_model.specs.declared.entry.Why.{Why}
use Rattle.journal_model.specs.declared.entry.Why.TheVariants as why
use Rattle.journal_model.specs.declared.entry.Kind.TheVariants as kind
use Rattle.journal_model.specs.rules.State.{new_buffer, buffer, course, reservation, live_in, same_buffer, has_buffer, has_target}
use Rattle.journal_model.specs.rules.Commands.{whole}
use Rattle.journal_model.specs.rules.Choice.{choice, choice_in}
use Rattle.journal_model.specs.rules.Holds.{free_slot}
use Rattle.journal_model.specs.rules.Dry.{has_frame, victim}
use Rattle.journal_model.specs.rules.Search.{PlaceSearch, place_search, through_tt, why_of, is_caught}
use Rattle.journal_model.specs.rules.ApplyCommands.{with_holder}
use Rattle.journal_model.specs.rules.ApplyVictims.{leaves_tt, with_victim}
use Rattle.laws.proofs.law_sound.Measure.{one_if, victim_left, has_failed, not_skipped, room_for_victims, search_share, search_left, left_of_buffer, slot_debt, measure}
use Rattle.laws.proofs.law_sound.MeasureFalls.{sum_most}
use Rattle.laws.proofs.law_sound.Along.{Stepped}
use Rattle.laws.proofs.law_sound.Turns.{Works}
use Rattle.laws.proofs.law_sound.Bufs.{other_is}
use Rattle.laws.proofs.law_sound.Owners.{none_or}
use Rattle.laws.proofs.law_sound.Reservations.{reservation_other, victim_passes}
use Rattle.laws.proofs.law_sound.OwnedKeeps.{HasIn}
use Rattle.laws.proofs.law_sound.Steadies.{own_course}
use Rattle.laws.proofs.lemma_end_measure.Frame.{same_left, untouched}
use Rattle.laws.proofs.lemma_end_measure.Slots.{OneFewer, Fewer, slot_stays, debts_from}
use Rattle.laws.proofs.lemma_end_measure.Sums.{sum_kept, fewer_kept, sum_pushed}
use Rattle.laws.proofs.lemma_end_measure.Giving.{changed_here}
use Rattle.laws.proofs.lemma_end_measure.Skipping.{search_was}
use Rattle.laws.proofs.lemma_end_measure.Border.{Known}
use Rattle.laws.proofs.lemma_end_measure.Parts.{after, parts_fall, locks_stay}
use Rattle.laws.proofs.lemma_end_searches.Victims.{last_pushed}

-- ---- what is caught

-- why a buffer is caught, and where it stands
pub data Prey (script : Script) (s : State) (b : BufId) : Why → Type 0 where
  in_vram : (buffer s b).mem ≡ Vram → Prey script s b why.Vram
  in_tt : (buffer s b).mem ≡ Tt → Prey script s b why.Tt
  for_swap : {slot : ℕ} → has_frame (buffer s b) ≡ true → free_slot script s.core ≡ Some slot → Prey script s b why.Swap

mem_is : (m n : Mem) → same_mem m n ≡ true → m ≡ n
mem_is System System h = refl
mem_is Tt Tt h = refl
mem_is Vram Vram h = refl
mem_is System Tt h = cc
mem_is System Vram h = cc
mem_is Tt System h = cc
mem_is Tt Vram h = cc
mem_is Vram System h = cc
mem_is Vram Tt h = cc

-- a victim of a place that has no choice stands there; in SYSTEM there is always one
pub evicted : (script : Script) (s : State) (skips : List BufId) (b v : BufId) (place : Place) (w : Why) → choice script s.core b place ≡ None → why_of place.mem ≡ w → victim script s skips place ≡ Some v → Prey script s v w
evicted script s skips b v place w lacks is found = by place.mem refl
  where
    stands : same_mem (buffer s v).mem place.mem ≡ true
    stands = first (same_mem (buffer s v).mem place.mem) _ _ _ (victim_passes script s skips place v found)
      where
        first : (a b c d : Bool) → (((a && b) && c) && d) ≡ true → a ≡ true
        first true b c d h = refl
        first false b c d h = h

    none_here : ◌≡◌ {A = Option (List Span)} (Some []) None → ⊥
    none_here h = cc

    by : (m : Mem) → place.mem ≡ m → Prey script s v w
    by System e = absurd (none_here (sym (ap (λ q. choice_in q script s.core b place) e) ∙ lacks))
    by Tt e = subst (Prey script s v) (sym (ap why_of e) ∙ is) (in_tt (mem_is (buffer s v).mem place.mem stands ∙ e))
    by Vram e = subst (Prey script s v) (sym (ap why_of e) ∙ is) (in_vram (mem_is (buffer s v).mem place.mem stands ∙ e))

-- a victim's own search is in TT alone
abbrev pub hop : Course → Bool → PlaceSearch
hop c q = if q then record { list = through_tt; forced = false; dry = 0 } else record { list = through_tt; forced = c.forced; dry = c.dry }

abbrev place_of : PlaceSearch → Place
place_of q = unwrap_or (slice_get (forced_places q.list) q.dry) (whole System)

pub hops : (script : Script) (cmd : Command) (c : Course) (b : BufId) → is_caught c b ≡ true → unwrap_or (slice_get (forced_places (place_search script cmd c b Hop).list) (place_search script cmd c b Hop).dry) (whole System) ≡ whole Tt
hops script cmd c b h = ap (λ q. place_of (hop c q)) h

-- ---- a buffer in TT gets a target

leaving : Buffer → Buffer
leaving x = leaves_tt x.mem x

leaves_left : (o : Option Buffer) → left_of_buffer (option_map (λ x. leaves_tt x.mem x) o) ≡ left_of_buffer o
leaves_left None = refl
leaves_left (Some x) = by x.mem
  where
    by : (m : Mem) → left_of_buffer (Some (leaves_tt m x)) ≡ left_of_buffer (Some x)
    by System = refl
    by Tt = refl
    by Vram = refl

leaves_fewer : (o : Option Buffer) → OneFewer o (option_map (λ x. leaves_tt x.mem x) o)
leaves_fewer None = tt
leaves_fewer (Some x) = by x.mem
  where
    by : (m : Mem) → OneFewer (Some x) (Some (leaves_tt m x))
    by System = λ n h. h
    by Tt = λ n h. h
    by Vram = λ n h. h

frames_stay : (m : Mem) (x : Buffer) → has_frame (leaves_tt m x) ≡ has_frame x
frames_stay System x = refl
frames_stay Tt x = refl
frames_stay Vram x = refl

module _ (script : Script) (s : State) (t : ℕ) (b : BufId) (w : Why) (known : Known script s) (st : Stepped script s t (kind.Catch b w)) (stamp : Stamp) (e : (course s t).stamp ≡ Some stamp) (works : Works (course s t) st.step.cmd) (fine : (course s t).fail ≡ None)
    (live : live_in s.core.buffers b ≡ Some (buffer s b)) (free : (reservation s b).holder ≡ None) where
  abbrev prey : Victim
  prey = record { b = b; why = w; fail = None }

  fewer : Fewer s.core.buffers (after script s t (kind.Catch b w)).core.buffers
  fewer = fewer_kept (option_map (λ x. leaves_tt x.mem x)) leaves_fewer s.core.buffers b.0

  now_is : buffer (after script s t (kind.Catch b w)) b ≡ leaves_tt (buffer s b).mem (buffer s b)
  now_is = ap (λ o. unwrap_or o (new_buffer 0)) (changed_here (λ x. leaves_tt x.mem x) s.core.buffers b (buffer s b) live)

  -- what it costs itself
  part_most : Prey script s b w → victim_left (buffer (after script s t (kind.Catch b w)) b) (record { b = b; why = w; fail = None }) ≤ 1
  part_most p = subst (λ x. victim_left x (record { b = b; why = w; fail = None }) ≤ 1) (sym now_is) (by w p)
    where
      digit : (q : Bool) → one_if q ≤ 1
      digit true = omega arith
      digit false = omega arith

      by : (y : Why) → Prey script s b y → victim_left (leaves_tt (buffer s b).mem (buffer s b)) (record { b = b; why = y; fail = None }) ≤ 1
      by why.Vram (in_vram m) =
          subst (λ q. victim_left (leaves_tt q (buffer s b)) (record { b = b; why = why.Vram; fail = None }) ≤ 1) (sym m)
          (let is : victim_left (buffer s b) (record { b = b; why = why.Vram; fail = None }) ≡ one_if (not (has_target Tt (buffer s b))) =
          ap (λ q. elim q [ Vram ↦ one_if (not (has_target Tt (buffer s b))) | Tt ↦ 2097160 | System ↦ 2097160 ]) m in
          let most = digit (not (has_target Tt (buffer s b))) in
          omega (arith, is, most))
      by why.Tt (in_tt m) = subst (λ q. victim_left (leaves_tt q (buffer s b)) (record { b = b; why = why.Tt; fail = None }) ≤ 1) (sym m) (omega arith)
      by why.Swap (for_swap f h) = omega arith

  no_debt : Prey script s b w → slot_debt (is_some (free_slot script (after script s t (kind.Catch b w)).core)) (buffer (after script s t (kind.Catch b w)) b) (record { b = b; why = w; fail = None }) ≡ 0
  no_debt p = ap (λ x. slot_debt (is_some (free_slot script (after script s t (kind.Catch b w)).core)) x (record { b = b; why = w; fail = None })) now_is ∙ by w p
    where
      by : (y : Why) → Prey script s b y → slot_debt (is_some (free_slot script (after script s t (kind.Catch b w)).core)) (leaves_tt (buffer s b).mem (buffer s b)) (record { b = b; why = y; fail = None }) ≡ 0
      by why.Vram (in_vram m) = refl
      by why.Tt (in_tt m) = refl
      by why.Swap (for_swap f h) =
          ap₂ (λ p q. if has_target System (leaves_tt (buffer s b).mem (buffer s b)) || (p && q) then 0 else 2097160) (frames_stay (buffer s b).mem (buffer s b) ∙ f) (slot_stays script s.core (after script s t (kind.Catch b w)).core fewer (ap is_some h))
          ∙ ap (λ q. if q then 0 else 2097160) (or_true (has_target System (leaves_tt (buffer s b).mem (buffer s b))))
        where
          or_true : (q : Bool) → (q || true) ≡ true
          or_true true = refl
          or_true false = refl

  -- the thread had others
  has_others : (d : BufId) → HasIn (course s t) d → d ≡ b → ⊥
  has_others d h q = let m = known.owned.held t d h in none_or (reservation s b).holder m.0 free (subst (λ z. (reservation s z).holder ≡ Some m.0) q m.2)

  others_stay : (d : BufId) → HasIn (course s t) d → buffer (after script s t (kind.Catch b w)) d ≡ buffer s d
  others_stay d h = ap (λ o. unwrap_or o (new_buffer 0)) (untouched script s t (kind.Catch b w) d (other_is b d (λ q. has_others d h (sym q))))

  skips_same : (y : ℕ × Decl) → not_skipped (with_victim b w (course s t)) y ≡ not_skipped (course s t) y
  skips_same y =
      ap (λ q. if has_buffer (course s t).skips (record { 0 = y.0 }) || q then 0 else y.1.pages)
      (list_any-append (has_failed (record { 0 = y.0 })) (course s t).caught (record { b = b; why = w; fail = None } ∷ [])
      ∙ by (list_any (has_failed (record { 0 = y.0 })) (course s t).caught) (same_buffer (record { 0 = y.0 }) b))
    where
      by : (p q : Bool) → (p || ((q && false) || false)) ≡ p
      by true q = refl
      by false true = refl
      by false false = refl

  search_falls : Prey script s b w → room_for_victims (Some (record { b = b; why = w; fail = None })) + 1 ≤ room_for_victims (last_of (course s t).caught)
      → search_left script (after script s t (kind.Catch b w)) (with_victim b w (course s t)) st.step.cmd + 1 ≤ search_left script (after script s t (kind.Catch b w)) (course s t) st.step.cmd
  search_falls p fits =
      let room : room_for_victims (last_of ((course s t).caught ++ record { b = b; why = w; fail = None } ∷ [])) ≡ room_for_victims (Some (record { b = b; why = w; fail = None })) =
      ap room_for_victims (last_pushed (course s t).caught (record { b = b; why = w; fail = None })) in
      let victims = sum_pushed (λ v. victim_left (buffer (after script s t (kind.Catch b w)) v.b) v) (course s t).caught (record { b = b; why = w; fail = None }) in
      let part = part_most p in
      let shares =
      sum_most (search_share script (after script s t (kind.Catch b w)) (with_victim b w (course s t)) st.step.cmd) (search_share script (after script s t (kind.Catch b w)) (course s t) st.step.cmd) (enumerate_from 0 script.buffers)
      (λ y. let same = skips_same y in omega (arith, same)) in
      omega (arith, fits, room, victims, part, shares)

  pub catch_falls : Prey script s b w → room_for_victims (Some (record { b = b; why = w; fail = None })) + 1 ≤ room_for_victims (last_of (course s t).caught) → measure script (after script s t (kind.Catch b w)) + 1 ≤ measure script s
  catch_falls p fits =
      parts_fall script s t (kind.Catch b w) known st fewer
      (let now = search_was script s t (kind.Catch b w) known st (with_victim b w (course s t)) (after script s t (kind.Catch b w)) stamp refl works.unmade e works.whole fine in
      let less = search_falls p fits in
      let between = search_was script s t (kind.Catch b w) known st (course s t) (after script s t (kind.Catch b w)) stamp refl works.unmade e works.whole fine in
      let same = same_left script s (after script s t (kind.Catch b w)) t (course s t) others_stay in
      let debts_are = ap (λ c. sum_by (λ v. slot_debt (is_some (free_slot script (after script s t (kind.Catch b w)).core)) (buffer (after script s t (kind.Catch b w)) v.b) v) c.caught) (own_course script s t (kind.Catch b w) st.here) in
      let debts = sum_pushed (λ v. slot_debt (is_some (free_slot script (after script s t (kind.Catch b w)).core)) (buffer (after script s t (kind.Catch b w)) v.b) v) (course s t).caught (record { b = b; why = w; fail = None }) in
      let none = no_debt p in
      let old =
      debts_from s (after script s t (kind.Catch b w)) (is_some (free_slot script s.core)) (is_some (free_slot script (after script s t (kind.Catch b w)).core)) (slot_stays script s.core (after script s t (kind.Catch b w)).core fewer) (course s t).caught
      (λ v h. others_stay v.b (inr h)) in
      let buffers = sum_kept (option_map (λ x. leaves_tt x.mem x)) leaves_left s.core.buffers b.0 in
      let locks =
      locks_stay script s t (kind.Catch b w) known st (with_victim b w (course s t)) refl refl refl refl refl
      (λ d h g. ap (λ z. z.holder) (reservation_other s.reservations b d (with_holder (course s t).stamp (reservation s b)) (λ q. none_or (reservation s b).holder h free (subst (λ z. (reservation s z).holder ≡ Some h) q g))) ∙ g) in
      omega (arith, now, less, between, same, debts_are, debts, none, old, buffers, locks))
