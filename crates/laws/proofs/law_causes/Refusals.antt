-- A refused command changes no byte of the plain memory, and holds nothing any more.
use Rattle.std.proofs.Common.{◌≡◌, ℕ, zero, suc, Bool, true, false, List, [], ◌∷◌, ◌++◌, Option, Some, None, Ok, refl, sym, ◌∙◌, ap, ap₂, subst, append-nil, append_assoc, ⊎_elim}
use Rattle.std.specs.Prelude.{slice_get, length, map, ◌&&◌, if◌then◌else◌}
use Rattle.std.specs.List.{list_all}
use Rattle.std.proofs.lemmas.Bool.{cases_eq, and_parts}
use Rattle.std.proofs.lemmas.List.Folds.{list_all-append}
use Rattle.ttm_base.specs.Placement.{forced_places}
use Rattle.ttm_base.specs.declared.BufId.{BufId}
use Rattle.ttm_base.specs.declared.Deny.{Deny}
use Rattle.ttm_base.specs.declared.Deny.TheVariants as deny
use Rattle.ttm_base.specs.declared.Actor.{Actor}
use Rattle.ttm_base.specs.declared.Actor.TheVariants as actor
use Rattle.journal_model.specs.declared.script.Script.{Script}
use Rattle.journal_model.specs.declared.script.Command.{Command}
use Rattle.journal_model.specs.declared.state.State.{State}
use Rattle.journal_model.specs.declared.state.Course.{Course}
use Rattle.journal_model.specs.declared.state.Task.{Task}
use Rattle.journal_model.specs.declared.state.Task.TheVariants as task
use Rattle.journal_model.specs.declared.entry.Entry.{Entry}
use Rattle.journal_model.specs.declared.entry.Kind.{Kind}
use Rattle.journal_model.specs.declared.entry.Kind.TheVariants as kind
use Rattle.journal_model.specs.rules.State.{course}
use Rattle.journal_model.specs.rules.Commands.{command_at_work}
use Rattle.journal_model.specs.rules.Search.{place_search_at_work, is_caught}
use Rattle.journal_model.specs.rules.Stores.{showing}
use Rattle.journal_model.specs.rules.Next.{next}
use Rattle.journal_model.specs.rules.Apply.{applied}
use Rattle.journal_model.specs.rules.ApplyVictims.{failed_if, with_fail, gone_dry, course_after_dry}
use Rattle.journal_model.specs.statements.Complete.{is_answer, is_by_thread}
use Rattle.journal_model.specs.statements.Causes.{in_command}
use Rattle.journal_model.specs.rules.PlainMemory.{Plain, plain_after_kind}
use Rattle.journal_model.specs.rules.Legal.{World, Made, first_state, first_world, world_after, world_along, made_along, made_of, state_of, IsLegalFrom, IsLegal}
use Rattle.laws.proofs.law_state.Shown.{legal_step}
use Rattle.laws.proofs.law_state.JournalCourses.{is_of_engine, is_of_reaper, of_engine, of_reaper}
use Rattle.std.proofs.lemmas.Bool.{or_left, or_right}
use Rattle.laws.specs.law_sound.Sound.{Owned}
use Rattle.laws.proofs.law_sound.Turns.{Turn, start, lock, refuse, give_up, act}
use Rattle.laws.proofs.law_sound.Gifts.{Gives, exists, no_buffer, no_swap, gives_up, refuses, seeks, fills}
use Rattle.laws.proofs.law_sound.Along.{Stepped, stepped_of, OfWorker, packet, done, reap, of_worker}
use Rattle.laws.proofs.law_sound.Steadies.{next_course, own_course}
use Rattle.laws.proofs.law_sound.Bufs.{clash}
use Rattle.laws.proofs.law_sound.Owners.{none_or}
use Rattle.laws.proofs.law_sound.Reservations.{one_course}
use Rattle.laws.proofs.law_sound.OwnedKeeps.{turn_keeps}
use Rattle.laws.proofs.lemma_causes_trail.Windows.{others_command, cut_command, more_command}
use Rattle.laws.specs.law_causes.Refused.{LeavesNothing}
use Rattle.laws.proofs.law_causes.Steps.{by_self}
use Rattle.laws.proofs.law_causes.Carry.{of_search, of_fill}
use Rattle.laws.proofs.law_causes.Along.{shown_same, not_by}

-- ---- which entries change the plain memory

abbrev pub leaves_memory : Kind → Bool
leaves_memory (kind.New b) = false
leaves_memory (kind.Free b g) = false
leaves_memory (kind.Arm engine n) = false
leaves_memory (kind.Result r) = false
leaves_memory _ = true

leaves : (script : Script) (p : Plain) (t : ℕ) (k : Kind) → leaves_memory k ≡ true → (plain_after_kind script p t k).memory ≡ p.memory
leaves script p t (kind.New b) h = absurd (clash (sym h))
leaves script p t (kind.Free b g) h = absurd (clash (sym h))
leaves script p t (kind.Arm engine n) h = absurd (clash (sym h))
leaves script p t (kind.Result r) h = absurd (clash (sym h))
leaves script p t _ h = refl

-- ---- a command that hasn't made anything

fail_made : (b : BufId) (d : Deny) (c : Course) → (with_fail b d c).made ≡ c.made
fail_made b d c = by (is_caught c b)
  where
    failing : Bool → Course
    failing q = if q then record c { caught = map (failed_if d b) c.caught } else record c { fail = Some d }

    by : (q : Bool) → (failing q).made ≡ c.made
    by true = refl
    by false = refl

dry_made : (script : Script) (s : State) (b : BufId) (k : ℕ) (o : Option Command) (c : Course) → (course_after_dry script s b k o c).made ≡ c.made
dry_made script s b k None c = refl
dry_made script s b k (Some x) c = by (is_caught c b)
  where
    drying : Bool → Course
    drying q = if q then with_fail b deny.NoSpace c else gone_dry k (length (forced_places (place_search_at_work script s c x b).list)) c

    by : (q : Bool) → (drying q).made ≡ c.made
    by true = fail_made b deny.NoSpace c
    by false = refl

take_made : (b : BufId) (c : Course) → (if is_caught c b then c else record c { forced = false; dry = 0 }).made ≡ false → c.made ≡ false
take_made b c = by (is_caught c b)
  where
    taking : Bool → Course
    taking q = if q then c else record c { forced = false; dry = 0 }

    by : (q : Bool) → (taking q).made ≡ false → c.made ≡ false
    by true h = h
    by false h = h

-- what is still unmade was, and no byte has changed
unmade_before : (script : Script) (s : State) (t : ℕ) (k : Kind) → is_answer k ≡ false → (next_course script s t k).made ≡ false → ((course s t).made ≡ false) × (leaves_memory k ≡ true)
unmade_before script s t (kind.New b) a h = absurd (clash h)
unmade_before script s t (kind.Free b g) a h = absurd (clash h)
unmade_before script s t (kind.Arm engine n) a h = absurd (clash h)
unmade_before script s t (kind.Bulk group) a h = absurd (clash h)
unmade_before script s t (kind.Result r) a h = absurd (clash a)
unmade_before script s t (kind.Refused d) a h = absurd (clash a)
unmade_before script s t (kind.Take b mem spans) a h = (take_made b (course s t) h, refl)
unmade_before script s t (kind.Dry b k w) a h = (sym (dry_made script s b k (command_at_work script s t) (course s t)) ∙ h, refl)
unmade_before script s t (kind.NoPages b) a h = (sym (fail_made b deny.NoPages (course s t)) ∙ h, refl)
unmade_before script s t _ a h = (h, refl)

-- while a command hasn't made anything, none of its entries has changed a byte
abbrev pub Unmade : State → List Made → Type 0
Unmade s j = (t : ℕ) → (course s t).made ≡ false → list_all (λ m. leaves_memory m.entry.kind) (in_command t j) ≡ true

module _ (script : Script) (s : State) (j : List Made) (unmade : Unmade s j) where
  own_unmade : (t : ℕ) (k k' : Kind) → is_answer k' ≡ is_answer k → leaves_memory k' ≡ leaves_memory k → (next_course script s t k).made ≡ false →
      list_all (λ m. leaves_memory m.entry.kind) (in_command t (j ++ record { before = s; entry = record { who = actor.Thread t; kind = k' } } ∷ [])) ≡ true
  own_unmade t k k' answer same h = by (is_answer k) refl
    where
      by : (q : Bool) → is_answer k ≡ q → list_all (λ m. leaves_memory m.entry.kind) (in_command t (j ++ record { before = s; entry = record { who = actor.Thread t; kind = k' } } ∷ [])) ≡ true
      by true q = ap (list_all (λ m. leaves_memory m.entry.kind)) (cut_command script t j (record { before = s; entry = record { who = actor.Thread t; kind = k' } }) (by_self t) (answer ∙ q))
      by false q =
          let was = unmade_before script s t k q h in
          ap (list_all (λ m. leaves_memory m.entry.kind)) (more_command script t j (record { before = s; entry = record { who = actor.Thread t; kind = k' } }) (by_self t) (answer ∙ q))
          ∙ (list_all-append (λ m. leaves_memory m.entry.kind) (in_command t j) (record { before = s; entry = record { who = actor.Thread t; kind = k' } } ∷ []) ∙ ap₂ (λ x y. x && (y && true)) (unmade t was.0) (same ∙ was.1))

  others_unmade : (u : ℕ) (m : Made) → is_by_thread u m.entry.who ≡ false → (course s u).made ≡ false → list_all (λ m. leaves_memory m.entry.kind) (in_command u (j ++ m ∷ [])) ≡ true
  others_unmade u m other h = ap (list_all (λ m. leaves_memory m.entry.kind)) (others_command script u j m other) ∙ unmade u h

  unmade_keeps : (owned : Owned script s) (who : Actor) (k k' : Kind) → is_answer k' ≡ is_answer k → leaves_memory k' ≡ leaves_memory k → next script s who ≡ Ok k → Unmade (applied script s who k) (j ++ record { before = s; entry = record { who = who; kind = k' } } ∷ [])
  unmade_keeps owned (actor.Thread t) k k' answer same h u e = by (stepped_of script s t k owned.courses h)
    where
      by : Stepped script s t k → list_all (λ m. leaves_memory m.entry.kind) (in_command u (j ++ record { before = s; entry = record { who = actor.Thread t; kind = k' } } ∷ [])) ≡ true
      by st =
          ⊎_elim
          (λ q. subst (λ v. list_all (λ m. leaves_memory m.entry.kind) (in_command v (j ++ record { before = s; entry = record { who = actor.Thread t; kind = k' } } ∷ [])) ≡ true) (sym q)
          (own_unmade t k k' answer same (sym (ap (λ c. c.made) (own_course script s t k st.here)) ∙ subst (λ v. (course (applied script s (actor.Thread t) k) v).made ≡ false) q e)))
          (λ n. others_unmade u (record { before = s; entry = record { who = actor.Thread t; kind = k' } }) (not_by t u n) (sym (ap (λ c. c.made) ((one_course script s t k st.here).others u n)) ∙ e))
          (cases_eq u t)
  unmade_keeps owned (actor.Engine i) k k' answer same h u e = by k (of_worker k (or_left (is_of_engine k) (is_of_reaper k) (of_engine script s i k h))) e
    where
      by : (k : Kind) → OfWorker k → (course (applied script s (actor.Engine i) k) u).made ≡ false → list_all (λ m. leaves_memory m.entry.kind) (in_command u (j ++ record { before = s; entry = record { who = actor.Engine i; kind = k' } } ∷ [])) ≡ true
      by k packet e = others_unmade u (record { before = s; entry = record { who = actor.Engine i; kind = k' } }) refl e
      by k done e = others_unmade u (record { before = s; entry = record { who = actor.Engine i; kind = k' } }) refl e
      by k reap e = others_unmade u (record { before = s; entry = record { who = actor.Engine i; kind = k' } }) refl e
  unmade_keeps owned actor.Reaper k k' answer same h u e = by k (of_worker k (or_right (is_of_engine k) (is_of_reaper k) (of_reaper script s k h))) e
    where
      by : (k : Kind) → OfWorker k → (course (applied script s actor.Reaper k) u).made ≡ false → list_all (λ m. leaves_memory m.entry.kind) (in_command u (j ++ record { before = s; entry = record { who = actor.Reaper; kind = k' } } ∷ [])) ≡ true
      by k packet e = others_unmade u (record { before = s; entry = record { who = actor.Reaper; kind = k' } }) refl e
      by k done e = others_unmade u (record { before = s; entry = record { who = actor.Reaper; kind = k' } }) refl e
      by k reap e = others_unmade u (record { before = s; entry = record { who = actor.Reaper; kind = k' } }) refl e

-- ---- a refusal

module _ (script : Script) (s : State) (c : Course) (cmd : Command) where
  at_start : Turn script s c cmd task.Start → c.made ≡ false
  at_start (start m q) = m

  at_lock : (b : BufId) → Turn script s c cmd (task.Lock b) → c.made ≡ false
  at_lock b (lock m n f) = m

  at_end : (d : Deny) → Turn script s c cmd (task.GiveUp d) → c.made ≡ false
  at_end d (give_up on l f u) = on.works.unmade

  at_refuse : (d : Deny) → Turn script s c cmd (task.Refuse d) → c.made ≡ false
  at_refuse d (refuse on r) = on.works.unmade

  at_act : Turn script s c cmd task.Act → c.made ≡ false
  at_act (act on l f u) = on.works.unmade

  refused_unmade : (x : Task) (d : Deny) → Turn script s c cmd x → Gives script s c cmd x (kind.Refused d) → c.made ≡ false
  refused_unmade x d turn (exists e) = at_start turn
  refused_unmade x d turn (no_buffer {b} e) = at_lock b turn
  refused_unmade x d turn gives_up = at_end d turn
  refused_unmade x d turn refuses = at_refuse d turn
  refused_unmade x d turn (no_swap e) = at_act turn
  refused_unmade x d turn (seeks {b} {aim} f) = absurd (clash (sym (of_search script s c cmd b aim (kind.Refused d) f)))
  refused_unmade x d turn (fills {b} f) = absurd (clash (sym (of_fill script s c cmd b (kind.Refused d) f)))

all_there : (p : Made → Bool) (xs : List Made) (i : ℕ) (m : Made) → list_all p xs ≡ true → slice_get xs i ≡ Some m → p m ≡ true
all_there p [] i m h e = cc
all_there p (x ∷ xs) zero m h e = let it : x ≡ m = cc in subst (λ z. p z ≡ true) it (and_parts (p x) (list_all p xs) h).0
all_there p (x ∷ xs) (suc i) m h e = all_there p xs i m (and_parts (p x) (list_all p xs) h).1 e

pub refusal_leaves : (script : Script) (s : State) (j : List Made) → Unmade s j → Owned script s → (t : ℕ) (d : Deny) → next script s (actor.Thread t) ≡ Ok (kind.Refused d) → LeavesNothing script j s t d
refusal_leaves script s j unmade owned t d h = by (stepped_of script s t (kind.Refused d) owned.courses h)
  where
    by : Stepped script s t (kind.Refused d) → LeavesNothing script j s t d
    by st =
        record {
          memory = λ i m p e. leaves script p _ m.entry.kind (all_there (λ m. leaves_memory m.entry.kind) (in_command t j) i m (unmade t (refused_unmade script s (course s t) st.step.cmd st.step.task d st.turn st.gives)) e);
          refusal = λ p. refl;
          free = λ b stamp e f.
              let now = turn_keeps script s t st.step.cmd st.here st.at owned st.step.task (kind.Refused d) st.turn st.gives in
              let has = now.holder b stamp f in
              ⊎_elim
              (λ q. none_or (course (applied script s (actor.Thread t) (kind.Refused d)) t).stamp stamp (ap (λ c. c.stamp) (own_course script s t (kind.Refused d) st.here)) (subst (λ u. (course (applied script s (actor.Thread t) (kind.Refused d)) u).stamp ≡ Some stamp) q has.1))
              (λ n. n (owned.one has.0 t stamp (sym (ap (λ c. c.stamp) ((one_course script s t (kind.Refused d) st.here).others has.0 n)) ∙ has.1) e))
              (cases_eq has.0 t);
        }

-- ---- along a journal

module _ (script : Script) (Keeps : State → Type 0) (keeps : (s : State) (who : Actor) (k : Kind) → Keeps s → next script s who ≡ Ok k → Keeps (applied script s who k)) (owned : (s : State) → Keeps s → Owned script s) where
  -- what is known after the entries
  pub record Behind (s : State) (j : List Made) : Type 0 where
    pub kept : Keeps s
    pub unmade : Unmade s j

  unmade_along : (w : World) (es : List Entry) (j : List Made) → Keeps w.state → Unmade w.state j → IsLegalFrom script w es → Behind (world_along script w es).state (j ++ made_along script w es)
  unmade_along w [] j kept unmade h = record { kept = kept; unmade = subst (Unmade w.state) (sym (append-nil j)) unmade }
  unmade_along w (e ∷ es) j kept unmade h =
      let l = legal_step script w e h.0 in
      subst (Behind (world_along script (world_after script w e) es).state) (append_assoc j (record { before = w.state; entry = e } ∷ []) (made_along script (world_after script w e) es))
      (unmade_along (world_after script w e) es (j ++ record { before = w.state; entry = e } ∷ []) (subst Keeps (sym l.state) (keeps w.state e.who l.kind kept l.step))
      (subst (λ f. Unmade (world_after script w e).state (j ++ record { before = w.state; entry = f } ∷ [])) (sym l.entry)
      (subst (λ s. Unmade s (j ++ record { before = w.state; entry = record { who = e.who; kind = showing script w.stores w.state e.who l.kind } } ∷ [])) (sym l.state)
      (unmade_keeps script w.state j unmade (owned w.state kept) e.who l.kind (showing script w.stores w.state e.who l.kind)
      (shown_same is_answer (λ r r'. refl) (λ n i p p'. refl) script w.stores w.state e.who l.kind) (shown_same leaves_memory (λ r r'. refl) (λ n i p p'. refl) script w.stores w.state e.who l.kind) l.step)))
      h.1)

  pub refusals_law : Keeps (first_state script) → (journal : List Entry) (t : ℕ) (d : Deny) → IsLegal script journal → next script (state_of script journal) (actor.Thread t) ≡ Ok (kind.Refused d)
      → LeavesNothing script (made_of script journal) (state_of script journal) t d
  refusals_law first journal t d h n =
      let b = unmade_along (first_world script) journal [] first (λ u e. refl) h in
      refusal_leaves script (state_of script journal) (made_of script journal) b.unmade (owned (state_of script journal) b.kept) t d n
