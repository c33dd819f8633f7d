-- Along a legal journal each entry that gives up has its cause.
use Rattle.std.proofs.Common.{◌≡◌, ℕ, Bool, true, false, List, [], ◌∷◌, ◌++◌, length, Some, Ok, refl, sym, ◌∙◌, ap, ap₂, subst, arith, inl, ⊎_elim}
use Rattle.std.specs.Prelude.{unwrap_or, ◌==◌, ◌&&◌}
use Rattle.std.specs.List.{list_any}
use Rattle.std.proofs.lemmas.Bool.{cases_eq, or_left, or_right}
use Rattle.std.proofs.lemmas.Bool.Decides.{nat_tests}
use Rattle.ttm_base.specs.declared.BufId.{BufId}
use Rattle.ttm_base.specs.declared.Actor.{Actor}
use Rattle.ttm_base.specs.declared.Actor.TheVariants as actor
use Rattle.journal_model.specs.declared.script.Script.{Script}
use Rattle.journal_model.specs.declared.script.Command.{Command}
use Rattle.journal_model.specs.declared.state.State.{State}
use Rattle.journal_model.specs.declared.entry.Entry.{Entry}
use Rattle.journal_model.specs.declared.entry.Kind.{Kind}
use Rattle.journal_model.specs.declared.entry.Kind.TheVariants as kind
use Rattle.journal_model.specs.declared.entry.Shown.{Shown}
use Rattle.journal_model.specs.rules.State.{new_buffer, buffer, course, has_buffer}
use Rattle.journal_model.specs.rules.Commands.{named}
use Rattle.journal_model.specs.rules.Stores.{Stores, showing}
use Rattle.journal_model.specs.rules.Next.{next}
use Rattle.journal_model.specs.rules.Apply.{applied, thread_of}
use Rattle.journal_model.specs.statements.Complete.{is_answer, is_by_thread}
use Rattle.journal_model.specs.statements.Causes.{is_take_of, dry_of, presses, is_no_pages_of, has_its_cause, have_causes}
use Rattle.journal_model.specs.rules.Legal.{World, Made, first_state, first_world, world_after, made_along, made_of, IsLegalFrom, IsLegal}
use Rattle.laws.proofs.law_state.Shown.{legal_step}
use Rattle.laws.proofs.law_state.JournalCourses.{is_of_engine, is_of_reaper, of_engine, of_reaper}
use Rattle.laws.specs.law_sound.Sound.{Owned, command_of}
use Rattle.laws.proofs.law_sound.Along.{Stepped, stepped_of, first_course, OfWorker, packet, done, reap, of_worker}
use Rattle.laws.proofs.law_sound.Steadies.{own_course}
use Rattle.laws.proofs.law_sound.Bufs.{none_missing}
use Rattle.laws.proofs.law_sound.Reservations.{one_course}
use Rattle.laws.proofs.lemma_end_measure.Frame.{others_buffer}
use Rattle.laws.proofs.lemma_causes_trail.Windows.{quiet_others, others_window, others_command, Trail}
use Rattle.laws.proofs.lemma_causes_trail.Tasks.{seeking_same, places_of}
use Rattle.laws.proofs.lemma_causes_trail.Stages.{Stage, calm, pressed, spent, frameless, Alike}
use Rattle.laws.proofs.law_causes.Carry.{own_stage}
use Rattle.laws.proofs.law_causes.Reasons.{NoneGives, own_cause}
use Rattle.ttm_base.specs.Placement.{forced_places}

-- ---- what is shown

-- what a test doesn't read of results and packets it doesn't tell apart
pub shown_same : {A : Type 0} (f : Kind → A) → ((r r' : Shown) → f (kind.Result r) ≡ f (kind.Result r')) → ((n k : ℕ) (p p' : List ℕ) → f (kind.Packet n k p) ≡ f (kind.Packet n k p')) →
    (script : Script) (stores : Stores) (s : State) (who : Actor) (k : Kind) → f (showing script stores s who k) ≡ f k
shown_same f r p script stores s who (kind.Packet n k piece) = p n k _ piece
shown_same f r p script stores s who (kind.Result x) = r _ x
shown_same f r p script stores s who _ = refl

shown_alike : (script : Script) (stores : Stores) (s : State) (who : Actor) (k : Kind) → Alike (showing script stores s who k) k
shown_alike script stores s who k =
    record {
      answer = shown_same is_answer (λ r r'. refl) (λ n i p p'. refl) script stores s who k;
      takes = λ b. shown_same (is_take_of b) (λ r r'. refl) (λ n i p p'. refl) script stores s who k;
      dry = λ b. shown_same (dry_of b) (λ r r'. refl) (λ n i p p'. refl) script stores s who k;
      presses = shown_same presses (λ r r'. refl) (λ n i p p'. refl) script stores s who k;
      lacks = λ bs. shown_same (is_no_pages_of bs) (λ r r'. refl) (λ n i p p'. refl) script stores s who k;
    }

-- ---- entries of others

module _ (script : Script) (s s' : State) (u : ℕ) (cmd : Command) (j : List Made) (m : Made) (other : is_by_thread u m.entry.who ≡ false) (same : (d : BufId) → has_buffer (course s u).held d ≡ true → buffer s' d ≡ buffer s d) where
  others_stage : Stage script s j u (course s u) cmd → Stage script s' (j ++ m ∷ []) u (course s u) cmd
  others_stage (calm h quiet) = calm h (λ d. quiet_others script u j m d other (quiet d))
  others_stage (pressed p) =
      pressed (record {
        works = p.works;
        fine = p.fine;
        b = p.b;
        aim = p.aim;
        seeking = seeking_same script s s' cmd p.b p.aim (λ d h. same d (none_missing (course s u) cmd d p.works.whole h)) p.seeking;
        trail = subst (Trail script u p.b (places_of script cmd p.b p.aim) (course s u).dry) (sym (others_window script u j m p.b other)) p.trail;
        quiet = λ d n. quiet_others script u j m d other (p.quiet d n);
      })
  others_stage (spent p) =
      spent (record {
        works = p.works;
        alone = p.alone;
        failed = p.failed;
        b = p.b;
        is_named = p.is_named;
        list = p.list;
        trail = subst (Trail script u p.b p.list (length (forced_places p.list))) (sym (others_window script u j m p.b other)) p.trail;
      })
  others_stage (frameless p) =
      frameless (record {
        works = p.works;
        alone = p.alone;
        failed = p.failed;
        said = ap (list_any (λ x. is_no_pages_of (named cmd) x.entry.kind)) (others_command script u j m other) ∙ p.said;
      })

-- ---- each entry

-- how far each thread's searches are
abbrev pub Searches : Script → State → List Made → Type 0
Searches script s j = (t : ℕ) (cmd : Command) → command_of script t (course s t) ≡ Some cmd → Stage script s j t (course s t) cmd

pub not_by : (t u : ℕ) → (u ≡ t → ⊥) → is_by_thread u (actor.Thread t) ≡ false
not_by t u n = by (t == u) refl
  where
    equal : (a b : ℕ) → (a == b) ≡ true → b ≡ a
    equal a b h = grind (arith, nat_tests)

    by : (q : Bool) → (t == u) ≡ q → q ≡ false
    by true e = absurd (n (equal t u e))
    by false e = refl

module _ (script : Script) (s : State) (j : List Made) (owned : Owned script s) (searches : Searches script s j) where
  thread_keeps : (t : ℕ) (k k' : Kind) → Alike k' k → Stepped script s t k → Searches script (applied script s (actor.Thread t) k) (j ++ record { before = s; entry = record { who = actor.Thread t; kind = k' } } ∷ [])
  thread_keeps t k k' alike st u cmd e = ⊎_elim (λ q. mine q) (λ n. another n) (cases_eq u t)
    where
      at : command_of script t (course s t) ≡ Some st.step.cmd
      at = st.at

      mine : u ≡ t → Stage script (applied script s (actor.Thread t) k) (j ++ record { before = s; entry = record { who = actor.Thread t; kind = k' } } ∷ []) u (course (applied script s (actor.Thread t) k) u) cmd
      mine q =
          subst (λ v. Stage script (applied script s (actor.Thread t) k) (j ++ record { before = s; entry = record { who = actor.Thread t; kind = k' } } ∷ []) v (course (applied script s (actor.Thread t) k) v) cmd) (sym q)
          (subst (λ c. Stage script (applied script s (actor.Thread t) k) (j ++ record { before = s; entry = record { who = actor.Thread t; kind = k' } } ∷ []) t c cmd) (sym (own_course script s t k st.here))
          (own_stage script s t st.step.cmd st.step.at_work owned j k' st.here st.at st.step.task k st.step.is_task alike (st.turn, st.step.step, st.gives) (searches t st.step.cmd st.at) cmd
          (sym (ap (command_of script t) (own_course script s t k st.here)) ∙ subst (λ v. command_of script v (course (applied script s (actor.Thread t) k) v) ≡ Some cmd) q e)))

      another : (u ≡ t → ⊥) → Stage script (applied script s (actor.Thread t) k) (j ++ record { before = s; entry = record { who = actor.Thread t; kind = k' } } ∷ []) u (course (applied script s (actor.Thread t) k) u) cmd
      another n =
          let is = (one_course script s t k st.here).others u n in
          subst (λ c. Stage script (applied script s (actor.Thread t) k) (j ++ record { before = s; entry = record { who = actor.Thread t; kind = k' } } ∷ []) u c cmd) (sym is)
          (others_stage script s (applied script s (actor.Thread t) k) u cmd j (record { before = s; entry = record { who = actor.Thread t; kind = k' } }) (not_by t u n)
          (λ d h. ap (λ x. unwrap_or x (new_buffer 0)) (others_buffer script s t st.step.cmd st.step.at_work owned st.step.task k u d st.turn st.gives n (inl h)))
          (searches u cmd (sym (ap (command_of script u) is) ∙ e)))

  worker_keeps : (who : Actor) (k k' : Kind) → ((u : ℕ) → is_by_thread u who ≡ false) → OfWorker k → Searches script (applied script s who k) (j ++ record { before = s; entry = record { who = who; kind = k' } } ∷ [])
  worker_keeps who k k' other (packet {n} {k = i} {piece}) u cmd e = others_stage script s (applied script s who (kind.Packet n i piece)) u cmd j (record { before = s; entry = record { who = who; kind = k' } }) (other u) (λ d h. refl) (searches u cmd e)
  worker_keeps who k k' other (done {n}) u cmd e = others_stage script s (applied script s who (kind.Done n)) u cmd j (record { before = s; entry = record { who = who; kind = k' } }) (other u) (λ d h. refl) (searches u cmd e)
  worker_keeps who k k' other (reap {g}) u cmd e = others_stage script s (applied script s who (kind.Reap g)) u cmd j (record { before = s; entry = record { who = who; kind = k' } }) (other u) (λ d h. refl) (searches u cmd e)

  worker_cause : (t : ℕ) (k : Kind) → OfWorker k → has_its_cause script j s t k ≡ true
  worker_cause t k packet = refl
  worker_cause t k done = refl
  worker_cause t k reap = refl

  pub searches_keep : (who : Actor) (k k' : Kind) → Alike k' k → next script s who ≡ Ok k → Searches script (applied script s who k) (j ++ record { before = s; entry = record { who = who; kind = k' } } ∷ [])
  searches_keep (actor.Thread t) k k' alike h = thread_keeps t k k' alike (stepped_of script s t k owned.courses h)
  searches_keep (actor.Engine e) k k' alike h = worker_keeps (actor.Engine e) k k' (λ u. refl) (of_worker k (or_left (is_of_engine k) (is_of_reaper k) (of_engine script s e k h)))
  searches_keep actor.Reaper k k' alike h = worker_keeps actor.Reaper k k' (λ u. refl) (of_worker k (or_right (is_of_engine k) (is_of_reaper k) (of_reaper script s k h)))

  pub entry_cause : NoneGives s → (who : Actor) (k : Kind) → next script s who ≡ Ok k → has_its_cause script j s (thread_of who) k ≡ true
  entry_cause none (actor.Thread t) k h =
      let st = stepped_of script s t k owned.courses h in
      own_cause script s t st.step.cmd st.step.at_work j st.step.task k st.step.is_task st.turn st.step.step st.gives none (searches t st.step.cmd st.at)
  entry_cause none (actor.Engine e) k h = worker_cause 0 k (of_worker k (or_left (is_of_engine k) (is_of_reaper k) (of_engine script s e k h)))
  entry_cause none actor.Reaper k h = worker_cause 0 k (of_worker k (or_right (is_of_engine k) (is_of_reaper k) (of_reaper script s k h)))

pub first_searches : (script : Script) → Searches script (first_state script) []
first_searches script t cmd e = subst (λ c. Stage script (first_state script) [] t c cmd) (sym (first_course script t)) (calm (refl, refl, refl, refl) (λ d. refl))

-- ---- along a journal, by what its states keep

module _ (script : Script) (Keeps : State → Type 0) (keeps : (s : State) (who : Actor) (k : Kind) → Keeps s → next script s who ≡ Ok k → Keeps (applied script s who k)) (owned : (s : State) → Keeps s → Owned script s)
    (gives : (s : State) → Keeps s → NoneGives s) where
  caused_along : (w : World) (es : List Entry) (j : List Made) → Keeps w.state → Searches script w.state j → IsLegalFrom script w es → have_causes script j (made_along script w es) ≡ true
  caused_along w [] j kept searches h = refl
  caused_along w (e ∷ es) j kept searches h =
      let l = legal_step script w e h.0 in
      ap₂ (λ a b. a && b)
      (ap (λ f. has_its_cause script j w.state (thread_of f.who) f.kind) l.entry
      ∙ (shown_same (has_its_cause script j w.state (thread_of e.who)) (λ x y. refl) (λ n i p q. refl) script w.stores w.state e.who l.kind ∙ entry_cause script w.state j (owned w.state kept) searches (gives w.state kept) e.who l.kind l.step))
      (caused_along (world_after script w e) es (j ++ record { before = w.state; entry = e } ∷ []) (subst Keeps (sym l.state) (keeps w.state e.who l.kind kept l.step))
      (subst (λ f. Searches script (world_after script w e).state (j ++ record { before = w.state; entry = f } ∷ [])) (sym l.entry)
      (subst (λ s. Searches script s (j ++ record { before = w.state; entry = record { who = e.who; kind = showing script w.stores w.state e.who l.kind } } ∷ [])) (sym l.state)
      (searches_keep script w.state j (owned w.state kept) searches e.who l.kind (showing script w.stores w.state e.who l.kind) (shown_alike script w.stores w.state e.who l.kind) l.step)))
      h.1)

  pub caused_law : Keeps (first_state script) → (journal : List Entry) → IsLegal script journal → have_causes script [] (made_of script journal) ≡ true
  caused_law first journal h = caused_along (first_world script) journal [] first (first_searches script) h
