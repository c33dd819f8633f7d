-- What is known of each thread at a command holds in every state that a legal journal leads to.
use Rattle.std.proofs.Common.{◌≡◌, ℕ, ◌<◌, ◌≤◌, true, false, List, [], ◌∷◌, length, Some, Ok, IsTrue, refl, sym, ◌∙◌, ap, subst, arith, inl, ⊎_elim}
use Rattle.std.specs.Prelude.{slice_get, unwrap_or, ◌&&◌}
use Rattle.std.proofs.lemmas.Bool.{cases_eq, or_left, or_right}
use Rattle.ttm_base.specs.Placement.{forced_places}
use Rattle.ttm_base.specs.declared.BufId.{BufId}
use Rattle.ttm_base.specs.declared.Deny.{Deny}
use Rattle.ttm_base.specs.declared.Actor.{Actor}
use Rattle.ttm_base.specs.declared.Actor.TheVariants as actor
use Rattle.journal_model.specs.declared.script.Script.{Script}
use Rattle.journal_model.specs.declared.script.Decl.{Decl}
use Rattle.journal_model.specs.declared.script.Command.{Command}
use Rattle.journal_model.specs.declared.entry.Entry.{Entry}
use Rattle.journal_model.specs.declared.entry.Kind.{Kind}
use Rattle.journal_model.specs.declared.state.State.{State}
use Rattle.journal_model.specs.declared.state.Course.{Course}
use Rattle.journal_model.specs.rules.State.{new_buffer, new_course, buffer, course, live_in, has_buffer}
use Rattle.journal_model.specs.rules.Commands.{decl, undeclared, asked_places}
use Rattle.journal_model.specs.rules.Ready.{has_some_target, is_in_place, is_filled}
use Rattle.journal_model.specs.scripts.ScriptRules.{is_script}
use Rattle.journal_model.specs.rules.Next.{next}
use Rattle.journal_model.specs.rules.Apply.{applied}
use Rattle.journal_model.specs.rules.Legal.{World, first_state, first_world, world_after, world_along, state_of, IsLegalFrom, IsLegal}
use Rattle.laws.proofs.law_state.Shown.{legal_step}
use Rattle.laws.proofs.law_state.JournalCourses.{is_of_engine, is_of_reaper, of_engine, of_reaper}
use Rattle.laws.proofs.law_state.Lists.{get_within}
use Rattle.laws.proofs.law_state.Rules.{rules_of, declared_pages}
use Rattle.laws.specs.law_sound.Sound.{command_of}
use Rattle.laws.proofs.law_sound.Along.{Stepped, OfWorker, packet, done, reap, of_worker, stepped_of, first_course}
use Rattle.laws.proofs.law_sound.Bufs.{none_missing, clash}
use Rattle.laws.proofs.law_sound.Steadies.{own_course}
use Rattle.laws.proofs.lemma_end_measure.Locks.{few_threads}
use Rattle.laws.proofs.lemma_end_measure.Border.{Known, one, others_same}
use Rattle.laws.proofs.lemma_end_measure.Parts.{after}
use Rattle.laws.proofs.lemma_end_searches.Ways.{way_of_last}
use Rattle.laws.proofs.lemma_end_ways.Keeps.{LeftPlaces, clear_ready}
use Rattle.laws.proofs.law_end.Lasting.{Steady, steady_keeps, steady_first}
use Rattle.laws.proofs.law_answers.Frames.{AreFull, full_keeps, full_first}
use Rattle.laws.proofs.law_answers.Failures.{IsAway, Fares, goes}

pub record Kept (script : Script) (s : State) : Type 0 where
  pub steady : Steady script s
  pub full : AreFull s.core.buffers
  pub fares : (u : ℕ) (cmd : Command) → command_of script u (course s u) ≡ Some cmd → Fares script s (course s u) cmd

module _ (script : Script) (fits : IsTrue (is_script script)) where
  pages : (i : ℕ) (d : Decl) → slice_get script.buffers i ≡ Some d → 1 ≤ d.pages
  pages i d e =
      let p = declared_pages script (rules_of script fits) (record { 0 = i }) (get_within script.buffers i d e) in
      let is : (decl script (record { 0 = i })).pages ≡ d.pages = ap (λ o. (unwrap_or o undeclared).pages) e in
      let some = p.some in
      omega (arith, some, is)

  known : (s : State) → Steady script s → Known script s
  known s inv = record { rules = rules_of script fits; threads = few_threads script fits; pages = pages; good = inv.good; owned = inv.sound.owned }

  module _ (s : State) (t : ℕ) (k : Kind) (inv : Kept script s) (st : Stepped script s t k) where
    places : LeftPlaces script s (course s t) st.step.cmd
    places b on more =
        let p = inv.steady.dry t st.step.cmd st.at on.fine more in
        let it : p.b ≡ b = (let z : Some p.b ≡ Some b = sym p.first ∙ on.first in cc) in
        (subst (λ d. has_some_target (buffer s d) ≡ false) it p.untargeted, subst (λ d. (course s t).dry < length (forced_places (asked_places script st.step.cmd d))) it p.fewer)

    full_then : AreFull (after script s t k).core.buffers
    full_then =
        full_keeps script s t st.step.cmd (inv.steady.victims t).few (λ v last. way_of_last (buffer s) (course s t).caught v (inv.steady.victims t).few (inv.steady.victims t).ways last) inv.full st.step.task k st.turn st.gives

    own_fares : (cmd : Command) → command_of script t (course (after script s t k) t) ≡ Some cmd → Fares script (after script s t k) (course (after script s t k) t) cmd
    own_fares cmd at =
        let is = own_course script s t k st.here in
        subst (λ c. Fares script (after script s t k) c cmd) (sym is)
        (goes script s t st.step.cmd st.here st.at st.step.at_work (known s inv.steady) inv.steady.carrying inv.full
        (clear_ready script s t st.step.cmd st.here st.at (known s inv.steady) inv.steady.bare inv.steady.carrying places)
        (inv.fares t st.step.cmd st.at) st.step.task k st.turn st.gives cmd (subst (λ c. command_of script t c ≡ Some cmd) is at))

    -- what another thread has stays
    held_same : (u : ℕ) → (u ≡ t → ⊥) → (b : BufId) → has_buffer (course s u).held b ≡ true → buffer (after script s t k) b ≡ buffer s b
    held_same u n b h = ap (λ o. unwrap_or o (new_buffer 0)) (others_same script s t k (known s inv.steady) st u b n (inl h))

    other_fares : (u : ℕ) → (u ≡ t → ⊥) → (cmd : Command) → command_of script u (course (after script s t k) u) ≡ Some cmd → Fares script (after script s t k) (course (after script s t k) u) cmd
    other_fares u n cmd at = subst (λ c. Fares script (after script s t k) c cmd) (sym same) (from (inv.fares u cmd (subst (λ c. command_of script u c ≡ Some cmd) same at)))
      where
        same : course (after script s t k) u ≡ course s u
        same = (one script s t k (known s inv.steady) st).others u n

        from : Fares script s (course s u) cmd → Fares script (after script s t k) (course s u) cmd
        from f =
            record {
              away = λ b h some. subst (IsAway script (course s u) cmd b) (sym (held_same u n b h)) (f.away b h (subst (λ y. has_some_target y ≡ true) (held_same u n b h) some));
              failed = λ d e.
                  let w = f.failed d e in
                  record {
                    works = w.works;
                    b = w.b;
                    member = w.member;
                    unready = ap (λ y. is_in_place script cmd w.b y && is_filled cmd y) (held_same u n w.b (none_missing (course s u) cmd w.b w.works.whole w.member)) ∙ w.unready;
                  };
            }

    thread_fares : (u : ℕ) (cmd : Command) → command_of script u (course (after script s t k) u) ≡ Some cmd → Fares script (after script s t k) (course (after script s t k) u) cmd
    thread_fares u cmd at =
        ⊎_elim
        (λ e. subst (λ v. Fares script (after script s t k) (course (after script s t k) v) cmd) (sym e) (own_fares cmd (subst (λ v. command_of script v (course (after script s t k) v) ≡ Some cmd) e at)))
        (λ n. other_fares u n cmd at)
        (cases_eq u t)

  again : (s z : State) (c : Course) (cmd : Command) → z.core.buffers ≡ s.core.buffers → Fares script s c cmd → Fares script z c cmd
  again s z c cmd e f =
      record {
        away = λ b h some. subst (IsAway script c cmd b) (same b) (f.away b h (subst (λ y. has_some_target y ≡ true) (sym (same b)) some));
        failed = λ d g.
            let w = f.failed d g in
            record { works = w.works; b = w.b; member = w.member; unready = ap (λ y. is_in_place script cmd w.b y && is_filled cmd y) (sym (same w.b)) ∙ w.unready };
      }
    where
      same : (b : BufId) → buffer s b ≡ buffer z b
      same b = ap (λ xs. unwrap_or (live_in xs b) (new_buffer 0)) (sym e)

  worker_fares : (s : State) (who : Actor) (k : Kind) → OfWorker k → Kept script s → (u : ℕ) (cmd : Command) → command_of script u (course (applied script s who k) u) ≡ Some cmd → Fares script (applied script s who k) (course (applied script s who k) u) cmd
  worker_fares s who k packet inv u cmd at = again s (applied script s who k) (course s u) cmd refl (inv.fares u cmd at)
  worker_fares s who k done inv u cmd at = again s (applied script s who k) (course s u) cmd refl (inv.fares u cmd at)
  worker_fares s who k reap inv u cmd at = again s (applied script s who k) (course s u) cmd refl (inv.fares u cmd at)

  worker_full : (s : State) (who : Actor) (k : Kind) → OfWorker k → AreFull s.core.buffers → AreFull (applied script s who k).core.buffers
  worker_full s who k packet h = h
  worker_full s who k done h = h
  worker_full s who k reap h = h

  worker_kept : (s : State) (who : Actor) (k : Kind) → Kept script s → next script s who ≡ Ok k → OfWorker k → Kept script (applied script s who k)
  worker_kept s who k inv h w = record { steady = steady_keeps script fits s who k inv.steady h; full = worker_full s who k w inv.full; fares = worker_fares s who k w inv }

  kept_keeps : (s : State) (who : Actor) (k : Kind) → Kept script s → next script s who ≡ Ok k → Kept script (applied script s who k)
  kept_keeps s (actor.Thread t) k inv h =
      let st = stepped_of script s t k inv.steady.sound.owned.courses h in
      record { steady = steady_keeps script fits s (actor.Thread t) k inv.steady h; full = full_then s t k inv st; fares = thread_fares s t k inv st }
  kept_keeps s (actor.Engine e) k inv h = worker_kept s (actor.Engine e) k inv h (of_worker k (or_left (is_of_engine k) (is_of_reaper k) (of_engine script s e k h)))
  kept_keeps s actor.Reaper k inv h = worker_kept s actor.Reaper k inv h (of_worker k (or_right (is_of_engine k) (is_of_reaper k) (of_reaper script s k h)))

  kept_first : Kept script (first_state script)
  kept_first =
      record {
        steady = steady_first script fits;
        full = full_first script;
        fares = λ u cmd at. subst (λ c. Fares script (first_state script) c cmd) (sym (first_course script u)) (record { away = λ b h some. absurd (clash (sym h)); failed = λ d f. absurd (no_fail d f) });
      }
    where
      no_fail : (d : Deny) → (new_course 0).fail ≡ Some d → ⊥
      no_fail d f = cc

  kept_along : (w : World) (es : List Entry) → Kept script w.state → IsLegalFrom script w es → Kept script (world_along script w es).state
  kept_along w [] inv h = inv
  kept_along w (e ∷ es) inv h =
      let l = legal_step script w e h.0 in
      kept_along (world_after script w e) es (subst (Kept script) (sym l.state) (kept_keeps w.state e.who l.kind inv l.step)) h.1

  pub kept_law : (journal : List Entry) → IsLegal script journal → Kept script (state_of script journal)
  kept_law journal h = kept_along (first_world script) journal kept_first h
