-- What the new job of a legal entry touches, by kind.
use Rattle.std.proofs.Common.{◌≡◌, ℕ, ◌<◌, Bool, true, false, List, [], ◌∷◌, ◌++◌, length, Some, Ok, IsTrue, refl, sym, subst, ◌∙◌, ap, arith}
use Rattle.std.specs.Prelude.{slice_get, flat_map, nat_le, ◌&&◌, ◌+◌}
use Rattle.std.specs.List.{list_all}
use Rattle.std.proofs.lemmas.Bool.{or_left, or_right}
use Rattle.ttm_base.specs.declared.Mem.{Mem}
use Rattle.ttm_base.specs.declared.Mem.TheVariants.{System, Tt, Vram}
use Rattle.ttm_base.specs.declared.BufId.{BufId}
use Rattle.ttm_base.specs.declared.Op.{Op}
use Rattle.ttm_base.specs.declared.Actor.{Actor}
use Rattle.ttm_base.specs.declared.Actor.TheVariants as actor
use Rattle.ttm_base.specs.Pages as pages
use Rattle.ttm_base.specs.Cutting.{packets_of}
use Rattle.journal_model.specs.declared.script.Script.{Script}
use Rattle.journal_model.specs.declared.script.Command.{Command}
use Rattle.journal_model.specs.declared.script.Command.TheVariants as command
use Rattle.journal_model.specs.declared.entry.Entry.{Entry}
use Rattle.journal_model.specs.declared.entry.Kind.{Kind}
use Rattle.journal_model.specs.declared.state.State.{State}
use Rattle.journal_model.specs.declared.state.Core.{Core}
use Rattle.journal_model.specs.declared.state.Job.{Job}
use Rattle.journal_model.specs.scripts.ScriptRules.{is_script}
use Rattle.journal_model.specs.rules.State.{buffer, buffer_in, live_in}
use Rattle.journal_model.specs.rules.Commands.{decl, named, command_at_work}
use Rattle.journal_model.specs.scripts.CommandRules.{is_op, is_command, is_between}
use Rattle.journal_model.specs.rules.Places.{packet_place, frames_of}
use Rattle.journal_model.specs.rules.Holds.{has_number}
use Rattle.journal_model.specs.rules.Ready.{is_ready, uses_bytes}
use Rattle.journal_model.specs.rules.Waits.{jobs_before_use}
use Rattle.journal_model.specs.rules.PageSteps.{next_job}
use Rattle.journal_model.specs.rules.Next.{next}
use Rattle.journal_model.specs.rules.Apply.{applied}
use Rattle.journal_model.specs.rules.ApplyCommands.{named_in}
use Rattle.journal_model.specs.rules.ApplyJobs.{ops_of}
use Rattle.journal_model.specs.rules.Legal.{World, first_world, world_of, state_of, stores_of, IsLegalNext, IsLegal}
use Rattle.journal_model.specs.rules.PlainMemory.{Memory, OwedProbes, plain_of}
use Rattle.law_facts.specs.Facts.{touches, FreePagesAreFenced}
use Rattle.laws.specs.law_state.GoodState.{GoodState, HasPages}
use Rattle.laws.specs.lemma_bytes_told.Told.{Told, still, makes, frees, leaves, takes, untakes, populates, swaps_in, depopulates, binds, unbinds, moves_up, moves_across, moves_down, evicts, catches, swaps_out, arms, reads, writes, results}
use Rattle.laws.proofs.law_state.Lists.{get_within}
use Rattle.laws.proofs.law_state.Rules.{Rules, rules_of, at_work_rules}
use Rattle.laws.proofs.law_state.Shown.{LegalStep, legal_step}
use Rattle.laws.proofs.law_state.GoodStates.{good_law}
use Rattle.laws.proofs.law_state.JournalCourses.{is_of_engine, is_of_reaper, of_engine, of_reaper}
use Rattle.laws.proofs.law_sound.Along.{OfWorker, of_worker, packet, done, reap}
use Rattle.laws.proofs.law_owners.Law.{AreHeldOnce, once_law}
use Rattle.laws.proofs.lemma_bytes_view.Jobs.{changed_at}
use Rattle.laws.proofs.lemma_bytes_view.MoreJobs.{get_last}
use Rattle.laws.proofs.lemma_bytes_view.Viewed.{Viewed}
use Rattle.laws.proofs.lemma_bytes_told.Shapes.{HaveShapes, still_core}
use Rattle.laws.proofs.lemma_bytes_arm.Arms.{Reached}
use Rattle.laws.proofs.lemma_bytes_arm.Fences.{fold_aperture}
use Rattle.laws.proofs.law_transparent.Acts.{reached, ready_filled}
use Rattle.laws.proofs.law_transparent.Law.{world_push, legal_push}
use Rattle.laws.proofs.law_transparent.Carried.{clear_law, told_law}
use Rattle.law_facts.proofs.Mapped.{maps_keep}
use Rattle.law_facts.proofs.Guards.{viewed, free_fenced}
use Rattle.law_facts.proofs.Growth.{Clear}
use Rattle.law_facts.proofs.Emits.{NewPage, up_page, down_page}
use Rattle.law_facts.proofs.Arming.{arm_page}

-- a list has no element at its length
none_past : {X : Type 0} (xs : List X) (x : X) → slice_get xs (length xs) ≡ Some x → ⊥
none_past xs x e = let l = get_within xs (length xs) x e in absurd (omega (arith, l))

-- and at its last place the last
last_is : (jobs : List Job) (new y : Job) → slice_get (jobs ++ new ∷ []) (length jobs) ≡ Some y → y ≡ new
last_is jobs new y e = let two : Some y ≡ Some new = sym e ∙ get_last jobs new in cc

-- the operations of a command of the script
submitted : (script : Script) (engine : ℕ) (ops : List Op) → is_command script (command.Submit engine ops) ≡ true → list_all (is_op script) ops ≡ true
submitted script engine ops h = parts (is_between 1 script.sizes.engines engine) (is_between 1 64 (length ops)) (list_all (is_op script) ops) (nat_le (length (named (command.Submit engine ops))) 16) h
  where
    parts : (p q r t : Bool) → (p && q && r && t) ≡ true → r ≡ true
    parts true true true t h = refl
    parts true true false t h = cc
    parts true false r t h = cc
    parts false q r t h = cc

system_isnt : (l m : Mem) → m ≡ l → (l ≡ System → ⊥) → m ≡ System → ⊥
system_isnt l m e ne s = ne (sym e ∙ s)

module _ (script : Script) (rules : Rules script) (s : State) (t : ℕ) (owed_probes : OwedProbes) (m : Memory) (bytes : pages.PageBytes) (u : Viewed script s.core owed_probes m bytes)
    (good : GoodState script s) (shapes : HaveShapes s.core.buffers) (held : AreHeldOnce script s.core) (free : FreePagesAreFenced s.core) where
  kept_clear : (b : BufId) → live_in s.core.buffers b ≡ Some (buffer s b) → (buffer s b).mem ≡ Vram → (f : ℕ) → has_number (frames_of (buffer s b)) f ≡ true → Clear s.core (pages.frame f)
  kept_clear b there v f h i ci un = free.kept i b (buffer s b) f ci un there v h

  ready_pages : (cmd : Command) → uses_bytes cmd ≡ true → (b : BufId) → live_in s.core.buffers b ≡ Some (buffer s b) → is_ready script s cmd b ≡ true → (i : ℕ) → i < (decl script b).pages → Reached s.core b.0 i
  ready_pages cmd uses b there ready i l =
      let tables : HasPages script b (Some (buffer s b)) = subst (HasPages script b) there (good.tables b) in
      let long : length (buffer s b).table ≡ (decl script b).pages = tables in
      reached script s.core held b there (shapes b (buffer s b) there) (ready_filled script s cmd b uses ready) i (omega (arith, l, long))

  pub thread_page : (k : Kind) → Told script s t k → AreHeldOnce script (applied script s (actor.Thread t) k).core → (y : Job) → slice_get (applied script s (actor.Thread t) k).core.jobs (length s.core.jobs) ≡ Some y →
      (p : pages.Page) → touches (applied script s (actor.Thread t) k).core p y ≡ true → NewPage s.core (applied script s (actor.Thread t) k).core y p
  thread_page k (still e) once y at p h = absurd (none_past s.core.jobs y (subst (λ (c : Core). slice_get c.jobs (length s.core.jobs) ≡ Some y) (still_core script s t k e) at))
  thread_page k (makes {b} dead) once y at p h = absurd (none_past s.core.jobs y at)
  thread_page k (frees {b} there quiet) once y at p h = absurd (none_past s.core.jobs y at)
  thread_page k (leaves {b} there) once y at p h = absurd (none_past s.core.jobs y at)
  thread_page k (takes {b} {mem} {spans} place there e c n) once y at p h = absurd (none_past s.core.jobs y at)
  thread_page k (untakes {b} {mem} there) once y at p h = absurd (none_past s.core.jobs y at)
  thread_page k (populates {b} {f} there fr l some out) once y at p h = absurd (none_past s.core.jobs y at)
  thread_page k (swaps_in {b} {k = slot} {f} there fr l some out) once y at p h = absurd (none_past s.core.jobs y at)
  thread_page k (depopulates {b} there e) once y at p h = absurd (none_past s.core.jobs y at)
  thread_page k (binds {b} there e t' f) once y at p h = absurd (none_past s.core.jobs y at)
  thread_page k (unbinds {b} there quiet e) once y at p h = absurd (none_past s.core.jobs y at)
  thread_page k (moves_up {b} there e t') once y at p h =
      let is = last_is s.core.jobs _ y at in
      up_page script s.core (applied script s (actor.Thread t) k).core b Vram (record { ctx = 0; num = next_job s 0 }) held once there (shapes b (buffer s b) there) (system_isnt Tt (buffer s b).mem e (λ z. cc))
      (λ i q w. maps_keep script s t shapes i q k (moves_up there e t') (λ z. cc) w) refl y (ap (λ (j : Job). j.packets) is) (ap (λ (j : Job). j.waits) is) refl t' p h
  thread_page k (moves_across {b} there e t') once y at p h =
      let is = last_is s.core.jobs _ y at in
      up_page script s.core (applied script s (actor.Thread t) k).core b Vram (record { ctx = 0; num = next_job s 0 }) held once there (shapes b (buffer s b) there) (system_isnt Vram (buffer s b).mem e (λ z. cc))
      (λ i q w. maps_keep script s t shapes i q k (moves_across there e t') (λ z. cc) w) refl y (ap (λ (j : Job). j.packets) is) (ap (λ (j : Job). j.waits) is) refl t' p h
  thread_page k (moves_down {b} there e t' f) once y at p h =
      let is = last_is s.core.jobs _ y at in
      down_page script s.core (applied script s (actor.Thread t) k).core b Tt (record { ctx = 0; num = next_job s 0 }) held once there (shapes b (buffer s b) there) (system_isnt Vram (buffer s b).mem e (λ z. cc))
      (λ i q w. maps_keep script s t shapes i q k (moves_down there e t' f) (λ z. cc) w) refl y (ap (λ (j : Job). j.packets) is) (ap (λ (j : Job). j.waits) is) refl e t' f (kept_clear b there e) p h
  thread_page k (evicts {b} there e t' f) once y at p h =
      let is = last_is s.core.jobs _ y at in
      down_page script s.core (applied script s (actor.Thread t) k).core b Tt (record { ctx = 0; num = next_job s 0 }) held once there (shapes b (buffer s b) there) (system_isnt Vram (buffer s b).mem e (λ z. cc))
      (λ i q w. maps_keep script s t shapes i q k (evicts there e t' f) (λ z. cc) w) refl y (ap (λ (j : Job). j.packets) is) (ap (λ (j : Job). j.waits) is) refl e t' f (kept_clear b there e) p h
  thread_page k (catches {b} {w}) once y at p h = absurd (none_past s.core.jobs y at)
  thread_page k (swaps_out {b} {k = slot} there e quiet f fr) once y at p h = absurd (none_past s.core.jobs y at)
  thread_page k (arms {engine} ops work live ready) once y at p h =
      let is = last_is s.core.jobs _ y at in
      arm_page script s.core owed_probes m bytes u ops (submitted script engine ops (at_work_rules script rules s t (command.Submit engine ops) work).command)
      (λ b e i l. ready_pages (command.Submit engine ops) refl b (live b e) (ready b e) i l)
      (applied script s (actor.Thread t) k).core
      (fold_aperture (record { ctx = engine; num = next_job s engine }) (ops_of (command_at_work script s t)) (named_in (command_at_work script s t)) s.core) y
      (ap (λ (j : Job). j.packets) is ∙ ap (λ o. packets_of (λ b. packet_place (buffer_in s.core b)) (ops_of o)) work)
      (ap (λ (j : Job). j.waits) is ∙ ap (λ o. flat_map (jobs_before_use s.core (ops_of o)) (named_in o)) work) p h
  thread_page k (reads b off len work none) once y at p h = absurd (none_past s.core.jobs y at)
  thread_page k (writes b off values work there ready quiet) once y at p h = absurd (none_past s.core.jobs y at)
  thread_page k (results cmd work w nr r) once y at p h = absurd (none_past s.core.jobs y at)

worker_none : (script : Script) (s : State) (who : Actor) (k : Kind) → OfWorker k → (y : Job) → slice_get (applied script s who k).core.jobs (length s.core.jobs) ≡ Some y → ⊥
worker_none script s who k (packet {n} {k = j} {piece}) y at = let r = changed_at (λ j. record j { ran = j.ran + 1 }) _ s.core.jobs (length s.core.jobs) y at in none_past s.core.jobs r.old r.at
worker_none script s who k (done {n}) y at = let r = changed_at (λ j. record j { finished = true }) _ s.core.jobs (length s.core.jobs) y at in none_past s.core.jobs r.old r.at
worker_none script s who k (reap {g}) y at = none_past s.core.jobs y at

module _ (script : Script) (fits : IsTrue (is_script script)) where
  pub new_page : (journal : List Entry) (e : Entry) → IsLegal script journal → IsLegalNext script (world_of script journal) e → (y : Job) → slice_get (state_of script (journal ++ e ∷ [])).core.jobs (length (state_of script journal).core.jobs) ≡ Some y →
      (p : pages.Page) → touches (state_of script (journal ++ e ∷ [])).core p y ≡ true → NewPage (state_of script journal).core (state_of script (journal ++ e ∷ [])).core y p
  new_page journal e l n y at p h =
      subst (λ (z : State). NewPage (state_of script journal).core z.core y p) (sym is)
      (by e.who step.kind step.step (subst (λ (z : State). AreHeldOnce script z.core) is (once_law script (journal ++ e ∷ []) fits (legal_push script (first_world script) journal e l n)))
      (subst (λ (z : State). slice_get z.core.jobs (length (state_of script journal).core.jobs) ≡ Some y) is at) (subst (λ (z : State). touches z.core p y ≡ true) is h))
    where
      step : LegalStep script (world_of script journal) e
      step = legal_step script (world_of script journal) e n

      is : state_of script (journal ++ e ∷ []) ≡ applied script (state_of script journal) e.who step.kind
      is = ap (λ (w : World). w.state) (world_push script (first_world script) journal e) ∙ step.state

      by : (who : Actor) (k : Kind) → next script (state_of script journal) who ≡ Ok k → AreHeldOnce script (applied script (state_of script journal) who k).core →
          slice_get (applied script (state_of script journal) who k).core.jobs (length (state_of script journal).core.jobs) ≡ Some y → touches (applied script (state_of script journal) who k).core p y ≡ true →
          NewPage (state_of script journal).core (applied script (state_of script journal) who k).core y p
      by (actor.Thread t) k g once a w =
          thread_page script (rules_of script fits) (state_of script journal) t (plain_of script journal).owed_probes (plain_of script journal).memory (stores_of script journal) (viewed script fits journal l)
          (good_law script fits journal l) (clear_law script fits journal l).shapes (once_law script journal fits l) (free_fenced script fits journal l) k (told_law script journal t k fits l g) once y a p w
      by (actor.Engine i) k g once a w = absurd (worker_none script (state_of script journal) (actor.Engine i) k (of_worker k (or_left (is_of_engine k) (is_of_reaper k) (of_engine script (state_of script journal) i k g))) y a)
      by actor.Reaper k g once a w = absurd (worker_none script (state_of script journal) actor.Reaper k (of_worker k (or_right (is_of_engine k) (is_of_reaper k) (of_reaper script (state_of script journal) k g))) y a)
