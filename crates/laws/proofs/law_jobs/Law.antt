-- In every state that a legal journal leads to, the jobs of each context stand in line.
use Rattle.std.proofs.Common.{◌≡◌, ℕ, ◌+◌, ◌<◌, zero, suc, true, false, List, [], ◌∷◌, ◌++◌, length, Option, Some, None, Ok, Err, IsTrue, refl, sym, ◌∙◌, ap, subst, arith, ⊎_elim}
use Rattle.std.specs.Prelude.{slice_get, slice_set, replicate, unwrap_or, ◌==◌, find}
use Rattle.std.proofs.lemmas.Grind.{common_steps}
use Rattle.std.proofs.lemmas.Bool.{cases_eq, eqb-true, and_parts}
use Rattle.ttm_base.specs.declared.JobId.{JobId}
use Rattle.ttm_base.specs.declared.Packet.{Packet}
use Rattle.ttm_base.specs.declared.Need.TheVariants as need
use Rattle.ttm_base.specs.declared.Actor.{Actor}
use Rattle.ttm_base.specs.declared.Actor.TheVariants as actor
use Rattle.journal_model.specs.declared.script.Script.{Script}
use Rattle.journal_model.specs.declared.script.Command.{Command}
use Rattle.journal_model.specs.declared.state.State.{State}
use Rattle.journal_model.specs.declared.state.Job.{Job}
use Rattle.journal_model.specs.declared.state.Task.{Task}
use Rattle.journal_model.specs.declared.state.Task.TheVariants as task
use Rattle.journal_model.specs.declared.entry.Entry.{Entry}
use Rattle.journal_model.specs.declared.entry.Kind.{Kind}
use Rattle.journal_model.specs.declared.entry.Kind.TheVariants as kind
use Rattle.journal_model.specs.rules.State.{course}
use Rattle.journal_model.specs.scripts.ScriptRules.{is_script}
use Rattle.journal_model.specs.rules.Search.{Step}
use Rattle.journal_model.specs.rules.PageSteps.{next_job}
use Rattle.journal_model.specs.rules.Next.{next, head_of, step_of_job}
use Rattle.journal_model.specs.rules.Apply.{applied, engine_of}
use Rattle.journal_model.specs.rules.ApplyMoves.{with_job}
use Rattle.journal_model.specs.rules.ApplyJobs.{changed_job}
use Rattle.journal_model.specs.rules.Legal.{World, first_state, first_world, world_after, world_along, state_of, IsLegalFrom, IsLegal}
use Rattle.laws.proofs.law_state.Shown.{legal_step}
use Rattle.laws.proofs.law_state.JournalCourses.{is_of_reaper, of_reaper}
use Rattle.laws.specs.law_state.GoodState.{last_number, GoodState}
use Rattle.laws.proofs.law_state.Lists.{set_at}
use Rattle.laws.proofs.law_state.Rules.{Rules, rules_of}
use Rattle.laws.proofs.law_state.Moves.{thread_step, is_made_by, made_by_task}
use Rattle.laws.proofs.law_state.Counters.{is_left, is_counted, next_counted}
use Rattle.laws.proofs.law_state.GoodStates.{good_keeps, good_first}
use Rattle.laws.specs.law_jobs.JobLines.{done_of, IsLine}
use Rattle.laws.proofs.law_jobs.Lines.{is_open, Line, no_line, line_more, line_other, line_ran, line_done_elsewhere, line_done, is_line}

abbrev pub HaveLines : State → Type 0
HaveLines s = (ctx : ℕ) → Line ctx (last_number s.last_jobs ctx) s.core.jobs

-- ---- a job more

last_here : (last : List ℕ) (ctx num : ℕ) → ctx < length last → last_number (slice_set last ctx num) ctx ≡ num
last_here [] ctx num h = absurd (omega arith)
last_here (n ∷ last) zero num h = refl
last_here (n ∷ last) (suc ctx) num h = last_here last ctx num (omega arith)

last_elsewhere : (last : List ℕ) (ctx num c : ℕ) → (ctx ≡ c → ⊥) → last_number (slice_set last ctx num) c ≡ last_number last c
last_elsewhere last ctx num c d = ⊎_elim (λ h. ap (λ o. unwrap_or o 0) h) (λ h. absurd (d h.0)) (set_at last ctx c num)

get_last : (jobs : List Job) (y : Job) → slice_get (jobs ++ y ∷ []) (length jobs) ≡ Some y
get_last [] y = refl
get_last (x ∷ jobs) y = get_last jobs y

emitted : (last : List ℕ) (jobs : List Job) (y : Job) → y.finished ≡ false → y.id.num ≡ last_number last y.id.ctx + 1 → y.id.ctx < length last → ((ctx : ℕ) → Line ctx (last_number last ctx) jobs) →
    (ctx : ℕ) → Line ctx (last_number (slice_set last y.id.ctx y.id.num) ctx) (jobs ++ y ∷ [])
emitted last jobs y f n inside lines ctx =
    ⊎_elim
    (λ e.
    let same : y.id.ctx ≡ ctx = e in
    let number : y.id.num ≡ last_number last ctx + 1 = n ∙ ap (λ c. last_number last c + 1) same in
    let now : last_number last ctx + 1 ≡ last_number (slice_set last y.id.ctx y.id.num) ctx = sym number ∙ sym (ap (λ c. last_number (slice_set last y.id.ctx y.id.num) c) (sym same) ∙ last_here last y.id.ctx y.id.num inside) in
    subst (λ m. Line ctx m (jobs ++ y ∷ [])) now (line_more ctx (last_number last ctx) jobs y same f number (lines ctx)))
    (λ e. subst (λ m. Line ctx m (jobs ++ y ∷ [])) (sym (last_elsewhere last y.id.ctx y.id.num ctx e)) (line_other ctx (last_number last ctx) jobs y e (lines ctx)))
    (cases_eq y.id.ctx ctx)

-- the state after it tells that the context is there
emits : (script : Script) (last : List ℕ) (jobs : List Job) (after : State) (job : JobId) (waits : List JobId) (packets : List Packet) → GoodState script after → after.core.jobs ≡ with_job job waits packets jobs →
    after.last_jobs ≡ slice_set last job.ctx job.num → length last ≡ script.sizes.engines + 1 → job.num ≡ last_number last job.ctx + 1 → ((ctx : ℕ) → Line ctx (last_number last ctx) jobs) →
    (ctx : ℕ) → Line ctx (last_number (slice_set last job.ctx job.num) ctx) (with_job job waits packets jobs)
emits script last jobs after job waits packets good e f rooms number lines =
    let y : Job = record { id = job; waits = waits; packets = packets; ran = 0; finished = false } in
    let there = good.jobs.contexts (length jobs) y (ap (λ l. slice_get l (length jobs)) e ∙ get_last jobs y) in
    emitted last jobs y refl number (omega (arith, there, rooms)) lines

-- ---- the end of a job

-- no thread ends one
no_end : (s : State) (cmd : Command) (t : Task) (n : ℕ) → is_made_by s cmd t (kind.Done n) ≡ true → ⊥
no_end s cmd task.Idle n h = cc
no_end s cmd t n h = cc

-- the head of the engine's context
record Head (s : State) (e n : ℕ) : Type 0 where
  job : Job
  head : find (is_open e) s.core.jobs ≡ Some job
  number : n ≡ job.id.num

abbrev engine_at : State → Option Job → Step
engine_at s o = elim o [ None ↦ Err need.NoJob | Some j ↦ step_of_job s j ]

end_of_head : (s : State) (j : Job) (n : ℕ) → step_of_job s j ≡ Ok (kind.Done n) → n ≡ j.id.num
end_of_head s j n h = grind (arith, common_steps)

head_is : (script : Script) (s : State) (e n : ℕ) → next script s (actor.Engine e) ≡ Ok (kind.Done n) → Head s e n
head_is script s e n h = by (head_of s e) refl h
  where
    by : (o : Option Job) → head_of s e ≡ o → engine_at s o ≡ Ok (kind.Done n) → Head s e n
    by None q g = cc
    by (Some j) q g = record { job = j; head = q; number = end_of_head s j n g }

ends : (script : Script) (s : State) (who : Actor) (n : ℕ) → next script s who ≡ Ok (kind.Done n) → HaveLines s →
    (ctx : ℕ) → Line ctx (last_number s.last_jobs ctx) (changed_job (λ j. record j { finished = true }) (record { ctx = engine_of who; num = n }) s.core.jobs)
ends script s (actor.Thread t) n h lines ctx = let st = thread_step script s t (kind.Done n) h in absurd (no_end s st.cmd st.task n (made_by_task script s (course s t) st.cmd st.task (kind.Done n) st.step))
ends script s actor.Reaper n h lines ctx = let q : is_of_reaper (kind.Done n) ≡ true = of_reaper script s (kind.Done n) h in cc
ends script s (actor.Engine e) n h lines ctx =
    let head = head_is script s e n h in
    ⊎_elim
    (λ same.
    let it : e ≡ ctx = same in
    subst (λ c. Line c (last_number s.last_jobs c) (changed_job (λ j. record j { finished = true }) (record { ctx = e; num = n }) s.core.jobs)) it
    (subst (λ m. Line e (last_number s.last_jobs e) (changed_job (λ j. record j { finished = true }) (record { ctx = e; num = m }) s.core.jobs)) (sym head.number)
    (line_done e (last_number s.last_jobs e) s.core.jobs head.job head.head (lines e))))
    (λ other. line_done_elsewhere ctx (last_number s.last_jobs ctx) s.core.jobs (record { ctx = e; num = n }) other (lines ctx))
    (cases_eq e ctx)

-- ---- each kind

lines_keep : (script : Script) (s : State) (who : Actor) (k : Kind) → GoodState script s → GoodState script (applied script s who k) → next script s who ≡ Ok k → is_counted s k ≡ true → HaveLines s → HaveLines (applied script s who k)
lines_keep script s who (kind.Move b mem n l) good after h q lines =
    emits script s.last_jobs s.core.jobs (applied script s who (kind.Move b mem n l)) (record { ctx = 0; num = n }) _ _ after refl refl good.jobs.rooms
    (eqb-true n (next_job s 0) (and_parts (n == next_job s 0) (is_left s l) q).0) lines
lines_keep script s who (kind.Arm engine n) good after h q lines =
    emits script s.last_jobs s.core.jobs (applied script s who (kind.Arm engine n)) (record { ctx = engine; num = n }) _ _ after refl refl good.jobs.rooms (eqb-true n (next_job s engine) q) lines
lines_keep script s who (kind.Packet n k piece) good after h q lines = λ ctx. line_ran ctx (last_number s.last_jobs ctx) s.core.jobs (record { ctx = engine_of who; num = n }) (lines ctx)
lines_keep script s who (kind.Done n) good after h q lines = ends script s who n h lines
lines_keep script s who k good after h q lines = lines

-- ---- along a journal

record Carried (script : Script) (s : State) : Type 0 where
  good : GoodState script s
  lines : HaveLines s

carried_keeps : (script : Script) → Rules script → (s : State) (who : Actor) (k : Kind) → Carried script s → next script s who ≡ Ok k → Carried script (applied script s who k)
carried_keeps script r s who k c h =
    let after = good_keeps script r s who k c.good h in
    record { good = after; lines = lines_keep script s who k c.good after h (next_counted script s who k h) c.lines }

carried_along : (script : Script) → Rules script → (w : World) (es : List Entry) → Carried script w.state → IsLegalFrom script w es → Carried script (world_along script w es).state
carried_along script r w [] c h = c
carried_along script r w (e ∷ es) c h =
    let l = legal_step script w e h.0 in
    carried_along script r (world_after script w e) es (subst (Carried script) (sym l.state) (carried_keeps script r w.state e.who l.kind c l.step)) h.1

first_last : (n ctx : ℕ) → last_number (replicate n 0) ctx ≡ 0
first_last zero ctx = refl
first_last (suc n) zero = refl
first_last (suc n) (suc ctx) = first_last n ctx

first_lines : (script : Script) → HaveLines (first_state script)
first_lines script ctx = subst (λ m. Line ctx m []) (sym (first_last (script.sizes.engines + 1) ctx)) (no_line ctx)

pub line_law : (script : Script) (journal : List Entry) (ctx : ℕ) → IsTrue (is_script script) → IsLegal script journal →
    IsLine ctx (last_number (state_of script journal).last_jobs ctx) (done_of ctx (state_of script journal).core.jobs) (state_of script journal).core.jobs
line_law script journal ctx fits h =
    let c = carried_along script (rules_of script fits) (first_world script) journal (record { good = good_first script; lines = first_lines script }) h in
    is_line script.sizes.engines ctx (state_of script journal).last_jobs (state_of script journal).core.jobs c.good.jobs (c.lines ctx)
