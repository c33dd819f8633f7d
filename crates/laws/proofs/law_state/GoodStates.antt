-- What holds of tables and jobs in every state that a legal journal leads to.
use Rattle.std.proofs.Common.{◌≡◌, ℕ, ◌+◌, ◌<◌, ◌≤◌, zero, suc, Bool, true, false, List, [], ◌∷◌, length, Option, Some, None, Ok, Err, IsTrue, refl, sym, subst, ◌∙◌, ap, ap₂, arith}
use Rattle.std.specs.Prelude.{slice_get, slice_set, map, not, ◌==◌, ◌&&◌, unwrap_or, option_and_then, replicate}
use Rattle.std.specs.List.{list_all}
use Rattle.std.proofs.lemmas.Grind.{common_steps}
use Rattle.std.proofs.lemmas.Bool.{false≢true}
use Rattle.std.proofs.lemmas.Bool.Decides.{nat_tests}
use Rattle.ttm_base.specs.ListWords.{count_from}
use Rattle.ttm_base.specs.declared.Mem.{Mem}
use Rattle.ttm_base.specs.declared.Mem.TheVariants.{System}
use Rattle.ttm_base.specs.declared.BufId.{BufId}
use Rattle.ttm_base.specs.declared.JobId.{JobId}
use Rattle.ttm_base.specs.declared.Op.{Op}
use Rattle.ttm_base.specs.declared.Need.TheVariants as need
use Rattle.ttm_base.specs.declared.Actor.{Actor}
use Rattle.ttm_base.specs.declared.Actor.TheVariants as actor
use Rattle.ttm_base.specs.Reach.{same_mem}
use Rattle.ttm_base.specs.Cutting.{PageMap, packets_of}
use Rattle.journal_model.specs.declared.script.Script.{Script}
use Rattle.journal_model.specs.declared.script.Command.{Command}
use Rattle.journal_model.specs.declared.script.Command.TheVariants as command
use Rattle.journal_model.specs.declared.state.State.{State}
use Rattle.journal_model.specs.declared.state.Job.{Job}
use Rattle.journal_model.specs.declared.state.Buffer.{Buffer}
use Rattle.journal_model.specs.declared.state.Course.{Course}
use Rattle.journal_model.specs.declared.state.Task.{Task}
use Rattle.journal_model.specs.declared.state.Task.TheVariants as task
use Rattle.journal_model.specs.declared.entry.Entry.{Entry}
use Rattle.journal_model.specs.declared.entry.Left.{Left}
use Rattle.journal_model.specs.declared.entry.Kind.{Kind}
use Rattle.journal_model.specs.declared.entry.Kind.TheVariants as kind
use Rattle.journal_model.specs.rules.Places.{packet_place}
use Rattle.journal_model.specs.rules.State.{buffer_in, buffer, course, live_in, new_buffer}
use Rattle.journal_model.specs.rules.Commands.{command_at_work, decl}
use Rattle.journal_model.specs.scripts.CommandRules.{is_command, is_op}
use Rattle.journal_model.specs.scripts.ScriptRules.{is_script}
use Rattle.journal_model.specs.rules.Waits.{same_job}
use Rattle.journal_model.specs.rules.PageSteps.{next_job}
use Rattle.journal_model.specs.rules.Search.{Step}
use Rattle.journal_model.specs.rules.Next.{next, head_of, step_of_job}
use Rattle.journal_model.specs.rules.Apply.{applied}
use Rattle.journal_model.specs.rules.ApplyMoves.{with_job, move_packets}
use Rattle.journal_model.specs.rules.ApplyJobs.{ops_of, changed_job}
use Rattle.journal_model.specs.rules.Legal.{World, first_state, first_world, world_after, world_along, state_of, IsLegalFrom, IsLegal}
use Rattle.journal_model.proofs.KeptLengths.{length-applied}
use Rattle.laws.proofs.law_state.Shown.{legal_step}
use Rattle.laws.proofs.law_state.JournalCourses.{is_of_engine, is_of_reaper, of_engine, of_reaper}
use Rattle.laws.proofs.law_state.Lists.{get_within}
use Rattle.laws.specs.law_state.GoodState.{HasPages, GoodJobs, GoodState}
use Rattle.laws.proofs.law_state.Tables.{tables_keep}
use Rattle.laws.proofs.law_state.JobNames.{no_jobs, one_job_more, jobs_changed, found_at}
use Rattle.laws.proofs.law_state.Moves.{ThreadStep, thread_step, is_arm_of, is_move_of, is_of_worker, is_made_by, made_by_task}
use Rattle.laws.proofs.law_state.Courses.{may, command_may}
use Rattle.laws.proofs.law_state.JobsKeep.{few_packets, some_packets, op_has_bytes, all_at}
use Rattle.laws.proofs.law_state.Rules.{Rules, rules_of, at_work_rules, declared_pages}

-- ---- an arm

arm_made : (s : State) (cmd : Command) (t : Task) (engine n : ℕ) → is_made_by s cmd t (kind.Arm engine n) ≡ true → is_arm_of s cmd (kind.Arm engine n) ≡ true
arm_made s cmd task.Act engine n h = h
arm_made s cmd t engine n h = cc

-- the command of an arm, and its number
pub record IsArm (s : State) (cmd : Command) (engine n : ℕ) : Type 0 where
  pub ops : List Op
  pub command : cmd ≡ command.Submit engine ops
  pub number : n ≡ next_job s engine

arm_is : (s : State) (cmd : Command) (engine n : ℕ) → is_arm_of s cmd (kind.Arm engine n) ≡ true → IsArm s cmd engine n
arm_is s (command.Submit e ops) engine n h =
    let same : engine ≡ e = grind (arith, nat_tests) in
    let num : n ≡ next_job s e = grind (arith, nat_tests) in
    record { ops = ops; command = ap (λ x. command.Submit x ops) (sym same); number = num ∙ ap (next_job s) (sym same) }
arm_is s cmd engine n h = cc

pub arm_of : (script : Script) (s : State) (t engine n : ℕ) → (st : ThreadStep script s t (kind.Arm engine n)) → IsArm s st.cmd engine n
arm_of script s t engine n st = arm_is s st.cmd engine n (arm_made s st.cmd st.task engine n (made_by_task script s (course s t) st.cmd st.task (kind.Arm engine n) st.step))

-- what the grammar says of a job
submit_rules : (script : Script) (engine : ℕ) (ops : List Op) → is_command script (command.Submit engine ops) ≡ true → (engine ≤ script.sizes.engines) × (0 < length ops) × (list_all (is_op script) ops ≡ true)
submit_rules script engine ops h = (grind (arith, nat_tests), grind (arith, nat_tests), grind (arith, nat_tests))

ops_make_packets : (script : Script) (pages : PageMap) (ops : List Op) → 0 < length ops → list_all (is_op script) ops ≡ true → 0 < length (packets_of pages ops)
ops_make_packets script pages [] h g = absurd (omega arith)
ops_make_packets script pages (o ∷ ops) h g = some_packets pages o ops (op_has_bytes script o (all_at (is_op script) (o ∷ ops) zero o g refl))

arm_keeps : (script : Script) → Rules script → (s : State) (t engine n : ℕ) (waits : List JobId) (pages : PageMap) → GoodState script s → ThreadStep script s t (kind.Arm engine n)
    → GoodJobs script.sizes.engines (slice_set s.last_jobs engine n) (with_job (record { ctx = engine; num = n }) waits (packets_of pages (ops_of (command_at_work script s t))) s.core.jobs)
arm_keeps script r s t engine n waits pages good st =
    let arm = arm_of script s t engine n st in
    let work : command_at_work script s t ≡ Some (command.Submit engine arm.ops) = st.at_work ∙ ap Some arm.command in
    let of = at_work_rules script r s t (command.Submit engine arm.ops) work in
    let rules = submit_rules script engine arm.ops of.command in
    let packets = ops_make_packets script pages arm.ops rules.1 rules.2 in
    let few = few_packets pages arm.ops in
    let len = of.len in
    let most : length (packets_of pages arm.ops) ≤ 67108864 = omega (arith, few, len) in
    subst (λ ops. GoodJobs script.sizes.engines (slice_set s.last_jobs engine n) (with_job (record { ctx = engine; num = n }) waits (packets_of pages ops) s.core.jobs)) (sym (ap ops_of work))
    (one_job_more script.sizes.engines s.last_jobs s.core.jobs
    (record { id = record { ctx = engine; num = n }; waits = waits; packets = packets_of pages arm.ops; ran = 0; finished = false })
    good.jobs rules.0 arm.number refl packets most)

-- ---- a move

-- the buffer of a move, and its number
pub record IsMove (s : State) (b : BufId) (n : ℕ) : Type 0 where
  pub elsewhere : same_mem (buffer s b).mem System ≡ false
  pub number : n ≡ next_job s 0

move_is : (s : State) (b c : BufId) (m : Mem) (n : ℕ) (l : Left) → not (same_mem (buffer s b).mem System) ≡ true → is_move_of s b (kind.Move c m n l) ≡ true → IsMove s c n
move_is s b c m n l h g =
    let same : b.0 ≡ c.0 = grind (arith, nat_tests) in
    let it : b ≡ c = ap (λ i. record { 0 = i }) same in
    let num : n ≡ next_job s 0 = grind (arith, nat_tests) in
    let away : same_mem (buffer s b).mem System ≡ false = flip (same_mem (buffer s b).mem System) h in
    record { elsewhere = subst (λ d. same_mem (buffer s d).mem System ≡ false) it away; number = num }
  where
    flip : (q : Bool) → not q ≡ true → q ≡ false
    flip true h = cc
    flip false h = refl

move_made : (s : State) (c : Course) (cmd : Command) (t : Task) (b : BufId) (mem : Mem) (n : ℕ) (l : Left) → may s c cmd t ≡ true → is_made_by s cmd t (kind.Move b mem n l) ≡ true → IsMove s b n
move_made s c cmd (task.Move x m) b mem n l h g = move_is s x b mem n l h g
move_made s c cmd t b mem n l h g = cc

pub move_of : (script : Script) (s : State) (t : ℕ) (b : BufId) (mem : Mem) (n : ℕ) (l : Left) → ThreadStep script s t (kind.Move b mem n l) → IsMove s b n
move_of script s t b mem n l st =
    move_made s (course s t) st.cmd st.task b mem n l
    (subst (λ k. may s (course s t) st.cmd k ≡ true) (sym st.is_task) (command_may script s (course s t) st.cmd))
    (made_by_task script s (course s t) st.cmd st.task (kind.Move b mem n l) st.step)

-- a buffer that doesn't stand in SYSTEM is live
pub live_elsewhere : (buffers : List (Option Buffer)) (b : BufId) → same_mem (unwrap_or (live_in buffers b) (new_buffer 0)).mem System ≡ false → (x : Buffer) × (live_in buffers b ≡ Some x)
live_elsewhere buffers b h = by (live_in buffers b) refl h
  where
    by : (o : Option Buffer) → live_in buffers b ≡ o → same_mem (unwrap_or o (new_buffer 0)).mem System ≡ false → (x : Buffer) × (live_in buffers b ≡ Some x)
    by None e g = cc
    by (Some x) e g = (x, e)

live_within : (buffers : List (Option Buffer)) (b : BufId) (x : Buffer) → live_in buffers b ≡ Some x → b.0 < length buffers
live_within buffers b x h = by (slice_get buffers b.0) refl h
  where
    by : (o : Option (Option Buffer)) → slice_get buffers b.0 ≡ o → option_and_then (λ y. y) o ≡ Some x → b.0 < length buffers
    by None e g = cc
    by (Some y) e g = get_within buffers b.0 y e

length-counted : (step n start : ℕ) → length (count_from step n start) ≡ n
length-counted step zero start = refl
length-counted step (suc n) start = ap suc (length-counted step n (step + start))

length-map : {X Y : Type 0} (f : X → Y) (xs : List X) → length (map f xs) ≡ length xs
length-map f [] = refl
length-map f (x ∷ xs) = ap suc (length-map f xs)

-- a live buffer has as many pages as its table, which are some and few
pub table_pages : (script : Script) → Rules script → (s : State) → GoodState script s → (b : BufId) (x : Buffer) → live_in s.core.buffers b ≡ Some x → (1 ≤ length x.table) × (length x.table ≤ 4096)
table_pages script r s good b x e =
    let inside = live_within s.core.buffers b x e in
    let many = good.many in
    let p = declared_pages script r b (omega (arith, inside, many)) in
    let is : length x.table ≡ (decl script b).pages = subst (HasPages script b) e (good.tables b) in
    let low = p.some in
    let high = p.few in
    (omega (arith, is, low), omega (arith, is, high))

move_keeps : (script : Script) → Rules script → (s : State) (t : ℕ) (b : BufId) (mem : Mem) (n : ℕ) (l : Left) (waits : List JobId) → GoodState script s → ThreadStep script s t (kind.Move b mem n l)
    → GoodJobs script.sizes.engines (slice_set s.last_jobs 0 n) (with_job (record { ctx = 0; num = n }) waits (move_packets (buffer s b) mem) s.core.jobs)
move_keeps script r s t b mem n l waits good st =
    let move = move_of script s t b mem n l st in
    let live = live_elsewhere s.core.buffers b move.elsewhere in
    let is : buffer s b ≡ live.0 = ap (λ o. unwrap_or o (new_buffer 0)) live.1 in
    let pages = table_pages script r s good b live.0 live.1 in
    let len : length (move_packets (buffer s b) mem) ≡ length live.0.table = length-map _ (count_from 1 (length (buffer s b).table) 0) ∙ (length-counted 1 (length (buffer s b).table) 0 ∙ ap (λ x. length x.table) is) in
    let low = pages.0 in
    let high = pages.1 in
    one_job_more script.sizes.engines s.last_jobs s.core.jobs
    (record { id = record { ctx = 0; num = n }; waits = waits; packets = move_packets (buffer s b) mem; ran = 0; finished = false })
    good.jobs (omega arith) move.number refl (omega (arith, len, low)) (omega (arith, len, high))

-- no task makes an entry of an engine or of the reaper
no_worker : (s : State) (cmd : Command) (t : Task) (k : Kind) → is_of_worker k ≡ true → is_made_by s cmd t k ≡ true → ⊥
no_worker s cmd (task.Move x mem) (kind.Packet n p piece) h made = cc
no_worker s cmd (task.Move x mem) k h made = cc
no_worker s cmd t k h made = grind arith

-- ---- a packet, and the end of a job

-- the job at the head of a context, of which a packet is left
pub record IsPacket (s : State) (e n k : ℕ) : Type 0 where
  pub job : Job
  pub at : ℕ
  pub here : slice_get s.core.jobs at ≡ Some job
  pub name : job.id ≡ record { ctx = e; num = n }
  pub unfinished : job.finished ≡ false
  pub ran : k ≡ job.ran
  pub left : job.ran < length job.packets

packet_step : (s : State) (j : Job) (n k : ℕ) (piece : List ℕ) → step_of_job s j ≡ Ok (kind.Packet n k piece) → (n ≡ j.id.num) × (k ≡ j.ran) × (j.ran < length j.packets)
packet_step s j n k piece h = (grind (arith, common_steps, nat_tests), grind (arith, common_steps, nat_tests), grind (arith, common_steps, nat_tests))

abbrev engine_at : State → Option Job → Step
engine_at s o = elim o [ None ↦ Err need.NoJob | Some j ↦ step_of_job s j ]

pub packet_of_head : (script : Script) (s : State) (e n k : ℕ) (piece : List ℕ) → next script s (actor.Engine e) ≡ Ok (kind.Packet n k piece) → IsPacket s e n k
packet_of_head script s e n k piece h = by (head_of s e) refl h
  where
    by : (o : Option Job) → head_of s e ≡ o → engine_at s o ≡ Ok (kind.Packet n k piece) → IsPacket s e n k
    by None q g = cc
    by (Some j) q g =
        let p = packet_step s j n k piece g in
        let f = found_at (λ j. (j.id.ctx == e) && not j.finished) s.core.jobs j q in
        let ctx : j.id.ctx ≡ e = passes j.id.ctx e j.finished f.2 in
        record {
          job = j;
          at = f.0;
          here = f.1;
          name = ap₂ (λ c m. record { ctx = c; num = m }) ctx (sym p.0);
          unfinished = open_now j.id.ctx e j.finished f.2;
          ran = p.1;
          left = p.2;
        }
      where
        passes : (c d : ℕ) (fin : Bool) → ((c == d) && not fin) ≡ true → c ≡ d
        passes c d fin w = grind (arith, nat_tests)

        open_now : (c d : ℕ) (fin : Bool) → ((c == d) && not fin) ≡ true → fin ≡ false
        open_now c d true w = grind (arith, nat_tests)
        open_now c d false w = refl

packet_keeps : (script : Script) (s : State) (e n k : ℕ) (piece : List ℕ) → GoodState script s → next script s (actor.Engine e) ≡ Ok (kind.Packet n k piece)
    → GoodJobs script.sizes.engines s.last_jobs (changed_job (λ j. record j { ran = j.ran + 1 }) (record { ctx = e; num = n }) s.core.jobs)
packet_keeps script s e n k piece good h =
    let p = packet_of_head script s e n k piece h in
    jobs_changed script.sizes.engines s.last_jobs s.core.jobs (λ j. record j { ran = j.ran + 1 }) (record { ctx = e; num = n }) good.jobs
    (record { id = λ x. refl; packets = λ x. refl })
    (λ i x q same.
    let at : p.at ≡ i = good.jobs.names p.at i p.job x p.here q (subst (λ w. same_job w x.id ≡ true) (sym p.name) same) in
    let it : Some p.job ≡ Some x = sym p.here ∙ (ap (slice_get s.core.jobs) at ∙ q) in
    let is : p.job ≡ x = cc in
    let left : x.ran < length x.packets = subst (λ w. w.ran < length w.packets) is p.left in
    omega (arith, left))

done_keeps : (script : Script) (s : State) (id : JobId) → GoodState script s → GoodJobs script.sizes.engines s.last_jobs (changed_job (λ j. record j { finished = true }) id s.core.jobs)
done_keeps script s id good =
    jobs_changed script.sizes.engines s.last_jobs s.core.jobs (λ j. record j { finished = true }) id good.jobs (record { id = λ x. refl; packets = λ x. refl }) (λ i x q same. good.jobs.ran i x q)

-- ---- each kind

thread_jobs : (script : Script) → Rules script → (s : State) (t : ℕ) (k : Kind) → GoodState script s → ThreadStep script s t k
    → GoodJobs script.sizes.engines (applied script s (actor.Thread t) k).last_jobs (applied script s (actor.Thread t) k).core.jobs
thread_jobs script r s t (kind.Move b mem n l) good st = move_keeps script r s t b mem n l _ good st
thread_jobs script r s t (kind.Arm engine n) good st = arm_keeps script r s t engine n _ (λ b. packet_place (buffer_in s.core b)) good st
thread_jobs script r s t (kind.Packet n k piece) good st = absurd (no_worker s st.cmd st.task (kind.Packet n k piece) refl (made_by_task script s (course s t) st.cmd st.task (kind.Packet n k piece) st.step))
thread_jobs script r s t (kind.Done n) good st = absurd (no_worker s st.cmd st.task (kind.Done n) refl (made_by_task script s (course s t) st.cmd st.task (kind.Done n) st.step))
thread_jobs script r s t (kind.Reap g) good st = absurd (no_worker s st.cmd st.task (kind.Reap g) refl (made_by_task script s (course s t) st.cmd st.task (kind.Reap g) st.step))
thread_jobs script r s t k good st = good.jobs

engine_jobs : (script : Script) (s : State) (e : ℕ) (k : Kind) → GoodState script s → next script s (actor.Engine e) ≡ Ok k → is_of_engine k ≡ true
    → GoodJobs script.sizes.engines (applied script s (actor.Engine e) k).last_jobs (applied script s (actor.Engine e) k).core.jobs
engine_jobs script s e (kind.Packet n k piece) good h q = packet_keeps script s e n k piece good h
engine_jobs script s e (kind.Done n) good h q = done_keeps script s (record { ctx = e; num = n }) good
engine_jobs script s e k good h q = absurd (false≢true q)

reaper_jobs : (script : Script) (s : State) (k : Kind) → GoodState script s → is_of_reaper k ≡ true
    → GoodJobs script.sizes.engines (applied script s actor.Reaper k).last_jobs (applied script s actor.Reaper k).core.jobs
reaper_jobs script s (kind.Reap g) good q = good.jobs
reaper_jobs script s k good q = absurd (false≢true q)

jobs_keep : (script : Script) → Rules script → (s : State) (who : Actor) (k : Kind) → GoodState script s → next script s who ≡ Ok k
    → GoodJobs script.sizes.engines (applied script s who k).last_jobs (applied script s who k).core.jobs
jobs_keep script r s (actor.Thread t) k good h = thread_jobs script r s t k good (thread_step script s t k h)
jobs_keep script r s (actor.Engine e) k good h = engine_jobs script s e k good h (of_engine script s e k h)
jobs_keep script r s actor.Reaper k good h = reaper_jobs script s k good (of_reaper script s k h)

pub good_keeps : (script : Script) → Rules script → (s : State) (who : Actor) (k : Kind) → GoodState script s → next script s who ≡ Ok k → GoodState script (applied script s who k)
good_keeps script r s who k good h =
    record {
      many = length-applied script s who k ∙ good.many;
      tables = tables_keep script s who k good.tables;
      jobs = jobs_keep script r s who k good h;
    }

-- ---- along a journal

dead_tables : (script : Script) {X : Type 0} (xs : List X) (b : BufId) (i : ℕ) → HasPages script b (option_and_then (λ y. y) (slice_get (map (λ d. None) xs) i))
dead_tables script [] b i = tt
dead_tables script (x ∷ xs) b zero = tt
dead_tables script (x ∷ xs) b (suc i) = dead_tables script xs b i

length-replicate : {X : Type 0} (n : ℕ) (x : X) → length (replicate n x) ≡ n
length-replicate zero x = refl
length-replicate (suc n) x = ap suc (length-replicate n x)

pub good_first : (script : Script) → GoodState script (first_state script)
good_first script =
    record {
      many = length-map (λ d. None) script.buffers;
      tables = λ b. dead_tables script script.buffers b b.0;
      jobs = no_jobs script.sizes.engines (replicate (script.sizes.engines + 1) 0) (length-replicate (script.sizes.engines + 1) 0);
    }

good_along : (script : Script) → Rules script → (w : World) (es : List Entry) → GoodState script w.state → IsLegalFrom script w es → GoodState script (world_along script w es).state
good_along script r w [] good h = good
good_along script r w (e ∷ es) good h =
    let l = legal_step script w e h.0 in
    good_along script r (world_after script w e) es (subst (GoodState script) (sym l.state) (good_keeps script r w.state e.who l.kind good l.step)) h.1

pub good_law : (script : Script) → IsTrue (is_script script) → (journal : List Entry) → IsLegal script journal → GoodState script (state_of script journal)
good_law script fits journal h = good_along script (rules_of script fits) (first_world script) journal (good_first script) h
