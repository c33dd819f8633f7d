-- The state after entries on jobs: armed with packets at the buffers' present places, run, done; and ghosts reaped.
use Rattle.std.specs.Prelude.{ℕ, ◌+◌, true, List, [], Option, Some, ◌==◌, not, filter, map, fold, slice_set, if◌then◌else◌, flat_map}
use Rattle.journal_model.specs.Types.{BufId, Buffer, Command, Core, Job, JobId, Op, Script, State}
use Rattle.journal_model.specs.declared.script.Command.TheVariants as command
use Rattle.ttm_base.specs.Cutting.{packets_of}
use Rattle.journal_model.specs.rules.State.{changed, buffer_in, course, with_course}
use Rattle.journal_model.specs.rules.Commands.{command_at_work}
use Rattle.journal_model.specs.rules.Places.{packet_place}
use Rattle.journal_model.specs.rules.Waits.{same_job, use_of, jobs_before_use}
use Rattle.journal_model.specs.rules.ApplyCommands.{has_made, named_in}
use Rattle.journal_model.specs.rules.ApplyPages.{with_fence}
use Rattle.journal_model.specs.rules.ApplyMoves.{with_job}

-- the operations of a job
abbrev pub ops_of : Option Command → List Op
ops_of (Some (command.Submit engine ops)) = ops
ops_of _ = []

-- the job joins the fences of a buffer as one that writes or reads it
abbrev pub with_use : JobId → List Op → List (Option Buffer) → BufId → List (Option Buffer)
with_use job ops buffers b = changed (with_fence job (use_of ops b)) buffers b

-- the job is emitted and joins the fences of its buffers
abbrev pub core_after_arm : Core → JobId → List Op → List BufId → Core
core_after_arm c job ops bs =
    record c {
      buffers = fold (with_use job ops) c.buffers bs;
      jobs = with_job job (flat_map (jobs_before_use c ops) bs) (packets_of (λ b. packet_place (buffer_in c b)) ops) c.jobs;
    }

-- the state after a job of a thread
abbrev pub after_submit : State → ℕ → JobId → List Op → List BufId → State
after_submit s t job ops bs =
    record s {
      core = core_after_arm s.core job ops bs;
      last_jobs = slice_set s.last_jobs job.ctx job.num;
      courses = with_course s.courses t (has_made (course s t));
    }

-- the job of the command at work
abbrev pub after_arm : Script → State → ℕ → ℕ → ℕ → State
after_arm script s t engine n =
    let cmd = command_at_work script s t in after_submit s t (record { ctx = engine; num = n }) (ops_of cmd) (named_in cmd)

-- ---- packets, their end, and the ghosts after them

-- the jobs after one was changed
abbrev pub changed_job : (Job → Job) → JobId → List Job → List Job
changed_job f i jobs = map (λ j. if same_job i j.id then f j else j) jobs

-- a state with other jobs
abbrev pub with_jobs : List Job → State → State
with_jobs jobs s = record s { core = record s.core { jobs = jobs } }

-- one packet more has run
abbrev pub after_packet_run : State → JobId → State
after_packet_run s i = with_jobs (changed_job (λ j. record j { ran = j.ran + 1 }) i s.core.jobs) s

-- the job is done
abbrev pub after_done : State → JobId → State
after_done s i = with_jobs (changed_job (λ j. record j { finished = true }) i s.core.jobs) s

-- the ghost is gone
abbrev pub after_reap : State → ℕ → State
after_reap s g = record s { core = record s.core { ghosts = filter (λ h. not (h.num == g)) s.core.ghosts } }
