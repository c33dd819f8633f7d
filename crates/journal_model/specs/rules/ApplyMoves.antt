-- The state after a move: a job that copies each page, and what it leaves behind (ttm_bo_move_accel_cleanup).
use Rattle.std.specs.Prelude.{ℕ, false, List, [], ◌∷◌, ◌++◌, Option, Some, None, map, length, slice_set}
use Rattle.journal_model.specs.Types.{BufId, Buffer, Core, Ghost, Job, JobId, Left, Loc, Mem, Packet, PagePlace, Script, State}
use Rattle.journal_model.specs.Limits.{page_bytes}
use Rattle.ttm_base.specs.declared.Mem.TheVariants.{System, Tt, Vram}
use Rattle.ttm_base.specs.declared.Usage.TheVariants as usage
use Rattle.ttm_base.specs.declared.Loc.TheVariants as loc
use Rattle.ttm_base.specs.declared.Packet.TheVariants as packet
use Rattle.journal_model.specs.declared.entry.Left.TheVariants as left
use Rattle.ttm_base.specs.ListWords.{count_from}
use Rattle.journal_model.specs.rules.State.{changed, buffer_in, with_target, target_spans}
use Rattle.journal_model.specs.rules.Places.{frames_of, packet_place, name_in_spans}
use Rattle.journal_model.specs.rules.Holds.{spans_in}
use Rattle.journal_model.specs.rules.Waits.{unfinished, jobs_before_write}
use Rattle.journal_model.specs.rules.Lists.{touched}
use Rattle.journal_model.specs.rules.ApplyPages.{with_fence}

-- the jobs with one that was just emitted
abbrev pub with_job : JobId → List JobId → List Packet → List Job → List Job
with_job job waits packets jobs = jobs ++ record { id = job; waits = waits; packets = packets; ran = 0; finished = false } ∷ []

-- one copy of each page, from its old to its new place
abbrev pub copy_of_page : PagePlace → PagePlace → Packet
copy_of_page to from = packet.Copy to 0 from 0 page_bytes

-- the job of a move
abbrev pub move_packets : Buffer → Mem → List Packet
move_packets x mem =
    map (λ i. copy_of_page (name_in_spans mem (target_spans mem x) i) (packet_place x i)) (count_from 1 (length x.table) 0)

-- out of TT the frames stay behind
abbrev pub table_left : Mem → List Loc → List Loc
table_left Tt table = map (λ l. loc.Zero) table
table_left Vram table = table
table_left System table = table

-- the buffer in its new place, with the job as a fence
abbrev pub moved : Mem → JobId → Buffer → Buffer
moved mem job x =
    with_fence job usage.Kernel (record x {
      mem = mem;
      spans = target_spans mem x;
      targets = with_target mem None x.targets;
      table = table_left x.mem x.table;
    })

-- ---- what is left behind: a ghost, or pages that are free at once after the move fence

-- the frames that a buffer leaves
abbrev pub frames_left : Mem → Buffer → List ℕ
frames_left Tt x = frames_of x
frames_left Vram x = []
frames_left System x = []

-- the ghost that a move leaves
abbrev pub ghost_of_moved : Buffer → JobId → ℕ → Ghost
ghost_of_moved x job g =
    record { num = g; vram = spans_in Vram x; tt = spans_in Tt x; frames = frames_left x.mem x; jobs = job ∷ [] }

-- one more ghost, unless the pages are free at once
abbrev pub ghosts_left : Buffer → JobId → Left → List Ghost → List Ghost
ghosts_left x job left.Now ghosts = ghosts
ghosts_left x job (left.Ghost g) ghosts = ghosts ++ ghost_of_moved x job g ∷ []

-- the last ghost's number
abbrev pub last_ghost_left : Left → ℕ → ℕ
last_ghost_left left.Now n = n
last_ghost_left (left.Ghost g) n = g

-- the move fence, where the pages are free at once
abbrev pub move_fence_left : JobId → Left → Option JobId → Option JobId
move_fence_left job left.Now old = Some job
move_fence_left job (left.Ghost g) old = old

-- ---- the move

-- the core after a move
abbrev pub core_after_move : Core → BufId → Mem → JobId → Left → Core
core_after_move c b mem job l =
    let x = buffer_in c b in
    record {
      buffers = changed (moved mem job) c.buffers b;
      jobs = with_job job (unfinished c (jobs_before_write x)) (move_packets x mem) c.jobs;
      ghosts = ghosts_left x job l c.ghosts;
      move_fence = move_fence_left job l c.move_fence;
    }

-- the state after a move by this job
abbrev pub after_move_job : Script → State → BufId → Mem → JobId → Left → State
after_move_job script s b mem job l =
    let core = core_after_move s.core b mem job l in
    record s {
      core = core;
      lists = touched script core.buffers s.reservations s.lists b;
      last_ghost = last_ghost_left l s.last_ghost;
      last_jobs = slice_set s.last_jobs job.ctx job.num;
    }

-- moves are jobs of context 0
abbrev pub after_move : Script → State → BufId → Mem → ℕ → Left → State
after_move script s b mem n l = after_move_job script s b mem (record { ctx = 0; num = n }) l
