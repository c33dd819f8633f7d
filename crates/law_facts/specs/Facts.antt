-- The facts on which transparency rests, as laws of the state after each legal journal (dma_fence, dma_resv, the move fence of a
-- manager, delayed destroys). The functions of this crate have them as contracts, by their names here. A job touches the pages of its packets
-- that haven't run; it is unfinished until its end is told.
use Rattle.std.specs.Prelude.{◌≡◌, ℕ, ◌<◌, Bool, true, false, List, Some, None, Contains, ◌⊎◌, ◌&&◌, ◌||◌, filter, map, take, option_to_list, slice_get, if◌then◌else◌}
use Rattle.std.specs.List.{list_any}
use Rattle.ttm_base.specs.declared.Mem.TheVariants.{Vram}
use Rattle.ttm_base.specs.declared.BufId.{BufId}
use Rattle.ttm_base.specs.declared.JobId.{JobId}
use Rattle.ttm_base.specs.declared.Fence.{Fence}
use Rattle.ttm_base.specs.declared.Usage.TheVariants as usage
use Rattle.ttm_base.specs.Pages.{Page, vram, frame}
use Rattle.ttm_base.specs.Packets.{packet_touches, packet_writes, packet_names}
use Rattle.journal_model.specs.declared.script.Script.{Script}
use Rattle.journal_model.specs.declared.entry.Entry.{Entry}
use Rattle.journal_model.specs.declared.state.Core.{Core}
use Rattle.journal_model.specs.declared.state.Buffer.{Buffer}
use Rattle.journal_model.specs.declared.state.Job.{Job}
use Rattle.journal_model.specs.declared.state.Ghost.{Ghost}
use Rattle.journal_model.specs.rules.State.{live_in, buffer_in, target_spans}
use Rattle.journal_model.specs.rules.Places.{pages_of, frames_of, place_of, aperture}
use Rattle.journal_model.specs.rules.Holds.{is_free_page, held_frames, has_number}
use Rattle.journal_model.specs.rules.Waits.{same_job, waited_for, jobs_before_read, jobs_before_write}
use Rattle.journal_model.specs.statements.After.{ComesAfter}
use Rattle.journal_model.specs.statements.Spares.{remaining}
use Rattle.journal_model.specs.rules.Legal.{state_of}
use Rattle.journal_model.specs.statements.Laws.{ForLegal}

-- a law of the state after every legal journal
abbrev pub ForStates : (Core → Type 0) → Type 0
ForStates law = ForLegal (λ script journal. law (state_of script journal).core)

-- ---- order

-- where j comes after i and j is done, i is done; and a job waits only for jobs that were emitted before it
pub record AreInOrder (c : Core) : Type 0 where
  pub done : (j i : Job) → ComesAfter c.jobs j i → j.finished ≡ true → i.finished ≡ true
  pub waits : (n : ℕ) (j : Job) (i : JobId) → slice_get c.jobs n ≡ Some j → Contains j.waits i → list_any (λ k. same_job i k.id) (take n c.jobs) ≡ true

abbrev pub LegalJobsAreInOrder : Type 0
LegalJobsAreInOrder = ForStates AreInOrder

-- ---- what a job touches, and which jobs cover it

-- a packet of the job that hasn't run touches the page
abbrev pub touches : Core → Page → Job → Bool
touches c page j = list_any (packet_touches (aperture c) page) (remaining j)

-- a packet of the job that hasn't run writes the page
abbrev pub writes_to : Core → Page → Job → Bool
writes_to c page j = list_any (packet_writes (aperture c) page) (remaining j)

-- the job is one of these
abbrev pub is_among : List JobId → Job → Bool
is_among is j = list_any (same_job j.id) is

-- an unfinished one of these jobs is the job, or comes after it
pub record IsCovered (jobs : List Job) (is : List JobId) (i : Job) : Type 0 where
  pub job : Job
  pub there : Contains jobs job
  pub among : is_among is job ≡ true
  pub unfinished : job.finished ≡ false
  pub after : (job ≡ i) ⊎ ComesAfter jobs job i

-- the job is one of the buffer, as KERNEL or WRITE where it changes it
abbrev pub is_job_of : Buffer → (changes : Bool) → Job → Bool
is_job_of x changes i = is_among (if changes then jobs_before_read x else jobs_before_write x) i

-- each use of the buffer waits for the fence
abbrev pub is_kernel : Fence → Bool
is_kernel f = elim f.usage [ usage.Kernel ↦ true | usage.Write ↦ false | usage.Read ↦ false ]

-- the KERNEL jobs of a buffer
abbrev pub kernel_jobs : Buffer → List JobId
kernel_jobs x = map (λ f. f.job) (filter is_kernel x.fences)

-- ---- places of buffers, targets, ghosts and free pages

-- a job that touches a place of a buffer is a job of that buffer, or a KERNEL job of the buffer covers it
abbrev pub PlacesAreFenced : Core → Type 0
PlacesAreFenced c =
    (i : Job) (b : BufId) (k : ℕ) → Contains c.jobs i → i.finished ≡ false → touches c (place_of c b k) i ≡ true →
    (is_job_of (buffer_in c b) (writes_to c (place_of c b k) i) i ≡ true) ⊎ IsCovered c.jobs (kernel_jobs (buffer_in c b)) i

abbrev pub LegalPlacesAreFenced : Type 0
LegalPlacesAreFenced = ForStates PlacesAreFenced

-- a KERNEL job of the buffer covers a job that touches a page of its target in VRAM, and so does the move job of VRAM
abbrev pub TargetsAreFenced : Core → Type 0
TargetsAreFenced c =
    (i : Job) (b : BufId) (p : ℕ) → Contains c.jobs i → i.finished ≡ false →
    has_number (pages_of (target_spans Vram (buffer_in c b))) p ≡ true → touches c (vram p) i ≡ true →
    IsCovered c.jobs (kernel_jobs (buffer_in c b)) i × IsCovered c.jobs (option_to_list c.move_fence) i

abbrev pub LegalTargetsAreFenced : Type 0
LegalTargetsAreFenced = ForStates TargetsAreFenced

-- a job of a ghost covers a job that touches a page of VRAM or a frame of the ghost
pub record GhostsAreFenced (c : Core) : Type 0 where
  pub pages : (i : Job) (g : Ghost) (p : ℕ) → Contains c.jobs i → i.finished ≡ false → Contains c.ghosts g → has_number (pages_of g.vram) p ≡ true → touches c (vram p) i ≡ true → IsCovered c.jobs g.jobs i
  pub frames : (i : Job) (g : Ghost) (f : ℕ) → Contains c.jobs i → i.finished ≡ false → Contains c.ghosts g → has_number g.frames f ≡ true → touches c (frame f) i ≡ true → IsCovered c.jobs g.jobs i

abbrev pub LegalGhostsAreFenced : Type 0
LegalGhostsAreFenced = ForStates GhostsAreFenced

-- the move job of VRAM covers a job that touches a free page of VRAM; no job touches a free frame, or one that the table of a buffer in
-- VRAM keeps
pub record FreePagesAreFenced (c : Core) : Type 0 where
  pub pages : (i : Job) (p : ℕ) → Contains c.jobs i → i.finished ≡ false → is_free_page Vram c p ≡ true → touches c (vram p) i ≡ true → IsCovered c.jobs (option_to_list c.move_fence) i
  pub frames : (i : Job) (f : ℕ) → Contains c.jobs i → i.finished ≡ false → has_number (held_frames c) f ≡ false → touches c (frame f) i ≡ false
  pub kept : (i : Job) (b : BufId) (x : Buffer) (f : ℕ) → Contains c.jobs i → i.finished ≡ false → live_in c.buffers b ≡ Some x → x.mem ≡ Vram → has_number (frames_of x) f ≡ true → touches c (frame f) i ≡ false

abbrev pub LegalFreePagesAreFenced : Type 0
LegalFreePagesAreFenced = ForStates FreePagesAreFenced

-- ---- conflicts

-- both jobs touch the page by packets that haven't run, and one of them writes it
abbrev pub conflict : Core → Page → Job → Job → Bool
conflict c page i j = (touches c page i && writes_to c page j) || (writes_to c page i && touches c page j)

-- j waits for i, or for a job that comes after i
pub record WaitsFor (jobs : List Job) (j i : Job) : Type 0 where
  pub job : Job
  pub there : Contains jobs job
  pub waits : is_among j.waits job ≡ true
  pub after : (job ≡ i) ⊎ ComesAfter jobs job i

-- of two jobs in conflict the later waits for the earlier
abbrev pub ConflictsWait : Core → Type 0
ConflictsWait c =
    (m n : ℕ) (i j : Job) (page : Page) → m < n → slice_get c.jobs m ≡ Some i → slice_get c.jobs n ≡ Some j → conflict c page i j ≡ true →
    WaitsFor c.jobs j i

abbrev pub LegalConflictsWait : Type 0
LegalConflictsWait = ForStates ConflictsWait

-- a job that waits for no unfinished job is in conflict with no unfinished job that was emitted before it
abbrev pub ReadyJobsMayRun : Core → Type 0
ReadyJobsMayRun c =
    (m n : ℕ) (i j : Job) (page : Page) → m < n → slice_get c.jobs m ≡ Some i → slice_get c.jobs n ≡ Some j → i.finished ≡ false → waited_for c j.waits ≡ None →
    conflict c page i j ≡ false

abbrev pub LegalReadyJobsMayRun : Type 0
LegalReadyJobsMayRun = ForStates ReadyJobsMayRun

-- ---- the aperture

-- An aperture page that an unfinished job names, by packets that have run or not, is mapped, and was mapped to the same frame in each
-- state that has the job; so in the state after the entry that emitted it, in which a move into TT has mapped it.
abbrev pub MappingsStay : Script → List Entry → Type 0
MappingsStay script journal =
    (n : ℕ) (i was : Job) (page : ℕ) → Contains (state_of script journal).core.jobs i → i.finished ≡ false → list_any (packet_names page) i.packets ≡ true →
    Contains (state_of script (take n journal)).core.jobs was → was.id ≡ i.id →
    (f : ℕ) × (aperture (state_of script journal).core page ≡ Some f) × (aperture (state_of script (take n journal)).core page ≡ Some f)

abbrev pub LegalMappingsStay : Type 0
LegalMappingsStay = ForLegal MappingsStay
