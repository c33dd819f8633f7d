-- A view is that of a state with its bytes, its plain memory and the owed_probes of its probes.
use Rattle.std.specs.Prelude.{◌≡◌, ℕ, ◌+◌, ◌*◌, ◌<◌, true, false, List, length, Some, ◌⊎◌, slice_get, nat_lt, ◌&&◌, if◌then◌else◌}
use Rattle.std.specs.List.{list_any}
use Rattle.ttm_base.specs.Pages as pages
use Rattle.journal_model.specs.declared.script.Script.{Script}
use Rattle.journal_model.specs.declared.state.Core.{Core}
use Rattle.journal_model.specs.declared.state.Job.{Job}
use Rattle.journal_model.specs.declared.state.Ghost as ghosts
use Rattle.journal_model.specs.rules.Places.{aperture, place_of}
use Rattle.journal_model.specs.rules.Waits.{same_job, jobs_before_read, jobs_before_write}
use Rattle.journal_model.specs.rules.Stores.{is_there}
use Rattle.journal_model.specs.rules.PlainMemory.{Memory, OwedProbes}
use Rattle.laws.specs.lemma_bytes_model.Memory.{Page, Own, touched}
use Rattle.laws.specs.lemma_bytes_model.View.{Owner, View}
use Rattle.laws.specs.law_holders.Holding.{seen, buffer_at}
use Rattle.laws.specs.lemma_bytes_view.Seen.{steps_of}

-- the first job waits for the second, or follows it in its context
pub record Before (jobs : List Job) (j i : ℕ) : Type 0 where
  pub later : Job
  pub earlier : Job
  pub at : slice_get jobs j ≡ Some later
  pub there : slice_get jobs i ≡ Some earlier
  pub why : (list_any (same_job earlier.id) later.waits ≡ true) ⊎ ((i < j) × (later.id.ctx ≡ earlier.id.ctx))

-- job j is a fence of the buffer; a changing one
pub record IsChanging (c : Core) (b j : ℕ) : Type 0 where
  pub job : Job
  pub at : slice_get c.jobs j ≡ Some job
  pub has : list_any (same_job job.id) (jobs_before_read (buffer_at c b)) ≡ true

-- any use
pub record IsUsing (c : Core) (b j : ℕ) : Type 0 where
  pub job : Job
  pub at : slice_get c.jobs j ≡ Some job
  pub has : list_any (same_job job.id) (jobs_before_write (buffer_at c b)) ≡ true

-- job j is one of a ghost of this number
pub record IsGhostly (c : Core) (n j : ℕ) : Type 0 where
  pub job : Job
  pub at : slice_get c.jobs j ≡ Some job
  pub place : ℕ
  pub ghost : ghosts.Ghost
  pub there : slice_get c.ghosts place ≡ Some ghost
  pub number : ghost.num ≡ n
  pub has : list_any (same_job job.id) ghost.jobs ≡ true

-- job j is the move fence
pub record IsMover (c : Core) (j : ℕ) : Type 0 where
  pub job : Job
  pub at : slice_get c.jobs j ≡ Some job
  pub is : c.move_fence ≡ Some job.id

-- what a view tells of a state, its bytes, its plain memory and the owed_probes of its probes, where pages have these owners
pub record SeenBy (IsOwner : Page → Owner → Type 0) (script : Script) (c : Core) (owed_probes : OwedProbes) (memory : Memory) (bytes : pages.PageBytes) (v : View) : Type 0 where
  -- jobs
  pub count : v.count ≡ length c.jobs
  pub left : (i : ℕ) (x : Job) → slice_get c.jobs i ≡ Some x → v.left i ≡ steps_of (aperture c) owed_probes x
  pub begun : (i : ℕ) (x : Job) → slice_get c.jobs i ≡ Some x → v.begun i ≡ nat_lt 0 x.ran
  pub done : (i : ℕ) (x : Job) → slice_get c.jobs i ≡ Some x → v.done i ≡ x.finished
  -- who is waited for
  pub prior : (j i : ℕ) → v.fences.prior j i ≡ true → Before c.jobs j i
  pub strong : (b j : ℕ) → v.fences.strong b j ≡ true → IsChanging c b j
  pub shared : (b j : ℕ) → v.fences.shared b j ≡ true → IsUsing c b j
  pub ghost : (n j : ℕ) → v.fences.ghost n j ≡ true → IsGhostly c n j
  pub mover : (j : ℕ) → v.fences.mover ≡ Some j → IsMover c j
  -- pages
  pub place : (b i : ℕ) → v.place b i ≡ seen (place_of c (record { 0 = b }) i)
  pub owner : (x : Page) → IsOwner x (v.owner x)
  pub there : (i : ℕ) (p : pages.Page) → touched (v.left i) (seen p) ≡ true → is_there script.sizes p ≡ true
  -- bytes
  pub stores : (p : pages.Page) (o : ℕ) → v.stores (seen p) o ≡ bytes p o
  pub cut : (p : pages.Page) (o : ℕ) → (is_there script.sizes p && nat_lt o 4096) ≡ false → bytes p o ≡ 0
  pub plain : (b i o : ℕ) → v.plain (Own b i) o ≡ (if nat_lt o 4096 then memory b (4096 * i + o) else 0)
