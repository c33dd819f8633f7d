-- The jobs that a job with operations waits for at its buffers, and which it then joins, as sets of latest jobs (dma_resv).
use Rattle.std.specs.Prelude.{◌≡◌, ℕ, ◌<◌, List, fold, length, slice_get, if◌then◌else◌}
use Rattle.std.specs.Option.{ForSome}
use Rattle.ttm_base.specs.declared.BufId.{BufId}
use Rattle.ttm_base.specs.declared.JobId.{JobId}
use Rattle.ttm_base.specs.declared.Op.{Op}
use Rattle.ttm_base.specs.declared.Usage.{Usage}
use Rattle.ttm_base.specs.declared.Usage.TheVariants.{Write, Read}
use Rattle.fence_core.specs.declared.fence_set.Latest.{Latest}
use Rattle.fence_core.specs.Fences.{all_added}
use Rattle.journal_model.specs.rules.Waits.{is_written, use_of}
use Rattle.bo_table.specs.Seen.{Bos, fences_at, with_use}

-- up to which usage a job waits at a buffer: for jobs of all usages at one that it writes, and for those up to Write at one that it only reads
abbrev pub waited_use : List Op → BufId → Usage
waited_use ops b = if is_written ops b then Read else Write

-- the set with the jobs that a job of `ops` waits for at the buffers `bs`
abbrev pub with_waits : List Op → List (List Latest) → List Latest → List BufId → List Latest
with_waits ops sets set bs = fold (λ s b. all_added (waited_use ops b) s (fences_at sets b)) set bs

-- the table once `job` uses the buffers `bs`
abbrev pub with_uses : JobId → List Op → Bos → List BufId → Bos
with_uses job ops t bs = fold (λ u b. with_use job (use_of ops b) u b) t bs

-- the jobs of each buffer are kept for all contexts
abbrev pub AreWide : ℕ → List (List Latest) → Type 0
AreWide contexts sets = (i : ℕ) → ForSome (slice_get sets i) (λ set. length set ≡ contexts)

-- the jobs of each buffer are kept for the context `ctx`
abbrev pub HaveContext : ℕ → List (List Latest) → Type 0
HaveContext ctx sets = (i : ℕ) → ForSome (slice_get sets i) (λ set. ctx < length set)
