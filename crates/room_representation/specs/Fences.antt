-- The jobs that a buffer, a job or a ghost waits for, as a list in the state and as a set of latest jobs (dma_fence, dma_resv).
use Rattle.std.specs.Prelude.{◌≡◌, ℕ, ◌&&◌, Bool, true, not, nat_lt, nat_le, List, [], Option, Some, None, filter, map, length, replicate, slice_get, slice_set, unwrap_or}
use Rattle.std.specs.List.{list_any, list_all}
use Rattle.ttm_base.specs.declared.BufId.{BufId}
use Rattle.ttm_base.specs.declared.Fence.{Fence}
use Rattle.ttm_base.specs.declared.JobId.{JobId}
use Rattle.ttm_base.specs.declared.Usage.{Usage}
use Rattle.fence_core.specs.declared.fence_set.Latest.{Latest}
use Rattle.fence_core.specs.Fences.{nothing_kept, added}
use Rattle.fence_core.specs.Histories.{set_of}
use Rattle.journal_model.specs.declared.state.Buffer.{Buffer}
use Rattle.journal_model.specs.declared.state.Job.{Job}
use Rattle.journal_model.specs.rules.Waits.{same_job}
use Rattle.laws.specs.law_state.GoodState.{last_number}

-- the fences of a buffer, none where it is dead
abbrev pub fences_of : Option Buffer → List Fence
fences_of None = []
fences_of (Some x) = x.fences

-- the jobs of fences
abbrev pub jobs_in : List Fence → List JobId
jobs_in fences = map (λ f. f.job) fences

-- ---- which jobs were emitted, and which of them aren't done

-- the job isn't done
abbrev pub is_unfinished_in : List Job → JobId → Bool
is_unfinished_in jobs i = list_any (λ j. same_job i j.id && not j.finished) jobs

-- those of the jobs that aren't done
abbrev pub unfinished_in : List Job → List JobId → List JobId
unfinished_in jobs is = filter (is_unfinished_in jobs) is

-- the job was emitted
abbrev pub is_emitted : List ℕ → JobId → Bool
is_emitted last i = nat_lt 0 i.num && nat_le i.num (last_number last i.ctx) && nat_lt i.ctx (length last)

-- each of the jobs was emitted
abbrev pub are_emitted : List ℕ → List JobId → Bool
are_emitted last is = list_all (is_emitted last) is

-- ---- sets in the place of lists

-- the set keeps the latest of emitted jobs; those of them that aren't done are those of the list that aren't
pub record WaitsFor (jobs : List Job) (last : List ℕ) (is : List JobId) (set : List Latest) : Type 0 where
  pub history : List Fence
  pub kept : set ≡ set_of (length last) history
  pub known : are_emitted last (jobs_in history) ≡ true
  pub listed : are_emitted last is ≡ true
  pub same : unfinished_in jobs (jobs_in history) ≡ unfinished_in jobs is

-- for each buffer the set of its fences, done ones too; each was emitted
pub record AreFences (last : List ℕ) (buffers : List (Option Buffer)) (sets : List (List Latest)) : Type 0 where
  pub sets_are : sets ≡ map (λ o. set_of (length last) (fences_of o)) buffers
  pub known : list_all (λ o. are_emitted last (jobs_in (fences_of o))) buffers ≡ true

-- the set of a buffer
abbrev pub set_at : List (List Latest) → BufId → List Latest
set_at sets b = unwrap_or (slice_get sets b.0) []

-- the sets, where that of buffer `b` is empty again
abbrev pub without_jobs_in : List (List Latest) → BufId → List (List Latest)
without_jobs_in sets b = slice_set sets b.0 (replicate (length (set_at sets b)) nothing_kept)

-- the sets, with one more job in that of buffer `b`
abbrev pub with_use_in : JobId → Usage → List (List Latest) → BufId → List (List Latest)
with_use_in job how sets b = slice_set sets b.0 (added (set_at sets b) job how)
