-- What holds of tables and jobs in every state that a legal journal leads to.
use Rattle.std.specs.Prelude.{◌≡◌, ℕ, ◌+◌, ◌<◌, ◌≤◌, true, List, Option, Some, None, length, slice_get, unwrap_or}
use Rattle.ttm_base.specs.declared.BufId.{BufId}
use Rattle.journal_model.specs.declared.script.Script.{Script}
use Rattle.journal_model.specs.declared.state.State.{State}
use Rattle.journal_model.specs.declared.state.Job.{Job}
use Rattle.journal_model.specs.declared.state.Buffer.{Buffer}
use Rattle.journal_model.specs.rules.State.{live_in}
use Rattle.journal_model.specs.rules.Commands.{decl}
use Rattle.journal_model.specs.rules.Waits.{same_job}

-- the buffer, if it is live, has as many pages as declared
abbrev pub HasPages : Script → BufId → Option Buffer → Type 0
HasPages script b None = Unit {0}
HasPages script b (Some x) = length x.table ≡ (decl script b).pages

-- each live buffer has as many pages as declared
abbrev pub HaveTables : Script → List (Option Buffer) → Type 0
HaveTables script buffers = (b : BufId) → HasPages script b (live_in buffers b)

-- the last number of a context
abbrev pub last_number : List ℕ → ℕ → ℕ
last_number last ctx = unwrap_or (slice_get last ctx) 0

-- the jobs have contexts and numbers within their bounds, distinct names, and no more packets run than there are
pub record GoodJobs (engines : ℕ) (last : List ℕ) (jobs : List Job) : Type 0 where
  pub rooms : length last ≡ engines + 1
  pub contexts : (i : ℕ) (x : Job) → slice_get jobs i ≡ Some x → x.id.ctx ≤ engines
  pub numbers : (i : ℕ) (x : Job) → slice_get jobs i ≡ Some x → x.id.num ≤ last_number last x.id.ctx
  pub names : (i j : ℕ) (x y : Job) → slice_get jobs i ≡ Some x → slice_get jobs j ≡ Some y → same_job x.id y.id ≡ true → i ≡ j
  pub ran : (i : ℕ) (x : Job) → slice_get jobs i ≡ Some x → x.ran ≤ length x.packets
  pub some : (i : ℕ) (x : Job) → slice_get jobs i ≡ Some x → 0 < length x.packets
  pub few : (i : ℕ) (x : Job) → slice_get jobs i ≡ Some x → length x.packets ≤ 67108864

-- the tables and jobs of a state are good
pub record GoodState (script : Script) (s : State) : Type 0 where
  pub many : length s.core.buffers ≡ length script.buffers
  pub tables : HaveTables script s.core.buffers
  pub jobs : GoodJobs script.sizes.engines s.last_jobs s.core.jobs
