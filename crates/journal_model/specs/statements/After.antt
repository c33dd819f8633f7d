-- When a job comes after another: later in its context, or since it waits for it (dma_fence's contexts; dma_resv).
use Rattle.std.specs.Prelude.{◌≡◌, ◌<◌, true, List, Contains}
use Rattle.std.specs.List.{list_any}
use Rattle.journal_model.specs.Types.{Job}
use Rattle.journal_model.specs.rules.JobNames.{same_job}

-- Of these jobs, j comes after i: i is an earlier job of j's context, or j waits for i, or j comes after a job that comes after i.
pub data ComesAfter (jobs : List Job) : Job → Job → Type 0 where
  by_context : {j i : Job} → Contains jobs j → Contains jobs i → i.id.ctx ≡ j.id.ctx → i.id.num < j.id.num → ComesAfter jobs j i
  by_wait : {j i : Job} → Contains jobs j → Contains jobs i → list_any (same_job i.id) j.waits ≡ true → ComesAfter jobs j i
  through : {j k i : Job} → ComesAfter jobs j k → ComesAfter jobs k i → ComesAfter jobs j i
