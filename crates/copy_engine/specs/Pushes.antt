-- Rings of jobs: for each context the jobs that were pushed and not finished, the oldest first.
use Rattle.std.specs.Prelude.{ℕ, ◌+◌, ◌++◌, List, [], ◌∷◌, Option, drop, slice_get, slice_index_or, slice_set}
use Rattle.std.specs.Option.{option_and_then}
use Rattle.ttm_base.specs.declared.JobId.{JobId}
use Rattle.ttm_base.specs.declared.Usage.TheVariants.{Read}
use Rattle.ttm_base.specs.declared.Packet.{Packet}
use Rattle.fence_core.specs.declared.timeline.Progress.{Progress}
use Rattle.fence_core.specs.declared.fence_set.Latest.{Latest}
use Rattle.fence_core.specs.Fences.{needed}

-- a job, the jobs that it waits for, its packets, and how many of them have run
pub record Pushed : Type 0 where
  pub job : JobId
  pub waits : List Latest
  pub packets : List Packet
  pub ran : ℕ

-- the next packet of a job, if one is left
abbrev pub packet_of : Pushed → Option Packet
packet_of pushed = slice_get pushed.packets pushed.ran

-- the job that it waits for, among those of all usages
abbrev pub wait_of : List Progress → Pushed → Option JobId
wait_of timeline pushed = needed Read timeline pushed.waits

-- the job after one more packet of it has run
abbrev pub after_packet_of : Pushed → Pushed
after_packet_of pushed = record pushed { ran = pushed.ran + 1 }

-- ---- rings

-- the jobs of a context
abbrev pub ring_of : List (List Pushed) → ℕ → List Pushed
ring_of rings ctx = slice_index_or rings ctx []

-- the head of a ring: the job that runs, or waits
abbrev pub head_of : List (List Pushed) → ℕ → Option Pushed
head_of rings ctx = slice_get (ring_of rings ctx) 0

-- the next packet of the head
abbrev pub next_of : List (List Pushed) → ℕ → Option Packet
next_of rings ctx = option_and_then packet_of (head_of rings ctx)

-- the rings with one more job, after the others of its context
abbrev pub with_pushed : List (List Pushed) → Pushed → List (List Pushed)
with_pushed rings pushed = slice_set rings pushed.job.ctx (ring_of rings pushed.job.ctx ++ pushed ∷ [])

-- a ring after one more packet of its head has run
abbrev pub head_ran : List Pushed → List Pushed
head_ran [] = []
head_ran (pushed ∷ ring) = after_packet_of pushed ∷ ring

abbrev pub with_ran : List (List Pushed) → ℕ → List (List Pushed)
with_ran rings ctx = slice_set rings ctx (head_ran (ring_of rings ctx))

-- the rings without the head of a context
abbrev pub without_head : List (List Pushed) → ℕ → List (List Pushed)
without_head rings ctx = slice_set rings ctx (drop 1 (ring_of rings ctx))
