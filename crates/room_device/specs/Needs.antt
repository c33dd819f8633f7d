-- What an engine needs before it goes on.
use Rattle.std.specs.Prelude.{ℕ, true, false, Option, Some, None, length, nat_lt, option_map}
use Rattle.ttm_base.specs.declared.Need.{Need}
use Rattle.ttm_base.specs.declared.Need.TheVariants as need
use Rattle.journal_model.specs.declared.state.State.{State}
use Rattle.journal_model.specs.declared.state.Job.{Job}
use Rattle.journal_model.specs.rules.Next.{head_of}
use Rattle.journal_model.specs.rules.Waits.{waited_for}

-- what the head needs: a job; and before each of its packets that what it waits for is done
abbrev pub need_of_head : State → Option Job → Option Need
need_of_head s None = Some need.NoJob
need_of_head s (Some j) =
    elim (nat_lt j.ran (length j.packets)) [ true ↦ option_map need.Fence (waited_for s.core j.waits) | false ↦ None ]

-- what the engine of a context needs
abbrev pub engine_needs : State → ℕ → Option Need
engine_needs s ctx = need_of_head s (head_of s ctx)
