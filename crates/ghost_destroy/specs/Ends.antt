-- What must come before the first ghost ends.
use Rattle.std.specs.Prelude.{Option, Some, None, option_map, slice_get}
use Rattle.ttm_base.specs.declared.Need.{Need}
use Rattle.ttm_base.specs.declared.Need.TheVariants as need
use Rattle.journal_model.specs.declared.state.State.{State}
use Rattle.journal_model.specs.declared.state.Ghost.{Ghost}
use Rattle.journal_model.specs.rules.Waits.{waited_for}

-- what must come before the ghost ends: the job that isn't done yet; a ghost, where there is none
abbrev pub need_before_end : State → Option Ghost → Option Need
need_before_end s None = Some need.NoGhost
need_before_end s (Some g) = option_map need.Fence (waited_for s.core g.jobs)

-- what must come before the first ghost ends
abbrev pub reaper_needs : State → Option Need
reaper_needs s = need_before_end s (slice_get s.core.ghosts 0)
