-- What an actor's next entry tells of the state before it.
use Rattle.std.specs.Prelude.{ℕ, Bool, true, false, Option, Some, None, ◌==◌, ◌&&◌, ◌||◌, not, is_none, slice_get}
use Rattle.ttm_base.specs.declared.Mem.TheVariants.{System, Vram}
use Rattle.ttm_base.specs.declared.BufId.{BufId}
use Rattle.ttm_base.specs.Reach.{same_mem}
use Rattle.journal_model.specs.declared.state.State.{State}
use Rattle.journal_model.specs.declared.state.Ghost.{Ghost}
use Rattle.journal_model.specs.declared.entry.Kind.{Kind}
use Rattle.journal_model.specs.declared.entry.Kind.TheVariants as kind
use Rattle.journal_model.specs.rules.State.{buffer, is_live}
use Rattle.journal_model.specs.rules.Waits.{waited_for, jobs_before_write}

-- no job of the buffer is waited for
abbrev pub is_quiet : State → BufId → Bool
is_quiet s b = is_none (waited_for s.core (jobs_before_write (buffer s b)))

-- the first ghost has this number, and none of its jobs is waited for
abbrev pub is_over : State → ℕ → Option Ghost → Bool
is_over s g None = false
is_over s g (Some h) = (h.num == g) && is_none (waited_for s.core h.jobs)

-- only a dead buffer is made; one is bound from SYSTEM, emptied at once in VRAM alone, and unbound, swapped out or freed
-- without a ghost once its jobs are done; the first ghost goes once its jobs are done; only a buffer in TT or VRAM moves
abbrev pub is_due : State → Kind → Bool
is_due s (kind.New b) = not (is_live s b)
is_due s (kind.Bind b) = same_mem (buffer s b).mem System
is_due s (kind.Depopulate b) = same_mem (buffer s b).mem Vram
is_due s (kind.Unbind b) = is_quiet s b
is_due s (kind.SwapOut b page slot) = is_quiet s b
is_due s (kind.Free b g) = not (g == 0) || is_quiet s b
is_due s (kind.Move b mem n l) = not (same_mem (buffer s b).mem System)
is_due s (kind.Reap g) = is_over s g (slice_get s.core.ghosts 0)
is_due s _ = true
