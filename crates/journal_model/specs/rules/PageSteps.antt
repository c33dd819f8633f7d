-- Steps with frames, slots and targets: filling, emptying, carrying, giving back. Rules are those of `Tasks`.
use Rattle.std.specs.Prelude.{ℕ, ◌+◌, true, false, Option, Some, None, Ok, Err, not, find, position, option_map, unwrap_or, slice_get, if◌then◌else◌}
use Rattle.journal_model.specs.Types.{BufId, Buffer, Core, Course, JobId, Kind, Loc, Mem, Script, State, Why}
use Rattle.ttm_base.specs.declared.Mem.TheVariants.{System, Tt, Vram}
use Rattle.ttm_base.specs.declared.Need.TheVariants as need
use Rattle.journal_model.specs.declared.entry.Kind.TheVariants as kind
use Rattle.ttm_base.specs.declared.Loc.TheVariants as loc
use Rattle.journal_model.specs.declared.entry.Why.TheVariants as why
use Rattle.journal_model.specs.declared.entry.Left.TheVariants as left
use Rattle.journal_model.specs.rules.State.{buffer, buffer_in, same_buffer, has_target}
use Rattle.journal_model.specs.rules.Places.{is_frame, loc_of}
use Rattle.journal_model.specs.rules.Holds.{free_frame, free_slot}
use Rattle.journal_model.specs.rules.Waits.{waited_for, jobs_before_write}
use Rattle.journal_model.specs.rules.Dry.{swap_victim, ghost_with_frame, has_frame}
use Rattle.journal_model.specs.rules.Search.{Step, is_caught}

-- the step, unless a job is waited for
abbrev pub unless_waiting : Option JobId → Kind → Step
unless_waiting None k = Ok k
unless_waiting (Some job) k = Err (need.Fence job)

-- the step, once all jobs of the buffer are done
abbrev pub once_idle : Core → BufId → Kind → Step
once_idle c b k = unless_waiting (waited_for c (jobs_before_write (buffer_in c b))) k

-- ---- filling, by rules 6 and 9. The first that applies: a frame is free; a slot is free, and a victim for swap is caught; a ghost holds a
-- frame, and is waited for; else no pages are available

-- the first page without a frame
abbrev pub page_to_fill : Buffer → ℕ
page_to_fill x = unwrap_or (position (λ l. not (is_frame l)) x.table) 0

-- puts the frame under the page: a page in swap comes back from its slot, any other is fresh
abbrev pub filled_by : BufId → ℕ → ℕ → Loc → Kind
filled_by b page frame (loc.Slot slot) = kind.SwapIn b page slot frame
filled_by b page frame loc.Zero = kind.Populate b page frame
filled_by b page frame (loc.Frame f) = kind.Populate b page frame

-- waits for the first ghost that holds a frame; without one the fill fails
abbrev pub step_without_victim : State → BufId → Step
step_without_victim s b = elim (ghost_with_frame s) [ Some g ↦ Err (need.Ghost g.num) | None ↦ Ok (kind.NoPages b) ]

-- catches the victim for swap, where a slot is free
abbrev pub step_without_frame : Script → State → BufId → Step
step_without_frame script s b =
    elim (free_slot script s.core) [
      | None ↦ step_without_victim s b
      | Some slot ↦ elim (swap_victim s) [ Some v ↦ Ok (kind.Catch v why.Swap) | None ↦ step_without_victim s b ]
    ]

-- gives the first page without a frame the lowest free frame (ttm_pool_alloc, ttm_tt_swapin); without one it makes room for that
abbrev pub step_of_fill : Script → State → BufId → Step
step_of_fill script s b =
    let x = buffer s b in
    let page = page_to_fill x in
    elim (free_frame script s.core) [
      | Some frame ↦ Ok (filled_by b page frame (loc_of x page))
      | None ↦ step_without_frame script s b
    ]

-- ---- emptying, by rules 6 and 10

-- the first page with a frame
abbrev pub first_frame_page : Buffer → ℕ
first_frame_page x = unwrap_or (position is_frame x.table) 0

-- brings the buffer's first page that has a frame to the lowest free slot, once its jobs are done. `no_frame` is the step where none is left,
-- and `no_slot` where no slot is free
abbrev pub step_of_swap_out : Script → State → BufId → (no_frame no_slot : Step) → Step
step_of_swap_out script s b no_frame no_slot =
    elim (has_frame (buffer s b)) [
      | false ↦ no_frame
      | true ↦ elim (free_slot script s.core) [
        | None ↦ no_slot
        | Some slot ↦ once_idle s.core b (kind.SwapOut b (first_frame_page (buffer s b)) slot)
      ]
    ]

-- for what the victim was caught
abbrev pub why_caught : Course → BufId → Option Why
why_caught c b = option_map (λ v. v.why) (find (λ v. same_buffer b v.b) c.caught)

-- rule 6: a victim for swap gives its frames to slots as far as it can, and is let go; any other is let go at once
abbrev pub step_of_empty : Script → State → Course → BufId → Step
step_of_empty script s c b =
    elim (why_caught c b) [
      | Some w ↦ elim w [
        | why.Swap ↦ step_of_swap_out script s b (Ok (kind.Loose b)) (Ok (kind.Loose b))
        | why.Tt ↦ Ok (kind.Loose b)
        | why.Vram ↦ Ok (kind.Loose b)
      ]
      | None ↦ Ok (kind.Loose b)
    ]

-- ---- carrying, by rules 6 and 9, and giving back, by rules 6 and 8

-- the number of the context's next job
abbrev pub next_job : State → ℕ → ℕ
next_job s ctx = unwrap_or (slice_get s.last_jobs ctx) 0 + 1

-- the number of the next ghost
abbrev pub next_ghost : State → ℕ
next_ghost s = s.last_ghost + 1

-- rules 6 and 9: moves the buffer to its target. The pages that a caught victim leaves are free at once; those of any other stay with a ghost
abbrev pub step_of_move : State → Course → BufId → Mem → Step
step_of_move s c b mem =
    Ok (kind.Move b mem (next_job s 0) (if is_caught c b then left.Now else left.Ghost (next_ghost s)))

-- the next target that is given back: that in VRAM, then that in TT, then that in SYSTEM
abbrev pub target_to_untake : Buffer → Mem
target_to_untake x = if has_target Vram x then Vram else if has_target Tt x then Tt else System

-- rules 6 and 8: gives back what a failed search or fill took: all frames of a buffer in VRAM, then a target
abbrev pub step_of_give_back : State → BufId → Step
step_of_give_back s b =
    let x = buffer s b in
    Ok (elim x.mem [
      | Vram ↦ elim (has_frame x) [ true ↦ kind.Depopulate b | false ↦ kind.Untake b (target_to_untake x) ]
      | Tt ↦ kind.Untake b (target_to_untake x)
      | System ↦ kind.Untake b (target_to_untake x)
    ])
