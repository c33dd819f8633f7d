-- Which buffer is evicted for a place or gives its frames to swap, and why none can be. The rules of a forced place are those of `Search`.
use Rattle.std.specs.Prelude.{Bool, true, false, List, [], ◌∷◌, ◌++◌, Option, Some, None, ◌==◌, ◌&&◌, ◌||◌, not, nat_lt, nat_le, find, filter_map, is_none, length, if◌then◌else◌}
use Rattle.std.specs.List.{list_any}
use Rattle.ttm_base.specs.declared.Mem.TheVariants.{System, Tt}
use Rattle.journal_model.specs.Types.{BufId, Buffer, Cause, CauseRow, DryWhy, Ghost, Place, Reservation, Script, State}
use Rattle.ttm_base.specs.Reach.{same_mem, intersects, length_of}
use Rattle.journal_model.specs.declared.entry.Cause.TheVariants as cause
use Rattle.journal_model.specs.declared.entry.DryWhy.TheVariants as dry
use Rattle.journal_model.specs.rules.State.{buffer, reservation, reservation_in, has_buffer, same_buffer, has_target}
use Rattle.journal_model.specs.rules.Commands.{decl}
use Rattle.journal_model.specs.rules.Places.{is_frame}
use Rattle.journal_model.specs.rules.Holds.{ghost_spans, live_buffers}
use Rattle.journal_model.specs.rules.Choice.{choice, reach_of}
use Rattle.journal_model.specs.rules.Lists.{in_order}

-- rule 3 of a forced place asks for this: it reaches at least as many pages as the buffer has, whether they are free or not
abbrev pub is_long_enough : Script → BufId → Place → Bool
is_long_enough script b place = nat_le (decl script b).pages (length_of (reach_of script place))

-- the buffer has no pin and no holder
abbrev pub is_loose : Reservation → Bool
is_loose g = (g.pins == 0) && is_none g.holder

-- the buffer is in the place's memory type with a page that the place reaches, has no pin and no holder, and isn't one of those skipped
abbrev pub is_evictable : Script → State → List BufId → Place → BufId → Bool
is_evictable script s skips place b =
    let x = buffer s b in
    same_mem x.mem place.mem && intersects x.spans (reach_of script place) && is_loose (reservation s b) && not (has_buffer skips b)

-- rule 4: the victim, which is the first evictable buffer in the order of eviction
abbrev pub victim : Script → State → List BufId → Place → Option BufId
victim script s skips place = find (is_evictable script s skips place) (in_order s place.mem)

-- rule 5: the first ghost that holds a page that the place reaches
abbrev pub ghost_in : Script → State → Place → Option Ghost
ghost_in script s place = find (λ g. intersects (ghost_spans place.mem g) (reach_of script place)) s.core.ghosts

-- the buffer has a frame
abbrev pub has_frame : Buffer → Bool
has_frame x = list_any is_frame x.table

-- the first buffer that may give its frames to swap: in SYSTEM by priority, then in TT
abbrev pub swap_victim : State → Option BufId
swap_victim s = find (λ b. is_loose (reservation s b) && has_frame (buffer s b)) (in_order s System ++ in_order s Tt)

-- the first ghost that holds a frame, for which a fill waits
abbrev pub ghost_with_frame : State → Option Ghost
ghost_with_frame s = find (λ g. nat_lt 0 (length g.frames)) s.core.ghosts

-- why a buffer can't be evicted, by the first that applies: it is pinned; it has a holder; its spans have no page that the place reaches; or
-- it was skipped. A buffer that has no more than a target there has a holder, who searches for it, so its present spans aren't asked
abbrev pub cause_of : Script → Place → Reservation → Buffer → Cause
cause_of script place g x =
    elim (nat_lt 0 g.pins) [
      | true ↦ cause.Pinned
      | false ↦ elim g.holder [
        | Some s ↦ cause.Reserved s
        | None ↦ elim (intersects x.spans (reach_of script place)) [ false ↦ cause.Outside | true ↦ cause.Skipped ]
      ]
    ]

-- the buffer has its resource or a target in the place's manager
abbrev pub cause_row : Script → List Reservation → Place → BufId × Buffer → Option CauseRow
cause_row script reservations place e =
    if same_mem e.1.mem place.mem || has_target place.mem e.1
    then Some (record { b = e.0; cause = cause_of script place (reservation_in reservations e.0) e.1 })
    else None

-- each live buffer with its resource or a target in the place's manager, in declared order
abbrev pub causes : Script → State → Place → List CauseRow
causes script s place = filter_map (cause_row script s.reservations place) (live_buffers s.core)

-- rules 3 and 6: what a dry entry says of a place, that it is too short, or the causes
abbrev pub dry_why : Script → State → BufId → Place → DryWhy
dry_why script s b place = if is_long_enough script b place then dry.Of (causes script s place) else dry.Short

-- the causes are one
abbrev pub same_cause : Cause → Cause → Bool
same_cause cause.Pinned cause.Pinned = true
same_cause (cause.Reserved a) (cause.Reserved b) = a.0 == b.0
same_cause cause.Outside cause.Outside = true
same_cause cause.Skipped cause.Skipped = true
same_cause _ _ = false

-- the same buffers with the same causes, in one order
abbrev pub same_rows : List CauseRow → List CauseRow → Bool
same_rows [] [] = true
same_rows (x ∷ xs) (y ∷ ys) = same_buffer x.b y.b && same_cause x.cause y.cause && same_rows xs ys
same_rows _ _ = false

-- two dry entries say the same
abbrev pub same_why : DryWhy → DryWhy → Bool
same_why dry.Short dry.Short = true
same_why (dry.Of xs) (dry.Of ys) = same_rows xs ys
same_why _ _ = false

-- rules 3 and 6: the place is too short; or it has no choice, no evictable buffer, and no ghost that will give pages back
abbrev pub is_dry : Script → State → List BufId → BufId → Place → Bool
is_dry script s skips b place =
    not (is_long_enough script b place)
    || (is_none (choice script s.core b place) && is_none (victim script s skips place) && is_none (ghost_in script s place))
