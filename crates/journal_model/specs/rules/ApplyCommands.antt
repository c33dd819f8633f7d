-- The state after entries that begin and end commands: tickets, reservations, buffers made and freed, bulk moves, answers.
use Rattle.std.specs.Prelude.{ℕ, ◌+◌, ◌-◌, true, List, [], ◌∷◌, ◌++◌, Option, Some, None, ◌==◌, filter, map, fold, slice_set, if◌then◌else◌}
use Rattle.ttm_base.specs.declared.Mem.TheVariants.{Tt, Vram}
use Rattle.journal_model.specs.Types.{BufId, Buffer, Command, Core, Course, Ghost, Reservation, Script, Stamp, State}
use Rattle.journal_model.specs.declared.script.Command.TheVariants as command
use Rattle.journal_model.specs.rules.State.{new_buffer, new_course, no_reservation, reservation_changed, buffer, course, has_buffer, without_buffer, with_course, with_buffers}
use Rattle.journal_model.specs.rules.Commands.{decl, named, command_at_work}
use Rattle.journal_model.specs.rules.Places.{frames_of}
use Rattle.journal_model.specs.rules.Holds.{spans_in}
use Rattle.journal_model.specs.rules.Waits.{unfinished, jobs_before_write}
use Rattle.journal_model.specs.rules.Lists.{touched, listed_as, taken_off, is_member, members_last}

-- ---- tickets and reservations (ww_acquire_ctx, dma_resv_lock)

-- another holder, or none
abbrev pub with_holder : Option Stamp → Reservation → Reservation
with_holder holder g = record g { holder = holder }

-- the reservations, some of them with no holder
abbrev pub released : List Reservation → List BufId → List Reservation
released reservations bs = fold (reservation_changed (with_holder None)) reservations bs

-- the thread has a stamp
abbrev pub after_ticket : State → ℕ → Stamp → State
after_ticket s t stamp =
    record s { last_stamp = stamp.0; courses = with_course s.courses t (record (course s t) { stamp = Some stamp }) }

-- the thread's stamp holds the buffer
abbrev pub after_reserve : State → ℕ → BufId → State
after_reserve s t b =
    record s {
      reservations = reservation_changed (with_holder (course s t).stamp) s.reservations b;
      courses = with_course s.courses t (record (course s t) { held = (course s t).held ++ b ∷ [] });
    }

-- all reservations of the thread end; its stamp stays, and the buffer comes first
abbrev pub after_backoff : State → ℕ → BufId → State
after_backoff s t b =
    record s {
      reservations = released s.reservations (course s t).held;
      courses = with_course s.courses t (record (course s t) { held = []; first = Some b });
    }

-- ---- making and freeing

-- the command is done but for its result
abbrev pub has_made : Course → Course
has_made c = record c { made = true }

-- live in SYSTEM, with no page, pin, holder, target or fence
abbrev pub after_new : Script → State → ℕ → BufId → State
after_new script s t b =
    let x = new_buffer (decl script b).pages in
    record s {
      core = with_buffers (slice_set s.core.buffers b.0 (Some x)) s.core;
      reservations = slice_set s.reservations b.0 no_reservation;
      lists = listed_as script s.lists b no_reservation (Some x);
      courses = with_course s.courses t (has_made (course s t));
    }

-- what a buffer with unfinished jobs leaves
abbrev pub ghost_of_freed : Core → Buffer → ℕ → Ghost
ghost_of_freed c x g =
    record { num = g; vram = spans_in Vram x; tt = spans_in Tt x; frames = frames_of x; jobs = unfinished c (jobs_before_write x) }

-- a buffer with unfinished jobs leaves a ghost, whose number isn't 0
abbrev pub after_free : State → ℕ → BufId → ℕ → State
after_free s t b g =
    record s {
      core = record s.core {
        buffers = slice_set s.core.buffers b.0 None;
        ghosts = if g == 0 then s.core.ghosts else s.core.ghosts ++ ghost_of_freed s.core (buffer s b) g ∷ [];
      };
      reservations = slice_set s.reservations b.0 no_reservation;
      lists = taken_off s.lists b;
      last_ghost = if g == 0 then s.last_ghost else g;
      courses = with_course s.courses t (has_made (record (course s t) { held = without_buffer (course s t).held b }));
    }

-- ---- bulk moves, results and refusals

-- the members of a group go to the end of each list
abbrev pub after_bulk : Script → State → ℕ → ℕ → State
after_bulk script s t group =
    record s {
      lists = map (members_last (is_member script group)) s.lists;
      courses = with_course s.courses t (has_made (course s t));
    }

-- one pin more
abbrev pub pinned_more : Reservation → Reservation
pinned_more g = record g { pins = g.pins + 1 }

-- one pin less
abbrev pub pinned_less : Reservation → Reservation
pinned_less g = record g { pins = g.pins - 1 }

-- the reservations after a pin or unpin
abbrev pub with_pins : Option Command → List Reservation → List Reservation
with_pins (Some (command.Pin b)) reservations = reservation_changed pinned_more reservations b
with_pins (Some (command.Unpin b)) reservations = reservation_changed pinned_less reservations b
with_pins _ reservations = reservations

-- the start of the next command
abbrev pub on_to_next : Course → Course
on_to_next c = new_course (c.answered + 1)

-- the buffers of a command, if there is one
abbrev pub named_in : Option Command → List BufId
named_in None = []
named_in (Some cmd) = named cmd

-- the held buffers, as the command names them
abbrev pub held_as_named : Course → Option Command → List BufId
held_as_named c cmd = filter (has_buffer c.held) (named_in cmd)

-- pins change, the held buffers are let go and touched, and the course goes on
abbrev pub after_answer : Script → State → ℕ → Option Command → State
after_answer script s t cmd =
    let reservations = with_pins cmd (released s.reservations (course s t).held) in
    record s {
      reservations = reservations;
      lists = fold (touched script s.core.buffers reservations) s.lists (held_as_named (course s t) cmd);
      courses = with_course s.courses t (on_to_next (course s t));
    }

-- the command at work is answered
abbrev pub after_result : Script → State → ℕ → State
after_result script s t = after_answer script s t (command_at_work script s t)

-- the held buffers are let go without touch
abbrev pub after_refusal : State → ℕ → State
after_refusal s t =
    record s { reservations = released s.reservations (course s t).held; courses = with_course s.courses t (on_to_next (course s t)) }
