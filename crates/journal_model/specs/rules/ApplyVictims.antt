-- The state after entries on victims and on searches that failed (ttm_mem_evict_first).
use Rattle.std.specs.Prelude.{ℕ, ◌+◌, Bool, true, false, List, [], ◌∷◌, ◌++◌, Option, Some, None, ◌==◌, ◌||◌, not, filter, map, length, if◌then◌else◌}
use Rattle.journal_model.specs.Types.{BufId, Buffer, Command, Course, Deny, Mem, Script, State, Victim, Why}
use Rattle.ttm_base.specs.declared.Mem.TheVariants.{System, Tt, Vram}
use Rattle.ttm_base.specs.declared.Deny.TheVariants as deny
use Rattle.journal_model.specs.declared.entry.Why.TheVariants as why
use Rattle.ttm_base.specs.Placement.{forced_places}
use Rattle.journal_model.specs.rules.State.{changed, reservation_changed, course, same_buffer, with_course, with_buffers}
use Rattle.journal_model.specs.rules.Commands.{command_at_work}
use Rattle.journal_model.specs.rules.Lists.{touched}
use Rattle.journal_model.specs.rules.Search.{is_caught, place_search_at_work}
use Rattle.journal_model.specs.rules.ApplyCommands.{with_holder}
use Rattle.journal_model.specs.rules.ApplyPages.{with_spans}

-- the failure of the search of a buffer: of a victim its own, else the command's
abbrev pub failed_if : Deny → BufId → Victim → Victim
failed_if d b v = if same_buffer b v.b then record v { fail = Some d } else v

-- the search of the buffer has failed
abbrev pub with_fail : BufId → Deny → Course → Course
with_fail b d c = if is_caught c b then record c { caught = map (failed_if d b) c.caught } else record c { fail = Some d }

-- the victim leaves the caught
abbrev pub no_longer_caught : BufId → Course → Course
no_longer_caught b c = record c { caught = filter (λ v. not (same_buffer b v.b)) c.caught }

-- no page was found
abbrev pub after_no_pages : State → ℕ → BufId → State
after_no_pages s t b = record s { courses = with_course s.courses t (with_fail b deny.NoPages (course s t)) }

-- ---- caught, let go, skipped

-- a victim in TT is to go to SYSTEM
abbrev pub leaves_tt : Mem → Buffer → Buffer
leaves_tt Tt x = with_spans System (Some []) x
leaves_tt Vram x = x
leaves_tt System x = x

-- the first victim of a search turns it to the forced places
abbrev pub forces : Why → List Victim → Bool
forces why.Swap others = false
forces why.Tt others = length others == 0
forces why.Vram others = length others == 0

-- one more victim
abbrev pub with_victim : BufId → Why → Course → Course
with_victim b w c =
    record c { caught = c.caught ++ record { b = b; why = w; fail = None } ∷ []; forced = c.forced || forces w c.caught }

-- the victim is held by the thread's stamp
abbrev pub after_catch : State → ℕ → BufId → Why → State
after_catch s t b w =
    record s {
      core = with_buffers (changed (λ x. leaves_tt x.mem x) s.core.buffers b) s.core;
      reservations = reservation_changed (with_holder (course s t).stamp) s.reservations b;
      courses = with_course s.courses t (with_victim b w (course s t));
    }

-- the victim is let go and touched
abbrev pub after_loose : Script → State → ℕ → BufId → State
after_loose script s t b =
    let reservations = reservation_changed (with_holder None) s.reservations b in
    record s {
      reservations = reservations;
      lists = touched script s.core.buffers reservations s.lists b;
      courses = with_course s.courses t (no_longer_caught b (course s t));
    }

-- this command catches the buffer no more
abbrev pub with_skip : BufId → Course → Course
with_skip b c = record c { skips = c.skips ++ b ∷ [] }

-- the victim is let go and skipped
abbrev pub after_skip : State → ℕ → BufId → State
after_skip s t b =
    record s {
      reservations = reservation_changed (with_holder None) s.reservations b;
      courses = with_course s.courses t (with_skip b (no_longer_caught b (course s t)));
    }

-- ---- a dry place

-- one more forced place is dry; after the last the search has failed
abbrev pub gone_dry : ℕ → ℕ → Course → Course
gone_dry k places c =
    record c { forced = true; dry = k + 1; fail = (if k + 1 == places then Some deny.NoSpace else c.fail) }

-- the course of the searching thread
abbrev pub course_after_dry : Script → State → BufId → ℕ → Option Command → Course → Course
course_after_dry script s b k None c = c
course_after_dry script s b k (Some cmd) c =
    if is_caught c b
    then with_fail b deny.NoSpace c
    else gone_dry k (length (forced_places (place_search_at_work script s c cmd b).list)) c

-- after the last forced place the search of a named buffer has failed; a victim has one place alone
abbrev pub after_dry : Script → State → ℕ → BufId → ℕ → State
after_dry script s t b k =
    record s { courses = with_course s.courses t (course_after_dry script s b k (command_at_work script s t) (course s t)) }
