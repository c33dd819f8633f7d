-- The state after a thread's command was armed or answered, or freed a buffer, in the words of the code.
use Rattle.std.proofs.Common.{◌≡◌, ℕ, ◌+◌, ◌-◌, List, [], ◌∷◌, ◌++◌, Bool, true, false, Option, Some, None, refl, sym, ◌∙◌, ap, subst}
use Rattle.std.proofs.lemmas.Bool.{false≢true}
use Rattle.std.specs.Prelude.{◌==◌, IsSome, if◌then◌else◌, filter, fold, slice_get, slice_set, unwrap_or}
use Rattle.ttm_base.specs.declared.BufId.{BufId}
use Rattle.ttm_base.specs.declared.JobId.{JobId}
use Rattle.ttm_base.specs.declared.Op.{Op}
use Rattle.journal_model.specs.declared.script.Script.{Script}
use Rattle.journal_model.specs.declared.script.Command.{Command}
use Rattle.journal_model.specs.declared.state.State.{State}
use Rattle.journal_model.specs.declared.state.Core.{Core}
use Rattle.journal_model.specs.declared.state.Buffer.{Buffer}
use Rattle.journal_model.specs.declared.state.Course.{Course}
use Rattle.journal_model.specs.declared.state.Reservation.{Reservation}
use Rattle.journal_model.specs.rules.State.{buffer_in, course, has_buffer, new_course, no_reservation, without_buffer, with_course}
use Rattle.journal_model.specs.rules.Commands.{command_at_work}
use Rattle.journal_model.specs.rules.Lists.{taken_off, touched}
use Rattle.journal_model.specs.rules.ApplyCommands.{after_free, after_result, ghost_of_freed, has_made, named_in, released, with_pins}
use Rattle.journal_model.specs.rules.ApplyJobs.{after_arm, core_after_arm, ops_of}
use Rattle.rules_apply.specs.Ready.{IsThread}

-- a course that is there, by whether the thread's number is 0
course_by : (none : Bool) (found : Option Course) (x : Course) → IsSome (if none then None else found) → found ≡ Some x → x ≡ unwrap_or (if none then None else found) (new_course 0)
course_by true found x there e = absurd (false≢true there)
course_by false found x there e = sym (ap (λ o. unwrap_or o (new_course 0)) e)

-- the course that the code reads
course_is : (s : State) (t : ℕ) (x : Course) → IsThread s t → slice_get s.courses (t - 1) ≡ Some x → x ≡ course s t
course_is s t x there e = course_by (t == 0) (slice_get s.courses (t - 1)) x there e

-- the number of a thread that is there isn't 0
number_is : (s : State) (t : ℕ) → IsThread s t → (t == 0) ≡ false
number_is s t there = by (t == 0) there
  where
    by : (q : Bool) → IsSome (if q then None else slice_get s.courses (t - 1)) → q ≡ false
    by true h = absurd (false≢true h)
    by false h = refl

-- the courses that the code writes
set_is : (s : State) (courses : List Course) (t : ℕ) (x : Course) → IsThread s t → slice_set courses (t - 1) x ≡ with_course courses t x
set_is s courses t x there = sym (ap (λ q. if q then courses else slice_set courses (t - 1) x) (number_is s t there))

-- a job that was armed
pub after_arm_is : (script : Script) (s : State) (t : ℕ) (job : JobId) (cmd : Option Command) (ops : List Op) (bs : List BufId) (core : Core) (last_jobs : List ℕ) (x : Course) →
    IsThread s t → cmd ≡ command_at_work script s t → ops ≡ ops_of cmd → bs ≡ named_in cmd → core ≡ core_after_arm s.core job ops bs →
    last_jobs ≡ slice_set s.last_jobs job.ctx job.num → slice_get s.courses (t - 1) ≡ Some x →
    record s { core = core; last_jobs = last_jobs; courses = slice_set s.courses (t - 1) (has_made x) } ≡ after_arm script s t job.ctx job.num
after_arm_is script s t job cmd ops bs core last_jobs x there m o b k l e =
    let y : x ≡ course s t = course_is s t x there e in
    let set : slice_set s.courses (t - 1) (has_made x) ≡ with_course s.courses t (has_made x) = set_is s s.courses t (has_made x) there in
    rw (set, k, l, b, o, m, y)

-- a command that was answered
pub after_result_is : (script : Script) (s : State) (t : ℕ) (cmd : Option Command) (x next : Course) (held touching : List BufId) (reservations read : List Reservation) (buffers : List (Option Buffer)) (old lists : List (List BufId)) (courses : List Course) →
    IsThread s t → cmd ≡ command_at_work script s t → slice_get s.courses (t - 1) ≡ Some x → next ≡ new_course (x.answered + 1) → held ≡ x.held → touching ≡ x.held →
    reservations ≡ with_pins cmd (released s.reservations held) → buffers ≡ s.core.buffers → read ≡ reservations → old ≡ s.lists →
    lists ≡ fold (touched script buffers read) old (filter (has_buffer touching) (named_in cmd)) → courses ≡ slice_set s.courses (t - 1) next →
    record s { reservations = reservations; lists = lists; courses = courses } ≡ after_result script s t
after_result_is script s t cmd x next held touching reservations read buffers old lists courses there m e n h u g b r o l k =
    let y : x ≡ course s t = course_is s t x there e in
    let set : courses ≡ with_course s.courses t next = k ∙ set_is s s.courses t next there in
    rw (l, set, r, o, b, g, h, u, n, m, y)

-- a buffer that was freed
pub after_free_is : (s z : State) (t : ℕ) (b : BufId) (num : ℕ) (x y : Course) (read held : List BufId) (old lists : List (List BufId)) (buffers : List (Option Buffer)) (reservation : Reservation) (reservations : List Reservation) →
    IsThread s t → slice_get s.courses (t - 1) ≡ Some x → read ≡ x.held → held ≡ without_buffer read b → old ≡ s.lists → lists ≡ taken_off old b →
    z ≡ record s { core = record s.core { ghosts = (if num == 0 then s.core.ghosts else s.core.ghosts ++ ghost_of_freed s.core (buffer_in s.core b) num ∷ []) }; last_ghost = (if num == 0 then s.last_ghost else num) } →
    buffers ≡ slice_set z.core.buffers b.0 None → reservation ≡ no_reservation → reservations ≡ slice_set z.reservations b.0 reservation → slice_get z.courses (t - 1) ≡ Some y →
    record z { core = record z.core { buffers = buffers }; reservations = reservations; lists = lists; courses = slice_set z.courses (t - 1) (record y { held = held; made = true }) } ≡ after_free s t b num
after_free_is s z t b num x y read held old lists buffers reservation reservations there e r h o l w k g i d =
    let before : x ≡ course s t = course_is s t x there e in
    let now : y ≡ course s t = course_is s t y there (subst (λ (v : State). slice_get v.courses (t - 1) ≡ Some y) w d) in
    let set : slice_set z.courses (t - 1) (record y { held = held; made = true }) ≡ with_course z.courses t (record y { held = held; made = true }) = set_is s z.courses t (record y { held = held; made = true }) there in
    rw (set, k, i, g, w, l, o, h, r, before, now)
