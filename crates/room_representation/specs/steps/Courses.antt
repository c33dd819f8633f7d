-- Courses by thread, and how entries change one.
use Rattle.std.specs.Prelude.{ℕ, ◌-◌, ◌++◌, ◌==◌, List, [], ◌∷◌, Option, None, Some, slice_get, unwrap_or, if◌then◌else◌}
use Rattle.ttm_base.specs.declared.BufId.{BufId}
use Rattle.ttm_base.specs.declared.Stamp.{Stamp}
use Rattle.journal_model.specs.declared.script.Script.{Script}
use Rattle.journal_model.specs.declared.script.Command.{Command}
use Rattle.journal_model.specs.declared.state.Course.{Course}
use Rattle.journal_model.specs.rules.State.{new_course, with_course}
use Rattle.journal_model.specs.rules.Commands.{commands_of}

-- the thread's course, if the thread is there
abbrev pub course_at : List Course → ℕ → Option Course
course_at courses thread = if thread == 0 then None else slice_get courses (thread - 1)

-- the thread's course, where the thread is known to be there
abbrev pub course_in : List Course → ℕ → Course
course_in courses thread = unwrap_or (course_at courses thread) (new_course 0)

-- the command that the thread is at, if one is left
abbrev pub command_in : Script → List Course → ℕ → Option Command
command_in script courses thread = slice_get (commands_of script thread) (course_in courses thread).answered

-- the courses after that of the thread was changed by `f`
abbrev pub with_course_by : (Course → Course) → List Course → ℕ → List Course
with_course_by f courses thread = with_course courses thread (f (course_in courses thread))

-- the course with a ticket
abbrev pub stamped : Stamp → Course → Course
stamped stamp c = record c { stamp = Some stamp }

-- the course with one more buffer held
abbrev pub with_held : BufId → Course → Course
with_held b c = record c { held = c.held ++ b ∷ [] }

-- the course where nothing is held, and buffer `b` comes first
abbrev pub begun_anew : BufId → Course → Course
begun_anew b c = record c { held = []; first = Some b }
