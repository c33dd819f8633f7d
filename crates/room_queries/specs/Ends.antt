-- What is left to do: commands, and jobs in rings.
use Rattle.std.specs.Prelude.{ℕ, Bool, List, ◌==◌, is_none, length, slice_get}
use Rattle.copy_engine.specs.Pushes.{Pushed}
use Rattle.journal_model.specs.declared.script.Script.{Script}
use Rattle.journal_model.specs.declared.state.Course.{Course}
use Rattle.journal_model.specs.rules.Commands.{commands_of}
use Rattle.room_representation.specs.steps.Courses.{course_in}

-- the thread has answered all its commands
abbrev pub answered_in : Script → List Course → ℕ → Bool
answered_in script courses thread = (course_in courses thread).answered == length (commands_of script thread)

-- the ring has no job
abbrev pub is_empty : List Pushed → Bool
is_empty ring = is_none (slice_get ring 0)
