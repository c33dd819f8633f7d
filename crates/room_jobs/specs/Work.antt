-- The command that a thread is at, as courses tell it.
use Rattle.std.specs.Prelude.{ℕ, List, Option, option_and_then, slice_get}
use Rattle.journal_model.specs.declared.script.Script.{Script}
use Rattle.journal_model.specs.declared.script.Command.{Command}
use Rattle.journal_model.specs.declared.state.Course.{Course}
use Rattle.journal_model.specs.rules.Commands.{commands_of}
use Rattle.room_representation.specs.steps.Courses.{course_at}

-- the command after those that the thread has answered, if one is left
abbrev pub work_of : Script → List Course → ℕ → Option Command
work_of script courses thread = option_and_then (λ c. slice_get (commands_of script thread) c.answered) (course_at courses thread)
