use Rattle.std.proofs.Common.{sym, ◌∙◌, ap}
use Rattle.std.specs.Option.{option_copied}
use Rattle.room_state.proofs.task_finding.Told.{has_reservations, idle_behind, task_told}
use Rattle.room_state.proofs.task_finding.queries.task_of.Goals as goal

pub task_of_command-requires : goal.task_of_command-requires
task_of_command-requires c = has_reservations c.args.script.now c.args.before.now c.args.parts.now c.requires

pub returns-in-Some-command_of : goal.returns-in-Some-command_of
returns-in-Some-command_of c =
    c.task_of_command.ensures
    ∙ task_told c.args.script.now c.args.before.now c.args.parts.now c.requires c.args.thread c.in-Some.course.now (sym (ap option_copied c.in-Some.is) ∙ c.course_of.ensures)
    c.in-Some-command_of.command.now (sym c.command_of.ensures ∙ ap option_copied c.in-Some-command_of.is)

pub returns-in-None : goal.returns-in-None
returns-in-None c =
    idle_behind c.args.script.now c.args.before.now c.args.parts.now c.requires c.args.thread c.in-Some.course.now (sym (ap option_copied c.in-Some.is) ∙ c.course_of.ensures)
    (sym c.command_of.ensures ∙ ap option_copied c.in-None.is)
