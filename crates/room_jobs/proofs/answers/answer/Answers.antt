use Rattle.std.proofs.Common.{Some, ◌∙◌, ap, subst}
use Rattle.bo_table.specs.Seen.{Bos}
use Rattle.journal_model.specs.rules.ApplyCommands.{released, with_pins}
use Rattle.room_jobs.specs.Listings.{AreRelisted}
use Rattle.room_jobs.proofs.Answered.{answer_there, answer_command, answer_room, answer_relists, answer_writes, answer_pins, answer_held}
use Rattle.room_jobs.proofs.answers.answer.Goals as goal

pub command_of-command-requires-clause-there : goal.command_of-command-requires-clause-there
command_of-command-requires-clause-there g c = answer_there c.args.script.now g.w.before c.args.parts.now g.w.entry c.args.thread c.args.shown.now c.requires.0 c.requires.1.0 c.requires.1.1

pub command_of-command-requires-clause-left : goal.command_of-command-requires-clause-left
command_of-command-requires-clause-left g c = answer_command c.args.script.now g.w.before c.args.parts.now g.w.entry c.args.thread c.args.shown.now c.requires.0 c.requires.1.0 c.requires.1.1

pub relist-requires-clause-can : goal.relist-requires-clause-can
relist-requires-clause-can g c = answer_relists c.args.script.now g.w.before c.args.parts.now g.w.entry c.args.thread c.args.shown.now c.requires.0 c.requires.1.0 c.requires.1.1 c.command_of-command.result.now c.command_of-command.ensures

pub write-requires : goal.write-requires
write-requires g c = answer_writes c.args.script.now g.w.before c.args.parts.now g.w.entry c.args.thread c.args.shown.now c.requires.0 c.requires.1.0 c.requires.1.1 c.command_of-command.result.now c.command_of-command.ensures

pub change_pins-requires : goal.change_pins-requires
change_pins-requires g c =
    answer_pins c.args.script.now g.w.before c.args.parts.now g.w.entry c.args.thread c.args.shown.now c.requires.0 c.requires.1.0 c.requires.1.1 c.command_of-command.result.now c.release_all.new.bos c.command_of-command.ensures
    (c.release_all.ensures ∙ ap (λ l. record c.args.parts.now.bos { reservations = released c.args.parts.now.bos.reservations l }) c.held_by-held.ensures)

pub go_on-requires-clause-there : goal.go_on-requires-clause-there
go_on-requires-clause-there g c = answer_there c.args.script.now g.w.before c.args.parts.now g.w.entry c.args.thread c.args.shown.now c.requires.0 c.requires.1.0 c.requires.1.1

pub go_on-requires-clause-room : goal.go_on-requires-clause-room
go_on-requires-clause-room g c = answer_room c.args.script.now g.w.before c.args.parts.now g.w.entry c.args.thread c.args.shown.now c.requires.0 c.requires.1.0 c.requires.1.1

pub returns-clause-ok : goal.returns-clause-ok
returns-clause-ok g c =
    answer_held c.args.script.now g.w.before c.args.parts.now g.w.entry c.args.thread c.args.shown.now c.requires.0 c.requires.1.0 c.requires.1.1 c.command_of-command.result.now c.go_on.new.courses c.change_pins.new.bos c.relist.new.lru c.write.new.stores c.command_of-command.ensures
    (subst (λ l. AreRelisted c.args.script.now c.args.parts.now.bos l c.command_of-command.result.now c.args.parts.now.lru c.relist.new.lru) c.held_by-held.ensures c.in_ok-relist.ensures.ok) c.write.ensures
    (c.change_pins.ensures
    ∙ ap (λ (x : Bos). record x { reservations = with_pins (Some c.command_of-command.result.now) x.reservations }) c.release_all.ensures
    ∙ ap (λ l. record c.args.parts.now.bos { reservations = with_pins (Some c.command_of-command.result.now) (released c.args.parts.now.bos.reservations l) }) c.held_by-held.ensures)
    c.go_on.ensures c.members_stand_once.ensures.listed
