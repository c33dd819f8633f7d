use Rattle.std.proofs.Common.{◌∙◌, ap}
use Rattle.journal_model.specs.rules.ApplyCommands.{released}
use Rattle.room_parts.proofs.Ticketed.{refuse_there, refuse_room, refuse_held}
use Rattle.room_parts.proofs.tickets.refuse.Goals as goal

pub held_by-held-requires : goal.held_by-held-requires
held_by-held-requires g c = refuse_there g.w.script g.w.before c.args.parts.now g.w.entry c.args.thread c.args.deny c.requires.0 c.requires.1.0 c.requires.1.1

pub go_on-requires-clause-there : goal.go_on-requires-clause-there
go_on-requires-clause-there g c = refuse_there g.w.script g.w.before c.args.parts.now g.w.entry c.args.thread c.args.deny c.requires.0 c.requires.1.0 c.requires.1.1

pub go_on-requires-clause-room : goal.go_on-requires-clause-room
go_on-requires-clause-room g c = refuse_room g.w.script g.w.before c.args.parts.now g.w.entry c.args.thread c.args.deny c.requires.0 c.requires.1.0 c.requires.1.1

pub returns : goal.returns
returns g c = refuse_held g.w.script g.w.before c.args.parts.now g.w.entry c.args.thread c.args.deny c.requires.0 c.requires.1.0 c.requires.1.1 c.go_on.new.courses c.release_all.new.bos c.go_on.ensures (c.release_all.ensures ∙ ap (λ l. record c.args.parts.now.bos { reservations = released c.args.parts.now.bos.reservations l }) c.held_by-held.ensures)
