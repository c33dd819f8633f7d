use Rattle.std.proofs.Common.{◌∙◌, ap}
use Rattle.journal_model.specs.rules.ApplyCommands.{released}
use Rattle.room_parts.proofs.Ticketed.{backoff_there, backoff_held}
use Rattle.room_parts.proofs.tickets.back_off.Goals as goal

pub held_by-held-requires : goal.held_by-held-requires
held_by-held-requires g c = backoff_there g.w.script g.w.before c.args.parts.now g.w.entry c.args.thread c.args.b c.args.holder c.requires.0 c.requires.1.0 c.requires.1.1

pub begin_anew-requires : goal.begin_anew-requires
begin_anew-requires g c = backoff_there g.w.script g.w.before c.args.parts.now g.w.entry c.args.thread c.args.b c.args.holder c.requires.0 c.requires.1.0 c.requires.1.1

pub returns : goal.returns
returns g c = backoff_held g.w.script g.w.before c.args.parts.now g.w.entry c.args.thread c.args.b c.args.holder c.requires.0 c.requires.1.0 c.requires.1.1 c.begin_anew.new.courses c.release_all.new.bos c.begin_anew.ensures (c.release_all.ensures ∙ ap (λ l. record c.args.parts.now.bos { reservations = released c.args.parts.now.bos.reservations l }) c.held_by-held.ensures)
