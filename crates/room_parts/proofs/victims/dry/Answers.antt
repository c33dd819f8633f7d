use Rattle.room_parts.proofs.Dried.{dry_there, dry_command, dry_room, dry_below, dry_declared, dry_short, dry_held}
use Rattle.room_parts.proofs.victims.dry.Goals as goal

pub command_of-command-requires-clause-there : goal.command_of-command-requires-clause-there
command_of-command-requires-clause-there g c = dry_there c.args.script.now g.w.before c.args.parts.now g.w.entry c.args.thread c.args.b c.args.k c.args.why.now c.requires.0 c.requires.1.0 c.requires.1.1

pub command_of-command-requires-clause-left : goal.command_of-command-requires-clause-left
command_of-command-requires-clause-left g c = dry_command c.args.script.now g.w.before c.args.parts.now g.w.entry c.args.thread c.args.b c.args.k c.args.why.now c.requires.0 c.requires.1.0 c.requires.1.1

pub get-requires : goal.get-requires
get-requires g c = dry_below c.args.script.now g.w.before c.args.parts.now g.w.entry c.args.thread c.args.b c.args.k c.args.why.now c.requires.0 c.requires.1.0 c.requires.1.1

pub place_count-places-requires-clause-declared : goal.place_count-places-requires-clause-declared
place_count-places-requires-clause-declared g c = dry_declared c.args.script.now g.w.before c.args.parts.now g.w.entry c.args.thread c.args.b c.args.k c.args.why.now c.requires.0 c.requires.1.0 c.requires.1.1

pub place_count-places-requires-clause-short : goal.place_count-places-requires-clause-short
place_count-places-requires-clause-short g c = dry_short c.args.script.now g.w.before c.args.parts.now g.w.entry c.args.thread c.args.b c.args.k c.args.why.now c.requires.0 c.requires.1.0 c.requires.1.1

pub note_dry-requires-clause-there : goal.note_dry-requires-clause-there
note_dry-requires-clause-there g c = dry_there c.args.script.now g.w.before c.args.parts.now g.w.entry c.args.thread c.args.b c.args.k c.args.why.now c.requires.0 c.requires.1.0 c.requires.1.1

pub note_dry-requires-clause-room : goal.note_dry-requires-clause-room
note_dry-requires-clause-room g c = dry_room c.args.script.now g.w.before c.args.parts.now g.w.entry c.args.thread c.args.b c.args.k c.args.why.now c.requires.0 c.requires.1.0 c.requires.1.1

pub returns : goal.returns
returns g c = dry_held c.args.script.now g.w.before c.args.parts.now g.w.entry c.args.thread c.args.b c.args.k c.args.why.now c.requires.0 c.requires.1.0 c.requires.1.1 c.note_dry.new.courses _ _ _ c.command_of-command.ensures c.get.ensures c.place_count-places.ensures c.note_dry.ensures
