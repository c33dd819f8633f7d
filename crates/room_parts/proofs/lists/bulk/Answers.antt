use Rattle.room_parts.proofs.Bulked.{bulk_there, bulk_known, bulk_held}
use Rattle.room_parts.proofs.lists.bulk.Goals as goal

pub bulk_tail-requires : goal.bulk_tail-requires
bulk_tail-requires g c = bulk_known g.w.script g.w.before c.args.parts.now g.w.entry c.args.thread c.args.group c.requires.0 c.requires.1.0 c.requires.1.1

pub has_made-requires : goal.has_made-requires
has_made-requires g c = bulk_there g.w.script g.w.before c.args.parts.now g.w.entry c.args.thread c.args.group c.requires.0 c.requires.1.0 c.requires.1.1

pub returns : goal.returns
returns g c = bulk_held g.w.script g.w.before c.args.parts.now g.w.entry c.args.thread c.args.group c.requires.0 c.requires.1.0 c.requires.1.1 c.has_made.new.courses c.bulk_tail.new.self c.has_made.ensures c.bulk_tail.ensures c.members_stand_once.ensures.listed
