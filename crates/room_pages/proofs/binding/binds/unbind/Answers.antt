use Rattle.room_pages.proofs.binding.Unbound.{unbind_below, unbind_held}
use Rattle.room_pages.proofs.binding.binds.unbind.Goals as goal

pub give_mapped-requires : goal.give_mapped-requires
give_mapped-requires g c = unbind_below g.w.script g.w.before c.args.parts.now g.w.entry c.args.thread c.args.b c.requires.0 c.requires.1.0 c.requires.1.1

pub returns : goal.returns
returns g c =
    unbind_held g.w.script g.w.before c.args.parts.now g.w.entry c.args.thread c.args.b c.requires.0 c.requires.1.0 c.requires.1.1 c.give_mapped.new.aper c.give_mapped.new.tt c.unbind.new.self c.relist.new.lru c.give_mapped.ensures.aper
    c.give_mapped.ensures.tt c.unbind.ensures c.relist.ensures c.members_stand_once.ensures.listed
