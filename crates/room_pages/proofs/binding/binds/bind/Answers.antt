use Rattle.room_pages.proofs.binding.Bound.{bind_there, bind_below, bind_fresh, bind_held}
use Rattle.room_pages.proofs.binding.binds.bind.Goals as goal

pub get-bo-requires : goal.get-bo-requires
get-bo-requires g c = bind_there g.w.script g.w.before c.args.parts.now g.w.entry c.args.thread c.args.b c.requires.0 c.requires.1.0 c.requires.1.1

pub map_target-requires-clause-below : goal.map_target-requires-clause-below
map_target-requires-clause-below g c = bind_below g.w.script g.w.before c.args.parts.now g.w.entry c.args.thread c.args.b c.requires.0 c.requires.1.0 c.requires.1.1

pub map_target-requires-clause-fresh : goal.map_target-requires-clause-fresh
map_target-requires-clause-fresh g c = bind_fresh g.w.script g.w.before c.args.parts.now g.w.entry c.args.thread c.args.b c.requires.0 c.requires.1.0 c.requires.1.1

pub returns : goal.returns
returns g c =
    bind_held g.w.script g.w.before c.args.parts.now g.w.entry c.args.thread c.args.b c.requires.0 c.requires.1.0 c.requires.1.1 _ _ c.map_target.new.aper c.map_target.new.tt c.bind.new.self c.relist.new.lru c.get-bo.ensures c.places.ensures
    c.map_target.ensures.aper c.map_target.ensures.tt c.bind.ensures c.relist.ensures c.members_stand_once.ensures.listed
