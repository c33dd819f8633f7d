use Rattle.room_parts.proofs.Filled.{populate_inside, populate_held}
use Rattle.room_parts.proofs.pages.populate.Goals as goal

pub zero_page-requires : goal.zero_page-requires
zero_page-requires g c = populate_inside g.w.script g.w.before c.args.parts.now g.w.entry c.args.thread c.args.b c.args.page c.args.frame c.requires.0 c.requires.1.0 c.requires.1.1

pub returns : goal.returns
returns g c =
    populate_held g.w.script g.w.before c.args.parts.now g.w.entry c.args.thread c.args.b c.args.page c.args.frame c.requires.0 c.requires.1.0 c.requires.1.1 c.take-taken.new.self c.zero_page.new.self c.set_page.new.self _ c.take-taken.ensures.lowest c.take-taken.ensures.taken
    c.zero_page.ensures.after c.set_page.ensures
