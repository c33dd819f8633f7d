use Rattle.room_parts.proofs.Caught.{no_pages_there, no_pages_held}
use Rattle.room_parts.proofs.victims.no_pages.Goals as goal

pub fail_search-requires : goal.fail_search-requires
fail_search-requires g c = no_pages_there g.w.script g.w.before c.args.parts.now g.w.entry c.args.thread c.args.b c.requires.0 c.requires.1.0 c.requires.1.1

pub returns : goal.returns
returns g c = no_pages_held g.w.script g.w.before c.args.parts.now g.w.entry c.args.thread c.args.b c.requires.0 c.requires.1.0 c.requires.1.1 c.fail_search.new.courses c.fail_search.ensures
