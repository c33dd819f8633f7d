use Rattle.std.proofs.Common.{ap, subst, sym, ◌∙◌}
use Rattle.room_representation.specs.lemma_bytes.GivenBack.{given_back}
use Rattle.room_pages.specs.ghosts.InTurn.{AreHeldInTurn}
use Rattle.room_pages.proofs.ghosts.Reaped.{reap_some, reap_turns, reap_pages, reap_held}
use Rattle.room_pages.proofs.ghosts.reaps.reap.Goals as goal

pub get-requires : goal.get-requires
get-requires g c = reap_some g.w.script g.w.before c.args.parts.now g.w.entry c.args.g c.requires.0 c.requires.1.0 c.requires.1.1

pub give_all-requires : goal.give_all-requires
give_all-requires g c =
    subst (AreHeldInTurn c.args.parts.now.pool) (sym c.items.ensures) (reap_turns g.w.script g.w.before c.args.parts.now g.w.entry c.args.g c.requires.0 c.requires.1.0 c.requires.1.1 _ c.get.ensures)

pub give_mapped-requires : goal.give_mapped-requires
give_mapped-requires g c = reap_pages g.w.script g.w.before c.args.parts.now g.w.entry c.args.g c.requires.0 c.requires.1.0 c.requires.1.1

pub drop_first-requires : goal.drop_first-requires
drop_first-requires g c = reap_some g.w.script g.w.before c.args.parts.now g.w.entry c.args.g c.requires.0 c.requires.1.0 c.requires.1.1

pub returns : goal.returns
returns g c =
    reap_held g.w.script g.w.before c.args.parts.now g.w.entry c.args.g c.requires.0 c.requires.1.0 c.requires.1.1 _ c.get.ensures c.drop_first.new.self c.give_back.new.room c.give_mapped.new.tt c.give_all.new.pool c.give_mapped.new.aper
    c.drop_first.ensures c.give_back.ensures.held c.give_back.ensures.rule c.give_mapped.ensures.tt (c.give_all.ensures ∙ ap (given_back c.args.parts.now.pool) c.items.ensures) c.give_mapped.ensures.aper
