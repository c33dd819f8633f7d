use Rattle.std.proofs.Common.{sym, ◌∙◌, ap, subst}
use Rattle.std.specs.List.{filter_map}
use Rattle.journal_model.specs.rules.Places.{frame_of}
use Rattle.room_representation.specs.lemma_bytes.GivenBack.{given_back}
use Rattle.room_pages.specs.Tables.{AreHeldInTurn}
use Rattle.room_pages.proofs.Emptied.{depopulate_below, depopulate_turns, depopulate_held}
use Rattle.room_pages.proofs.pages.depopulate.Goals as goal

pub get-bo-requires : goal.get-bo-requires
get-bo-requires g c = depopulate_below g.w.script g.w.before c.args.parts.now g.w.entry c.args.thread c.args.b c.requires.0 c.requires.1.0 c.requires.1.1

pub give_frames-requires : goal.give_frames-requires
give_frames-requires g c =
    subst (AreHeldInTurn c.args.parts.now.pool) (sym c.places.ensures)
    (depopulate_turns g.w.script g.w.before c.args.parts.now g.w.entry c.args.thread c.args.b c.requires.0 c.requires.1.0 c.requires.1.1 _ c.get-bo.ensures)

pub returns : goal.returns
returns g c =
    depopulate_held g.w.script g.w.before c.args.parts.now g.w.entry c.args.thread c.args.b c.requires.0 c.requires.1.0 c.requires.1.1 c.give_frames.new.pool c.drop_frames.new.self _ c.get-bo.ensures
    (c.give_frames.ensures ∙ ap (λ l. given_back c.args.parts.now.pool (filter_map frame_of l)) c.places.ensures) c.drop_frames.ensures
