use Rattle.std.proofs.Common.{ap, subst, sym, ◌∙◌}
use Rattle.std.specs.Prelude.{filter_map}
use Rattle.journal_model.specs.rules.Places.{frame_of, slot_of}
use Rattle.room_representation.specs.lemma_bytes.GivenBack.{given_back}
use Rattle.room_pages.specs.Tables.{AreHeldInTurn}
use Rattle.room_pages.specs.ghosts.InTurn.{AreHeldAlong}
use Rattle.room_pages.proofs.ghosts.Freed.{free_there, free_below, free_frames, free_held_slots, free_pages, idle_held}
use Rattle.room_pages.proofs.ghosts.Loops.{dropped}
use Rattle.room_pages.proofs.ghosts.frees.free_idle.Goals as goal

pub get-bo-requires : goal.get-bo-requires
get-bo-requires g c = free_below g.w.script g.w.before c.args.parts.now g.w.entry c.args.thread c.args.b 0 c.requires.0 c.requires.1.0 c.requires.1.1

pub give_mapped-requires : goal.give_mapped-requires
give_mapped-requires g c = free_pages g.w.script g.w.before c.args.parts.now g.w.entry c.args.thread c.args.b 0 c.requires.0 c.requires.1.0 c.requires.1.1

pub give_frames-requires : goal.give_frames-requires
give_frames-requires g c = subst (AreHeldInTurn c.args.parts.now.pool) (sym c.places.ensures) (free_frames g.w.script g.w.before c.args.parts.now g.w.entry c.args.thread c.args.b 0 c.requires.0 c.requires.1.0 c.requires.1.1 _ c.get-bo.ensures)

pub drop_slots-requires : goal.drop_slots-requires
drop_slots-requires g c = subst (AreHeldAlong slot_of c.args.parts.now.swap.held) (sym c.places-2.ensures) (free_held_slots g.w.script g.w.before c.args.parts.now g.w.entry c.args.thread c.args.b 0 c.requires.0 c.requires.1.0 c.requires.1.1 _ c.get-bo.ensures)

pub has_freed-requires : goal.has_freed-requires
has_freed-requires g c = free_there g.w.script g.w.before c.args.parts.now g.w.entry c.args.thread c.args.b 0 c.requires.0 c.requires.1.0 c.requires.1.1

pub returns : goal.returns
returns g c =
    idle_held g.w.script g.w.before c.args.parts.now g.w.entry c.args.thread c.args.b c.requires.0 c.requires.1.0 c.requires.1.1 _ c.get-bo.ensures c.give_back.new.room c.give_mapped.new.tt c.give_mapped.new.aper c.give_frames.new.pool c.drop_slots.new.swap c.kill.new.self c.take_off.new.lru
    c.has_freed.new.courses c.give_back.ensures.held c.give_back.ensures.rule c.give_mapped.ensures.tt c.give_mapped.ensures.aper (c.give_frames.ensures ∙ ap (λ places. given_back c.args.parts.now.pool (filter_map frame_of places)) c.places.ensures)
    (c.drop_slots.ensures ∙ ap (dropped c.args.parts.now.swap) c.places-2.ensures) c.kill.ensures c.take_off.ensures c.members_stand_once.ensures.listed c.has_freed.ensures
