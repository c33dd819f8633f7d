use Rattle.std.proofs.Common.{[], ◌++◌, ◌∷◌, ap, subst, sym, ◌∙◌, arith}
use Rattle.journal_model.specs.rules.Places.{slot_of}
use Rattle.room_pages.specs.ghosts.InTurn.{AreHeldAlong}
use Rattle.room_pages.proofs.ghosts.Freed.{free_there, free_below, free_held_slots, busy_vram, busy_tt, busy_held}
use Rattle.room_pages.proofs.ghosts.Loops.{dropped}
use Rattle.room_pages.proofs.ghosts.frees.free.Goals as goal

pub get-bo-requires : goal.get-bo-requires
get-bo-requires g c = free_below g.w.script g.w.before c.args.parts.now g.w.entry c.args.thread c.args.b c.args.g c.requires.0 c.requires.1.0 c.requires.1.1

pub pass_on-requires : goal.pass_on-requires
pass_on-requires g c = busy_vram g.w.script g.w.before c.args.parts.now g.w.entry c.args.thread c.args.b c.args.g c.requires.0 c.requires.1.0 c.requires.1.1 (omega arith)

pub pass_on-requires-2 : goal.pass_on-requires-2
pass_on-requires-2 g c = busy_tt g.w.script g.w.before c.args.parts.now g.w.entry c.args.thread c.args.b c.args.g c.requires.0 c.requires.1.0 c.requires.1.1 (omega arith)

pub drop_slots-requires : goal.drop_slots-requires
drop_slots-requires g c = subst (AreHeldAlong slot_of c.args.parts.now.swap.held) (sym c.places.ensures) (free_held_slots g.w.script g.w.before c.args.parts.now g.w.entry c.args.thread c.args.b c.args.g c.requires.0 c.requires.1.0 c.requires.1.1 _ c.get-bo.ensures)

pub has_freed-requires : goal.has_freed-requires
has_freed-requires g c = free_there g.w.script g.w.before c.args.parts.now g.w.entry c.args.thread c.args.b c.args.g c.requires.0 c.requires.1.0 c.requires.1.1

pub returns-clause-ok : goal.returns-clause-ok
returns-clause-ok g c =
    busy_held g.w.script g.w.before c.args.parts.now g.w.entry c.args.thread c.args.b c.args.g c.requires.0 c.requires.1.0 c.requires.1.1 (omega arith) _ c.get-bo.ensures c.push.new.self c.pass_on.new.room c.pass_on-2.new.room c.drop_slots.new.swap c.kill.new.self c.take_off.new.lru c.has_freed.new.courses
    (c.in_ok-push.ensures.ok ∙ ap (λ left. c.args.parts.now.ghosts ++ left ∷ []) c.in_ok-left.ensures) c.pass_on.ensures.held c.pass_on.ensures.rule c.pass_on-2.ensures.held (c.drop_slots.ensures ∙ ap (dropped c.args.parts.now.swap) c.places.ensures)
    c.kill.ensures c.take_off.ensures c.members_stand_once.ensures.listed c.has_freed.ensures
