use Rattle.std.proofs.Common.{ap, ◌∙◌}
use Rattle.journal_model.specs.declared.state.Ghost.{Ghost}
use Rattle.rules_holds.proofs.MarkLaws.{marked_more}
use Rattle.rules_holds.proofs.free.mark_ghost_frames.Goals as goal

pub loop-g-preserved : goal.loop-g-preserved
loop-g-preserved c =
    marked_more (λ (g : Ghost). g.frames) c.args.ghosts.now c.loop-g.g-index c.g-item.result _ _ _ _ c.loop-g-test.true
    (c.items.ensures ∙ ap (λ (g : Ghost). g.frames) c.g-item.is) c.loop-g.invariant c.mark_all.ensures
