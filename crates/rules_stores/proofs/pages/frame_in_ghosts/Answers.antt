use Rattle.std.proofs.Common.{ap, ◌∙◌}
use Rattle.rules_stores.specs.Maps.{frame_beside, ghost_mapped}
use Rattle.rules_stores.proofs.MapLaws.{beside_holder, first_found, first_passed}
use Rattle.rules_stores.proofs.pages.frame_in_ghosts.Goals as goal

pub returns-in-Some : goal.returns-in-Some
returns-in-Some c =
    first_found _ _ _ _ _ (c.in-Some.ensures ∙ ap (λ x. frame_beside c.args.page (ghost_mapped x)) c.left-item.is)
    (beside_holder ghost_mapped c.args.ghosts.now c.loop-left.left-index c.left-item.result c.args.page c.loop-left-test.true) c.loop-left.invariant

pub loop-left-preserved : goal.loop-left-preserved
loop-left-preserved c =
    first_passed _ _ _ _ (c.in_default.ensures ∙ ap (λ x. frame_beside c.args.page (ghost_mapped x)) c.left-item.is)
    (beside_holder ghost_mapped c.args.ghosts.now c.loop-left.left-index c.left-item.result c.args.page c.loop-left-test.true) c.loop-left.invariant
