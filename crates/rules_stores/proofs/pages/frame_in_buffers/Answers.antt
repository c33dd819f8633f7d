use Rattle.std.proofs.Common.{ap, ◌∙◌}
use Rattle.rules_stores.specs.Maps.{frame_beside, live_mapped}
use Rattle.rules_stores.proofs.MapLaws.{beside_holder, first_found, first_passed}
use Rattle.rules_stores.proofs.pages.frame_in_buffers.Goals as goal

pub returns-in-Some : goal.returns-in-Some
returns-in-Some c =
    first_found _ _ _ _ _ (c.in-Some.ensures ∙ ap (λ x. frame_beside c.args.page (live_mapped x)) c.slot-item.is)
    (beside_holder live_mapped c.args.buffers.now c.loop-slot.slot-index c.slot-item.result c.args.page c.loop-slot-test.true) c.loop-slot.invariant

pub loop-slot-preserved : goal.loop-slot-preserved
loop-slot-preserved c =
    first_passed _ _ _ _ (c.in_default.ensures ∙ ap (λ x. frame_beside c.args.page (live_mapped x)) c.slot-item.is)
    (beside_holder live_mapped c.args.buffers.now c.loop-slot.slot-index c.slot-item.result c.args.page c.loop-slot-test.true) c.loop-slot.invariant
