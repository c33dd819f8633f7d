use Rattle.std.proofs.Common.{◌≡◌, ◌∙◌, ap}
use Rattle.std.specs.Prelude.{find}
use Rattle.ttm_base.specs.declared.BufId.{BufId}
use Rattle.journal_model.specs.declared.script.Script.{Script}
use Rattle.journal_model.specs.rules.Choice.{reach_of}
use Rattle.journal_model.specs.rules.Dry.{is_evictable}
use Rattle.room_state.specs.turns.Rests.{in_order}
use Rattle.room_state.specs.turns.Turns.{state_behind}
use Rattle.evict_core.specs.Walks.{was_skipped, is_evictable_in}
use Rattle.evict_core.proofs.Lent.{skipped_same, find_same}
use Rattle.evict_core.proofs.victims.victim.Goals as goal

pub returns : goal.returns
returns c =
    let r = c.args.rooms.now in
    let s = state_behind r in
    let place = c.args.place in
    let reached : c.reach_of.result ≡ reach_of r.script place = c.reach_of.ensures ∙ ap (λ (x : Script). reach_of x place) c.script.ensures.script in
    let same : (b : BufId) → is_evictable_in s place.mem c.reach_of.result (was_skipped c.args.skips.now c.marks_of.result b) b ≡ is_evictable r.script s c.args.skips.now place b =
    λ b. ap (λ w. is_evictable_in s place.mem w (was_skipped c.args.skips.now c.marks_of.result b) b) reached ∙ ap (λ q. is_evictable_in s place.mem (reach_of r.script place) q b) (skipped_same c.args.skips.now c.marks_of.result c.marks_of.ensures b)
    in
    c.first_passing.ensures
    ∙ find_same (λ b. is_evictable_in s place.mem c.reach_of.result (was_skipped c.args.skips.now c.marks_of.result b) b) (is_evictable r.script s c.args.skips.now place) _ same
    ∙ ap (find (is_evictable r.script s c.args.skips.now place)) (ap (in_order place.mem) c.lru.ensures.lists_are)
