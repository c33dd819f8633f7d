use Rattle.std.proofs.Common.{ℕ, ◌<◌, length, ap, ◌∙◌, arith, if◌then◌else◌}
use Rattle.std.specs.HashMap.{get_by}
use Rattle.resource_core.specs.declared.holding.Holding.{Holding}
use Rattle.resource_core.specs.Places.{key_of, same_key}
use Rattle.resource_core.proofs.TableLaws.{IsRun, run_next, run_fresh}
use Rattle.resource_core.proofs.holdings.place_all.Goals as goal

pub loop-at-preserved : goal.loop-at-preserved
loop-at-preserved c =
    let lt : c.loop-at.at < length c.args.held.now = omega arith in
    let run : IsRun (λ key. get_by (same_key key) c.loop-at.places) c.args.held.now c.loop-at.at = record { each = c.loop-at.invariant.each } in
    let key = c.key_of.ensures ∙ ap (λ (h : Holding). key_of h.owner) c.index-held-at.is in
    let next = run_next (λ key. get_by (same_key key) c.loop-at.places) (λ key. get_by (same_key key) c.put.new.places) c.args.held.now c.loop-at.at c.index-held-at.result c.key_of.result c.requires.distinct lt run key (λ k. c.put.ensures.each k) in
    let fresh = run_fresh (λ key. get_by (same_key key) c.loop-at.places) c.args.held.now c.loop-at.at c.index-held-at.result c.key_of.result c.requires.distinct lt run key in
    let one = ap {B = ℕ} (λ t. if t then 0 else 1) fresh in
    let more = c.put.ensures.len in
    let len = c.loop-at.invariant.len in
    let spare = c.put.ensures.room in
    let room = c.loop-at.invariant.room in
    record { each = next.each; len = omega (arith, one, more, len); room = omega (arith, spare, room) }
