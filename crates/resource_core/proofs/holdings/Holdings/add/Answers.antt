use Rattle.std.proofs.Common.{List, ◌∙◌, ap}
use Rattle.std.specs.HashMap.{get_by}
use Rattle.resource_core.specs.declared.holding.Holding.{Holding}
use Rattle.resource_core.specs.Places.{same_key}
use Rattle.resource_core.specs.Resources.{holds}
use Rattle.resource_core.proofs.TableLaws.{placed_same, put_added}
use Rattle.resource_core.proofs.holdings.Holdings.add.Goals as goal

pub invariant_of-self-in_err-push : goal.invariant_of-self-in_err-push
invariant_of-self-in_err-push c =
    placed_same (λ key. get_by (same_key key) c.self.inside.places) _ _ _ _ _ c.self.invariant (λ k. c.reserve.ensures.entries.2 k) c.reserve.ensures.entries.1 c.in_err-push.ensures.items

pub invariant_of-self-2 : goal.invariant_of-self-2
invariant_of-self-2 c =
    put_added (λ key. get_by (same_key key) c.self.inside.places) (λ key. get_by (same_key key) c.reserve.new.self) _ _ _ _ _ _ c.args.owner c.args.spans c.key_of.result c.len-at.result
    c.self.invariant (ap (λ (hs : List Holding). holds c.args.owner hs) c.self.view_is ∙ c.requires) (λ k. c.reserve.ensures.entries.2 k) c.reserve.ensures.entries.1 c.len-at.ensures.len c.key_of.ensures
    (λ k. c.put.ensures.each k) c.put.ensures.len c.in_ok-push.ensures.items
