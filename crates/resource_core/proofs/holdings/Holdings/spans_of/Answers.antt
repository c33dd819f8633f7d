use Rattle.std.proofs.Common.{Some, ap, sym, ◌∙◌, arith}
use Rattle.std.specs.HashMap.{get_by}
use Rattle.resource_core.specs.declared.holding.Holding.{Holding}
use Rattle.resource_core.specs.Places.{same_key}
use Rattle.resource_core.specs.Resources.{kept_by}
use Rattle.resource_core.proofs.PlaceLaws.{kept_none, kept_at, below}
use Rattle.resource_core.proofs.TableLaws.{found_first}
use Rattle.resource_core.proofs.holdings.Holdings.spans_of.Goals as goal

pub returns-in_err-at : goal.returns-in_err-at
returns-in_err-at c =
    rw c.from_residual.ensures
    (sym (kept_none c.args.owner 0 c.self.inside.held.items (sym (c.self.invariant.each c.args.owner) ∙ sym c.in_err-at.ensures)) ∙ ap (kept_by c.args.owner) c.self.view_is)

pub index-requires : goal.index-requires
index-requires c =
    let b = below c.args.owner c.self.inside.held.items c.in_ok-at.at
    (found_first (λ key. get_by (same_key key) c.self.inside.places) (λ key. get_by (same_key key) c.self.inside.places) _ _ c.self.invariant c.args.owner c.in_ok-at.at (sym c.in_ok-at.ensures)) in
    omega (arith, b)

pub returns : goal.returns
returns c =
    ap (λ (h : Holding). Some h.spans) c.index.ensures
    ∙ sym (kept_at c.args.owner c.self.inside.held.items c.in_ok-at.at c.index.result.now
    (found_first (λ key. get_by (same_key key) c.self.inside.places) (λ key. get_by (same_key key) c.self.inside.places) _ _ c.self.invariant c.args.owner c.in_ok-at.at (sym c.in_ok-at.ensures)))
    ∙ ap (kept_by c.args.owner) c.self.view_is
