use Rattle.std.proofs.Common.{◌≡◌, Some, None, option_map, ap, sym, subst, ◌∙◌}
use Rattle.ttm_base.specs.declared.Span.{Span}
use Rattle.ttm_base.specs.Holes.{holes, is_free_beside}
use Rattle.ttm_base.specs.RangeChoice.{range_choice}
use Rattle.range_manager.specs.Held.{Managed}
use Rattle.range_manager.proofs.ManagedLaws.{managed_holes}
use Rattle.range_manager.proofs.manager.RangeManager.insert.Goals as goal

pub returns-in_default-clause-none : goal.returns-in_default-clause-none
returns-in_default-clause-none c = λ e.
    let range : Span = record { start = c.args.first; end = c.args.last } in
    subst (λ (m : Managed). range_choice c.args.mode (holes (is_free_beside m.held) m.size) c.args.pages c.args.align range ≡ None) c.self.view_is
    (ap (λ hs. range_choice c.args.mode hs c.args.pages c.args.align range) (sym (managed_holes c.self.inside.holes c.self.inside.ends c.self.inside.used c.self.inside.count c.self.invariant)) ∙ sym c.chosen.ensures.pages ∙ ap (option_map (λ x. x.pages)) c.in_default.is)

pub returns-clause-ok : goal.returns-clause-ok
returns-clause-ok c =
    let range : Span = record { start = c.args.first; end = c.args.last } in
    subst (λ (m : Managed). range_choice c.args.mode (holes (is_free_beside m.held) m.size) c.args.pages c.args.align range ≡ Some c.in-Some.choice.pages) c.self.view_is
    (ap (λ hs. range_choice c.args.mode hs c.args.pages c.args.align range) (sym (managed_holes c.self.inside.holes c.self.inside.ends c.self.inside.used c.self.inside.count c.self.invariant)) ∙ sym c.chosen.ensures.pages ∙ ap (option_map (λ x. x.pages)) c.in-Some.is)
