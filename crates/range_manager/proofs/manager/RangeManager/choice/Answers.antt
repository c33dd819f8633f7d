use Rattle.std.proofs.Common.{◌≡◌, option_map, ap, sym, ◌∙◌}
use Rattle.ttm_base.specs.declared.Span.{Span}
use Rattle.ttm_base.specs.Holes.{holes, is_free_beside}
use Rattle.ttm_base.specs.RangeChoice.{range_choice}
use Rattle.range_manager.specs.Held.{Managed}
use Rattle.range_manager.proofs.ManagedLaws.{managed_holes}
use Rattle.range_manager.proofs.manager.RangeManager.choice.Goals as goal
use Rattle.range_manager.proofs.manager.RangeManager.choice.Goals.{After-chosen}

-- the choice among the holes that are kept is that among the free pages
told : (c : After-chosen) → option_map (λ x. x.pages) c.chosen.result ≡ range_choice c.args.mode (holes (is_free_beside c.args.self.now.held) c.args.self.now.size) c.args.pages c.args.align (record { start = c.args.first; end = c.args.last })
told c =
    let range : Span = record { start = c.args.first; end = c.args.last } in
    c.chosen.ensures.pages
    ∙ ap (λ hs. range_choice c.args.mode hs c.args.pages c.args.align range) (managed_holes c.self.inside.holes c.self.inside.ends c.self.inside.used c.self.inside.count c.self.invariant)
    ∙ ap (λ (m : Managed). range_choice c.args.mode (holes (is_free_beside m.held) m.size) c.args.pages c.args.align range) c.self.view_is

pub returns-in_err-choice : goal.returns-in_err-choice
returns-in_err-choice c = c.from_residual.ensures ∙ sym (ap (option_map (λ x. x.pages)) c.in_err-choice.was) ∙ told (goal.at.returns-in_err-choice c).After-chosen

pub returns : goal.returns
returns c = sym (ap (option_map (λ x. x.pages)) c.in_ok-choice.was) ∙ told (goal.at.returns c).After-chosen
