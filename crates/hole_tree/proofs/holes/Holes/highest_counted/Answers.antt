use Rattle.std.proofs.Common.{◌≡◌, ◌-◌, ◌≤◌, List, sym, ap, ◌∙◌, subst, arith, rules}
use Rattle.ttm_base.specs.declared.Span.{Span}
use Rattle.ttm_base.specs.declared.Mode.TheVariants.{High}
use Rattle.hole_tree.specs.declared.request.Request.{Request}
use Rattle.hole_tree.specs.Choosing.{chosen_hole}
use Rattle.hole_tree.specs.Fitting.{fits, find_last, IsWide}
use Rattle.hole_tree.specs.Rising.{EndsBy}
use Rattle.hole_tree.proofs.Choices.{chosen_high}
use Rattle.hole_tree.proofs.Counting.{steps_square}
use Rattle.hole_tree.proofs.Found.{mapped}
use Rattle.hole_tree.proofs.holes.Holes.highest_counted.Goals as goal

pub returns-clause-hole : goal.returns-clause-hole
returns-clause-hole g c =
    let q : Request = record { pages = c.args.pages; align = c.args.align; first = c.args.first; last = c.args.last } in
    mapped c.highest.result c.map.result (λ x y m. search rules) c.map.ensures.cases ∙ c.highest.ensures.found ∙ ap (λ r. find_last (fits High r) c.self.inside.by_start.spans) c.of-request.ensures ∙ sym (chosen_high q c.self.inside.by_start.spans) ∙ ap (λ h. chosen_hole High h.holes c.args.pages c.args.align c.args.first c.args.last) c.self.view_is

pub returns-clause-cost : goal.returns-clause-cost
returns-clause-cost g c = λ a f e.
    let holes : c.self.inside.by_start.spans ≡ c.args.self.now.holes = ap (λ h. h.holes) c.self.view_is in
    let P : List Span → Type 0 = λ hs. EndsBy c.args.last hs in
    let ends : P c.self.inside.by_start.spans = subst P (sym holes) e in
    let q : Request = record { pages = c.args.pages; align = c.args.align; first = c.args.first; last = c.args.last } in
    let wide : IsWide q c.self.inside.by_start.spans = record { align = a; first = f; last = ends } in
    let bound : c.highest.new.steps - c.args.steps.now ≤ c.self.inside.by_start.height = let k = c.highest.ensures.cost (subst (λ r. IsWide r c.self.inside.by_start.spans) (sym c.of-request.ensures) wide) in omega (arith, k) in
    rw (← holes) (steps_square c.self.inside.by_start (c.highest.new.steps - c.args.steps.now) c.balanced.ensures bound)
