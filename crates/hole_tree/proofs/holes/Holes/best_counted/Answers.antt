use Rattle.std.proofs.Common.{◌≡◌, ◌-◌, ◌≤◌, List, length, sym, ap, ◌∙◌, subst, arith, rules}
use Rattle.std.specs.List.{find}
use Rattle.ttm_base.specs.declared.Span.{Span}
use Rattle.ttm_base.specs.declared.Mode.TheVariants.{Best, Low}
use Rattle.hole_tree.specs.declared.order.Order.TheVariants.{ByLength}
use Rattle.hole_tree.specs.Sorting.{IsSorted}
use Rattle.hole_tree.specs.declared.request.Request.{Request}
use Rattle.hole_tree.specs.Choosing.{chosen_hole}
use Rattle.hole_tree.specs.Fitting.{fits, IsWide}
use Rattle.hole_tree.specs.Rising.{EndsBy}
use Rattle.hole_tree.proofs.Choices.{chosen_best}
use Rattle.hole_tree.proofs.Counting.{steps_square}
use Rattle.hole_tree.proofs.Found.{mapped}
use Rattle.hole_tree.proofs.SortedByLength.{ends_sorted, first_by_length, length_sorted, length-sorted}
use Rattle.hole_tree.proofs.holes.Holes.best_counted.Goals as goal

pub shortest-requires-clause-sorted : goal.shortest-requires-clause-sorted
shortest-requires-clause-sorted g c = subst (IsSorted ByLength) (sym c.self.invariant.lengths) (length_sorted c.self.inside.by_start.spans c.self.invariant.rising)

pub returns-clause-hole : goal.returns-clause-hole
returns-clause-hole g c =
    let q : Request = record { pages = c.args.pages; align = c.args.align; first = c.args.first; last = c.args.last } in
    mapped c.shortest.result c.map.result (λ x y m. search rules) c.map.ensures.cases
    ∙ c.shortest.ensures.found
    ∙ ap (λ r. find (fits Low r) c.self.inside.by_length.spans) c.of-request.ensures
    ∙ ap (λ ys. find (fits Low q) ys) c.self.invariant.lengths
    ∙ first_by_length (fits Low q) c.self.inside.by_start.spans c.self.invariant.rising
    ∙ sym (chosen_best q c.self.inside.by_start.spans)
    ∙ ap (λ h. chosen_hole Best h.holes c.args.pages c.args.align c.args.first c.args.last) c.self.view_is

pub returns-clause-cost : goal.returns-clause-cost
returns-clause-cost g c = λ a f e.
    let holes : c.self.inside.by_start.spans ≡ c.args.self.now.holes = ap (λ h. h.holes) c.self.view_is in
    let P : List Span → Type 0 = λ hs. EndsBy c.args.last hs in
    let ends : P c.self.inside.by_length.spans = subst P (sym c.self.invariant.lengths) (ends_sorted c.args.last c.self.inside.by_start.spans (subst P (sym holes) e)) in
    let q : Request = record { pages = c.args.pages; align = c.args.align; first = c.args.first; last = c.args.last } in
    let wide : IsWide q c.self.inside.by_length.spans = record { align = a; first = f; last = ends } in
    let bound : c.shortest.new.steps - c.args.steps.now ≤ c.self.inside.by_length.height = let k = c.shortest.ensures.cost (subst (λ r. IsWide r c.self.inside.by_length.spans) (sym c.of-request.ensures) wide) in omega (arith, k) in
    let count : length c.self.inside.by_length.spans ≡ length c.args.self.now.holes =
    ap (λ ys. length ys) c.self.invariant.lengths ∙ length-sorted c.self.inside.by_start.spans ∙ ap (λ ys. length ys) holes in
    rw (← count) (steps_square c.self.inside.by_length (c.shortest.new.steps - c.args.steps.now) c.balanced.ensures bound)
