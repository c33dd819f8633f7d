use Rattle.std.proofs.Common.{option_map, sym, ap, ◌∙◌, subst, rules}
use Rattle.std.specs.List.{find}
use Rattle.ttm_base.specs.declared.Mode.TheVariants.{Best, Low, High}
use Rattle.hole_tree.specs.declared.order.Order.TheVariants.{ByLength}
use Rattle.hole_tree.specs.Sorting.{IsSorted}
use Rattle.hole_tree.specs.Choosing.{chosen_hole}
use Rattle.hole_tree.specs.Fitting.{fits}
use Rattle.hole_tree.proofs.Choices.{chosen_best, chosen_low, chosen_high}
use Rattle.hole_tree.proofs.Found.{mapped}
use Rattle.hole_tree.proofs.SortedByLength.{first_by_length, length_sorted}
use Rattle.hole_tree.proofs.holes.Holes.choose.Goals as goal
use Rattle.hole_tree.proofs.holes.Holes.choose.Goals.{in-Best, in-Low, in-High}

pub shortest-chosen-requires-clause-sorted : goal.shortest-chosen-requires-clause-sorted
shortest-chosen-requires-clause-sorted g c = subst (IsSorted ByLength) (sym c.self.invariant.lengths) (length_sorted c.self.inside.by_start.spans c.self.invariant.rising)

pub returns : goal.returns
returns g c =
    let q = c.args.request in
    let ys = c.self.inside.by_start.spans in
    elim c.match-mode.branch [
      | in-Best w ↦
          rw w.in-Best.is (
          mapped _ c.map.result (λ x y m. search rules) c.map.ensures.cases
          ∙ ap (λ o. option_map (λ hole. hole.now) o) w.chosen-is
          ∙ w.shortest-chosen.ensures.found
          ∙ ap (λ zs. find (fits Low q) zs) c.self.invariant.lengths
          ∙ first_by_length (fits Low q) ys c.self.invariant.rising
          ∙ sym (chosen_best q ys)
          ∙ ap (λ h. chosen_hole Best h.holes q.pages q.align q.first q.last) c.self.view_is
          )
      | in-Low w ↦
          rw w.in-Low.is (
          mapped _ c.map.result (λ x y m. search rules) c.map.ensures.cases
          ∙ ap (λ o. option_map (λ hole. hole.now) o) w.chosen-is
          ∙ w.first-chosen.ensures.found
          ∙ sym (chosen_low q ys)
          ∙ ap (λ h. chosen_hole Low h.holes q.pages q.align q.first q.last) c.self.view_is
          )
      | in-High w ↦
          rw w.in-High.is (
          mapped _ c.map.result (λ x y m. search rules) c.map.ensures.cases
          ∙ ap (λ o. option_map (λ hole. hole.now) o) w.chosen-is
          ∙ w.highest-chosen.ensures.found
          ∙ sym (chosen_high q ys)
          ∙ ap (λ h. chosen_hole High h.holes q.pages q.align q.first q.last) c.self.view_is
          )
    ]
