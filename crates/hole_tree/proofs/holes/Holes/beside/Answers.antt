use Rattle.std.proofs.Common.{ap, ◌∙◌, rules}
use Rattle.std.specs.List.{find, list_all}
use Rattle.hole_tree.specs.HoleSet.{HoleSet, is_disjoint, starts_at, ends_at}
use Rattle.hole_tree.proofs.Beside.{if_passes, ends_before, starts_behind, filtered}
use Rattle.hole_tree.proofs.Found.{mapped}
use Rattle.hole_tree.proofs.holes.Holes.beside.Goals as goal

pub returns-clause-before : goal.returns-clause-before
returns-clause-before c =
    mapped c.filter.result c.map.result (λ x y m. search rules) c.map.ensures.cases
    ∙ filtered (ends_at c.args.span.start) c.beside.result.0 c.filter.result (λ x b m. search rules) c.filter.ensures
    ∙ ap (if_passes (ends_at c.args.span.start)) c.beside.ensures.before
    ∙ ends_before c.args.span.start c.self.inside.by_start.spans c.self.invariant.rising
    ∙ ap (λ (h : HoleSet). find (ends_at c.args.span.start) h.holes) c.self.view_is

pub returns-clause-behind : goal.returns-clause-behind
returns-clause-behind c =
    mapped c.filter-2.result c.map-2.result (λ x y m. search rules) c.map-2.ensures.cases
    ∙ filtered (starts_at c.args.span.end) c.beside.result.1 c.filter-2.result (λ x b m. search rules) c.filter-2.ensures
    ∙ ap (if_passes (starts_at c.args.span.end)) c.beside.ensures.behind
    ∙ starts_behind c.args.span c.self.inside.by_start.spans c.requires.some c.self.invariant.rising (ap (λ (h : HoleSet). list_all (is_disjoint c.args.span) h.holes) c.self.view_is ∙ c.requires.held)
    ∙ ap (λ (h : HoleSet). find (starts_at c.args.span.end) h.holes) c.self.view_is
