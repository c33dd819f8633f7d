use Rattle.std.proofs.Common.{Some, ap, sym, ◌∙◌, arith}
use Rattle.std.specs.List.{find}
use Rattle.hole_tree.specs.HoleSet.{starts_at}
use Rattle.range_manager.specs.Held.{Managed}
use Rattle.range_manager.proofs.EndLaws.{find_held, find_not_held}
use Rattle.range_manager.proofs.manager.RangeManager.held_from.Goals as goal

pub returns-then-start-end : goal.returns-then-start-end
returns-then-start-end c =
    let e = c.get-end.ensures in
    let s = c.if-start-end.true in
    ap (λ x. Some (record { start = c.args.start; end = x })) e ∙ sym (find_held c.self.inside.ends c.args.start (omega (arith, e, s)))
    ∙ ap (λ (m : Managed). find (starts_at c.args.start) m.held) c.self.view_is

pub returns-else-start-end : goal.returns-else-start-end
returns-else-start-end c =
    let e = c.get-end.ensures in
    let s = c.if-start-end.false in
    sym (find_not_held c.self.inside.ends c.args.start (omega (arith, e, s))) ∙ ap (λ (m : Managed). find (starts_at c.args.start) m.held) c.self.view_is
