use Rattle.std.proofs.Common.{◌-◌, ◌||◌, set, ap, sym, subst, ◌∙◌, arith}
use Rattle.std.specs.Option.{IsSome}
use Rattle.std.specs.List.{find, list_any}
use Rattle.ttm_base.specs.Holes.{has_page}
use Rattle.hole_tree.specs.HoleSet.{starts_at, without}
use Rattle.range_manager.specs.Held.{Managed, held_spans}
use Rattle.range_manager.specs.Kept.{IsClear, IsManaged}
use Rattle.range_manager.proofs.EndLaws.{Begins, begins}
use Rattle.range_manager.proofs.ManagedLaws.{held_clear_of, held_less, managed_less, used_less, count_less}
use Rattle.range_manager.proofs.manager.RangeManager.remove.Goals as goal
use Rattle.range_manager.proofs.manager.RangeManager.remove.Goals.{After-self}

here : (c : After-self) → Begins c.self.inside.ends c.args.start
here c = begins c.self.inside.ends c.args.start (subst (λ (m : Managed). IsSome (find (starts_at c.args.start) m.held)) (sym c.self.view_is) c.requires)

pub replace-requires : goal.replace-requires
replace-requires c = let some = (here (goal.at.replace-requires c).After-self).some in omega (arith, some)

pub give-requires-clause-some : goal.give-requires-clause-some
give-requires-clause-some c =
    let b = here (goal.at.give-requires-clause-some c).After-self in
    let e = c.get.ensures in
    let some = b.some in
    omega (arith, e, some)

pub give-requires-clause-clear : goal.give-requires-clause-clear
give-requires-clause-clear c =
    let b = here (goal.at.give-requires-clause-clear c).After-self in
    let e = c.get.ensures in
    subst (λ n. IsClear 0 (record { start = c.args.start; end = n }) c.self.inside.holes.holes) (sym e) (held_clear_of c.self.inside.holes c.self.inside.ends c.self.inside.used c.self.inside.count c.args.start c.self.invariant b)

pub give-requires-clause-room : goal.give-requires-clause-room
give-requires-clause-room c =
    let n = count_less c.self.inside.holes c.self.inside.ends c.self.inside.used c.self.inside.count c.args.start c.self.invariant (here (goal.at.give-requires-clause-room c).After-self) in
    let s = c.self.invariant.spare in
    omega (arith, n, s)

pub overflow_sub-self : goal.overflow_sub-self
overflow_sub-self c =
    let b = here (goal.at.overflow_sub-self c).After-self in
    let e = c.get.ensures in
    let some = b.some in
    omega (arith, e, some)

pub overflow_sub-self-2 : goal.overflow_sub-self-2
overflow_sub-self-2 c =
    let b = here (goal.at.overflow_sub-self-2 c).After-self in
    let e = c.get.ensures in
    let u = used_less c.self.inside.holes c.self.inside.ends c.self.inside.used c.self.inside.count c.args.start c.self.invariant b in
    omega (arith, e, u)

pub overflow_sub-self-3 : goal.overflow_sub-self-3
overflow_sub-self-3 c = count_less c.self.inside.holes c.self.inside.ends c.self.inside.used c.self.inside.count c.args.start c.self.invariant (here (goal.at.overflow_sub-self-3 c).After-self)

pub invariant_of-self : goal.invariant_of-self
invariant_of-self c =
    let b = here (goal.at.invariant_of-self c).After-self in
    let e = c.get.ensures in
    subst (λ es. IsManaged c.give.new.holes es (c.self.inside.used - (c.get.result - c.args.start)) (c.self.inside.count - 1)) (sym c.replace.ensures)
    (subst (λ n. IsManaged c.give.new.holes (set c.self.inside.ends c.args.start 0) (c.self.inside.used - (n - c.args.start)) (c.self.inside.count - 1)) (sym e)
    (managed_less c.self.inside.holes c.give.new.holes c.self.inside.ends c.self.inside.used c.self.inside.count c.args.start c.self.invariant b c.give.ensures.spaced
    (λ page. c.give.ensures.pages page ∙ ap (λ n. list_any (has_page page) c.self.inside.holes.holes || has_page page (record { start = c.args.start; end = n })) e) c.give.ensures.room))

pub returns-clause-held : goal.returns-clause-held
returns-clause-held c =
    let b = here (goal.at.returns-clause-held c).After-self in
    ap (held_spans 0) c.replace.ensures ∙ held_less c.self.inside.ends c.args.start b ∙ ap (λ (m : Managed). without c.args.start m.held) c.self.view_is
