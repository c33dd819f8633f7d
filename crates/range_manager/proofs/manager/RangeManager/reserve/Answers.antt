use Rattle.std.proofs.Common.{◌≡◌, ℕ, true, subst, arith}
use Rattle.ttm_base.specs.Holes.{has_page}
use Rattle.range_manager.specs.Held.{is_open, HasTakenPage}
use Rattle.range_manager.proofs.ManagedLaws.{taken_first, taken_past, all_open_in}
use Rattle.range_manager.proofs.manager.RangeManager.reserve.Goals as goal

pub returns-in_default-clause-none : goal.returns-in_default-clause-none
returns-in_default-clause-none c = λ e.
    subst (λ m. HasTakenPage m c.args.span) c.self.view_is
    (taken_first c.self.inside.holes c.self.inside.ends c.self.inside.used c.self.inside.count c.args.span c.self.invariant (omega arith) c.in_default.ensures.none)

pub returns-then-hole-span-clause-none : goal.returns-then-hole-span-clause-none
returns-then-hole-span-clause-none c = λ e.
    subst (λ m. HasTakenPage m c.args.span) c.self.view_is
    (taken_past c.self.inside.holes c.self.inside.ends c.self.inside.used c.self.inside.count c.args.span c.in-Some.hole c.self.invariant c.in-Some.ensures.hole c.in-Some.ensures.page c.if-hole-span.true)

pub returns-clause-free : goal.returns-clause-free
returns-clause-free c =
    subst (λ m. (page : ℕ) → has_page page c.args.span ≡ true → is_open m page ≡ true) c.self.view_is
    (all_open_in c.self.inside.holes c.self.inside.ends c.self.inside.used c.self.inside.count c.args.span c.in-Some.hole c.self.invariant c.in-Some.ensures.hole c.in-Some.ensures.page (omega arith))
