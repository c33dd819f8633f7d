use Rattle.std.proofs.Common.{◌<◌, sym, subst}
use Rattle.manager_walk.proofs.OpenLaws.{next_at, starts}
use Rattle.manager_walk.proofs.ranges.next_held.Goals as goal

pub returns-in-Some-clause-some : goal.returns-in-Some-clause-some
returns-in-Some-clause-some c = next_at c.args.manager.now.held c.args.from c.loop-page.page c.in-Some.span c.loop-page.auto.page (sym c.in-Some.ensures) c.loop-page.invariant

pub returns-in-Some-clause-within : goal.returns-in-Some-clause-within
returns-in-Some-clause-within c = subst (λ p. p < c.args.size) (sym (starts c.args.manager.now.held c.loop-page.page c.in-Some.span (sym c.in-Some.ensures))) c.loop-page-test.true
