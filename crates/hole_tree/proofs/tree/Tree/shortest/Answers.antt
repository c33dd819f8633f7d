use Rattle.std.proofs.Common.{◌<◌, sym, arith}
use Rattle.std.proofs.lemmas.Bool.{both_ways, le-ltb}
use Rattle.ttm_base.specs.declared.Mode.TheVariants.{Low}
use Rattle.hole_tree.proofs.Searching.{zero_first, short_first, long_first, wide_long}
use Rattle.hole_tree.proofs.tree.Tree.shortest.Goals as goal

pub returns-then-request-eq0-clause-found : goal.returns-then-request-eq0-clause-found
returns-then-request-eq0-clause-found g c = sym (zero_first Low c.args.request c.args.self.now.spans (le-ltb 0 c.args.request.pages (omega (arith, c.if-request-eq0.true))))

pub returns-in_err-long-clause-found : goal.returns-in_err-long-clause-found
returns-in_err-long-clause-found g c =
    let none = short_first Low c.args.request c.args.self.now.spans (sym c.in_err-long.ensures.found) in
    cc (none, c.from_residual.ensures)

pub returns-then-fits-clause-found : goal.returns-then-fits-clause-found
returns-then-fits-clause-found g c = sym (long_first Low c.args.request c.args.self.now.spans c.in_ok-long.long.now (sym c.in_ok-long.ensures.found) (sym c.if-fits.ensures))

pub returns-clause-cost : goal.returns-clause-cost
returns-clause-cost g c = λ w.
    let some : 0 < c.args.request.pages = omega (arith, c.if-request-eq0.false) in
    let fit = wide_long Low c.args.request c.args.self.now.spans c.in_ok-long.long.now w some (sym c.in_ok-long.ensures.found) in
    absurd (both_ways _ (sym c.if-fits.ensures) fit)
