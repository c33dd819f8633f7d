use Rattle.std.proofs.Common.{◌≡◌, replicate}
use Rattle.ttm_base.specs.declared.Loc.TheVariants as loc
use Rattle.bo_table.proofs.page_table.zero_pages.Given as goal

abbrev pub invariant-loop-page : goal.invariant-loop-page
invariant-loop-page l = l.places ≡ replicate l._page loc.Zero
