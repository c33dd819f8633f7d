use Rattle.std.proofs.Common.{◌≡◌, min, take, sum_by}
use Rattle.ttm_base.specs.Reach.{length_of}
use Rattle.page_accounts.specs.Counting.{most}
use Rattle.page_accounts.proofs.counts.count_pages.Given as goal

abbrev pub invariant-loop-span : goal.invariant-loop-span
invariant-loop-span l = l.count ≡ min (sum_by length_of (take l.span-index l.spans)) most
