use Rattle.std.proofs.Common.{arith}
use Rattle.bo_table.proofs.PageLaws.{zeros_counted}
use Rattle.bo_table.proofs.page_table.PageTable.new.Goals as goal

pub invariant_of-result : goal.invariant_of-result
invariant_of-result c = rw c.in_ok-places.ensures (zeros_counted c.args.pages (omega arith))
