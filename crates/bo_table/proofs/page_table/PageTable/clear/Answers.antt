use Rattle.bo_table.proofs.PageLaws.{cleared_counted}
use Rattle.bo_table.proofs.page_table.PageTable.clear.Goals as goal

pub invariant_of-self : goal.invariant_of-self
invariant_of-self c = rw (c.clear.ensures, c.len.ensures) (cleared_counted c.self.inside.places c.self.invariant.short)
