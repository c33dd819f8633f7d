use Rattle.bo_table.proofs.PageLaws.{dropped_counted}
use Rattle.bo_table.proofs.page_table.PageTable.drop_frames.Goals as goal

pub invariant_of-self : goal.invariant_of-self
invariant_of-self c = rw (c.drop_frames.ensures, c.len.ensures) (dropped_counted c.self.inside.places c.self.invariant.short)
