use Rattle.std.proofs.Common.{ap, sym, ◌∙◌}
use Rattle.ttm_base.specs.Holes.{is_free_beside}
use Rattle.buddy_manager.specs.Held.{with_blocks}
use Rattle.resource_core.specs.RangeTaken.{range_takes}
use Rattle.resource_core.proofs.RangeLaws.{with_taken, replaced}
use Rattle.resource_core.proofs.range.RangeManagerSpanManager.take.Goals as goal

pub returns-in-Ok-insert-clause-held : goal.returns-in-Ok-insert-clause-held
returns-in-Ok-insert-clause-held c =
    let taken = range_takes (is_free_beside c.args.self.now.held) c.args.self.now.size c.mode_for.result c.args.pages c.args.align _ c.in-Ok-insert.span c.in-Ok-insert.ensures.ok in
    let out = replaced _ _ _ _ c.in-Ok-insert.span c.requires.empty c.in-Ok.ensures.ok c.set.ensures in
    c.in-Ok-insert.ensures.held ∙ with_taken c.in-Ok-insert.span c.args.self.now.held taken.some ∙ sym (ap (λ xs. with_blocks xs c.args.self.now.held) out)
