use Rattle.std.proofs.Common.{Err, ap, sym, ◌∙◌}
use Rattle.std.specs.Prelude.{is_some}
use Rattle.manager_walk.proofs.BlockLaws.{open_by_block}
use Rattle.manager_walk.proofs.blocks.is_open.Goals as goal

pub returns-in-Ok-clause-value : goal.returns-in-Ok-clause-value
returns-in-Ok-clause-value c = sym (ap is_some c.in-Ok.ensures.ok) ∙ open_by_block c.args.manager.now.held c.args.manager.now.size c.args.page

pub returns-in-Err-NoBlocks-clause-value : goal.returns-in-Err-NoBlocks-clause-value
returns-in-Err-NoBlocks-clause-value c =
    sym (ap is_some (c.in-Err-NoBlocks.ensures.none (ap Err c.in-Err-NoBlocks.field-0-is))) ∙ open_by_block c.args.manager.now.held c.args.manager.now.size c.args.page
