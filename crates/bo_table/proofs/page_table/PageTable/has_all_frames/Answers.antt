use Rattle.std.proofs.Common.{ap, sym, ◌∙◌}
use Rattle.std.specs.Prelude.{is_none, not}
use Rattle.bo_table.proofs.FilledLaws.{all_frames, not_not}
use Rattle.bo_table.proofs.page_table.PageTable.has_all_frames.Goals as goal

pub returns : goal.returns
returns c =
    sym (not_not c.is_none.result) ∙ ap not (sym c.is_none.ensures) ∙ ap is_none c.first_unfilled.ensures ∙ all_frames c.args.self.now
