use Rattle.std.proofs.Common.{◌∙◌, append_assoc}
use Rattle.check_program.proofs.tell.rejected_line.Goals as goal

pub returns : goal.returns
returns c = c.in_ok-format.ensures.ok ∙ simp append_assoc
