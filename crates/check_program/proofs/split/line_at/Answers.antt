use Rattle.script_text.proofs.Lines.{line_len-within}
use Rattle.check_program.proofs.split.line_at.Goals as goal

pub split_at-requires-2 : goal.split_at-requires-2
split_at-requires-2 c = rw c.len_of_line.ensures (line_len-within c.split_at.result.1.now)
