use Rattle.std.proofs.Common.{ℕ, List, length, ap, sym, ◌∙◌}
use Rattle.sparse_table.proofs.PieceLaws.{length-numbers}
use Rattle.sparse_table.proofs.table.SparseTable.len.Goals as goal

pub returns : goal.returns
returns c = sym (length-numbers c.self.inside.pieces.items 0 c.self.inside.len) ∙ ap (λ (xs : List ℕ). length xs) c.self.view_is
