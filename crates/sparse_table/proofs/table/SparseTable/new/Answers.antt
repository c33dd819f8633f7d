use Rattle.std.proofs.Common.{ℕ, ◌+◌, ◌/◌, List, ap, ◌∙◌}
use Rattle.sparse_table.specs.Pieces.{numbers_from}
use Rattle.sparse_table.proofs.PieceLaws.{none_set}
use Rattle.sparse_table.proofs.table.SparseTable.new.Goals as goal

pub returns : goal.returns
returns c = ap (λ (ps : List (List ℕ)). numbers_from ps 0 c.args.len) c.in_ok-pieces.ensures ∙ none_set (c.args.len / 1024 + 1) c.args.len
