use Rattle.std.proofs.Common.{◌≡◌, [], replicate}
use Rattle.sparse_table.proofs.table.no_numbers.Given as goal

abbrev pub invariant-loop-piece : goal.invariant-loop-piece
invariant-loop-piece l = l.pieces.items ≡ replicate l._piece []
