use Rattle.std.proofs.Common.{◌≡◌, ◌+◌, drop}
use Rattle.script_spelling.specs.Cursors.{front_at}
use Rattle.script_spelling.proofs.marks.count_at.Given as goal

abbrev pub invariant-loop-mark : goal.invariant-loop-mark
invariant-loop-mark l = record { so_far : l.count ≡ l.mark-index; rest : l.count + front_at l.thread l.n (drop l.mark-index l.marks) ≡ front_at l.thread l.n l.marks }
