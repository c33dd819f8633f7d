use Rattle.std.proofs.Common.{◌≡◌, min, take, length, sum_by}
use Rattle.plain_memory.proofs.counts.command_count.Given as goal

abbrev pub invariant-loop-commands : goal.invariant-loop-commands
invariant-loop-commands l = l.n ≡ min (sum_by length (take l.commands-index l.commands-items)) 18446744073709551615
