use Rattle.std.proofs.Common.{◌≡◌, ◌++◌}
use Rattle.generated_load.specs.Commands.{reads}
use Rattle.generated_load.proofs.commands.add_reads.Given as goal

abbrev pub invariant-loop-number : goal.invariant-loop-number
invariant-loop-number l = l.commands ≡ l.initial.commands ++ reads l.number l.thread
