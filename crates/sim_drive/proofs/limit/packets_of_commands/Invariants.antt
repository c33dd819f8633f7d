use Rattle.std.proofs.Common.{◌≡◌, min, take, sum_by}
use Rattle.journal_model.specs.statements.Scheduled.{packets_in}
use Rattle.sim_drive.proofs.limit.packets_of_commands.Given as goal

abbrev pub invariant-loop-command : goal.invariant-loop-command
invariant-loop-command l = l.n ≡ min (sum_by packets_in (take l.command-index l.commands)) 18446744073709551615
