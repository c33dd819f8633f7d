use Rattle.std.proofs.Common.{◌≡◌, ◌++◌}
use Rattle.generated_load.specs.Commands.{news}
use Rattle.generated_load.proofs.commands.add_news.Given as goal

abbrev pub invariant-loop-number : goal.invariant-loop-number
invariant-loop-number l = l.commands ≡ l.initial.commands ++ news l.number l.thread
