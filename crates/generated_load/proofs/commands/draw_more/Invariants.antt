use Rattle.std.proofs.Common.{◌≡◌, ◌++◌}
use Rattle.generated_load.specs.Commands.{drawn_commands}
use Rattle.generated_load.proofs.commands.draw_more.Given as goal

abbrev pub invariant-loop-count : goal.invariant-loop-count
invariant-loop-count l =
    (l.commands ≡ l.initial.commands ++ (drawn_commands l._count l.thread l.initial.draws).0) × (l.draws ≡ (drawn_commands l._count l.thread l.initial.draws).1)
