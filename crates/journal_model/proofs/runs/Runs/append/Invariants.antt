use Rattle.std.proofs.Common.{◌≡◌, ◌++◌, take}
use Rattle.std.specs.Prelude.{flat_map}
use Rattle.journal_model.proofs.runs.Runs.append.Given as goal

abbrev pub invariant-loop-run : goal.invariant-loop-run
invariant-loop-run g l = l.self ≡ l.initial.self ++ flat_map g.R.Run.items (take l.run-index l.run-items)
