use Rattle.std.proofs.Common.{◌≡◌, take}
use Rattle.std.specs.Prelude.{filter}
use Rattle.journal_model.specs.rules.State.{has_buffer}
use Rattle.rules_apply.proofs.commands.held_among.Given as goal

abbrev pub invariant-loop-b : goal.invariant-loop-b
invariant-loop-b l = l.found ≡ filter (has_buffer l.held) (take l.b-index l.bs)
