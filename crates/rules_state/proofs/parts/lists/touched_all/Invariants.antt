use Rattle.std.proofs.Common.{◌≡◌, take}
use Rattle.std.specs.Prelude.{fold}
use Rattle.journal_model.specs.rules.Lists.{touched}
use Rattle.rules_state.proofs.parts.lists.touched_all.Given as goal

abbrev pub invariant-loop-b : goal.invariant-loop-b
invariant-loop-b l = l.new ≡ fold (touched l.script l.buffers l.reservations) l.lists (take l.b-index l.bs)
