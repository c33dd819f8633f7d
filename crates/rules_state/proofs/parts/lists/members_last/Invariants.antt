use Rattle.std.proofs.Common.{◌≡◌, take}
use Rattle.std.specs.Prelude.{map}
use Rattle.journal_model.specs.rules.Lists.{is_member, members_last}
use Rattle.rules_state.proofs.parts.lists.members_last.Given as goal

abbrev pub invariant-loop-list : goal.invariant-loop-list
invariant-loop-list l = l.new ≡ map (members_last (is_member l.script l.group)) (take l.list-index l.lists)
