use Rattle.std.proofs.Common.{◌≡◌, ◌++◌, take}
use Rattle.std.specs.Prelude.{filter, not}
use Rattle.journal_model.specs.rules.Lists.{is_member}
use Rattle.rules_state.proofs.parts.lists.with_members_last.Given as goal

abbrev pub invariant-loop-other : goal.invariant-loop-other
invariant-loop-other l = l.new ≡ filter (λ b. not (is_member l.script l.group b)) (take l.other-index l.list)

abbrev pub invariant-loop-member : goal.invariant-loop-member
invariant-loop-member l =
    l.new ≡ filter (λ b. not (is_member l.script l.group b)) l.list ++ filter (is_member l.script l.group) (take l.member-index l.list)
