use Rattle.std.proofs.Common.{◌≡◌, drop}
use Rattle.std.specs.Prelude.{not}
use Rattle.std.specs.List.{list_any}
use Rattle.journal_model.specs.scripts.MarkRules.{has_apart_ranges}
use Rattle.script_rules.proofs.addresses.some_buffer_is_twice.Given as goal

abbrev pub invariant-loop-op : goal.invariant-loop-op
invariant-loop-op l =
    list_any (λ v. not (has_apart_ranges l.thread_mappings.regions v)) (drop l.op-index l.ops) ≡ list_any (λ v. not (has_apart_ranges l.thread_mappings.regions v)) l.ops
