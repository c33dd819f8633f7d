use Rattle.std.proofs.Common.{◌≡◌, drop}
use Rattle.buddy_manager.specs.Held.{without_all}
use Rattle.resource_core.proofs.RangeLaws.{IsLetting}
use Rattle.resource_core.proofs.range.let_go.Given as goal

abbrev pub invariant-loop-span : goal.invariant-loop-span
invariant-loop-span l = record {
  letting : IsLetting (without_all l.spans l.initial.manager.held) (drop l.span-index l.spans) l.manager.held;
  size : l.manager.size ≡ l.initial.manager.size;
}
