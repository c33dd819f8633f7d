use Rattle.std.proofs.Common.{◌≡◌, take}
use Rattle.buddy_manager.specs.Held.{with_blocks}
use Rattle.resource_core.proofs.range.RangeManagerSpanManager.hold.Given as goal

abbrev pub invariant-loop-done : goal.invariant-loop-done
invariant-loop-done l = record {
  size : l.self.size ≡ l.initial.self.size;
  held : l.self.held ≡ with_blocks (take l.done l.spans) l.initial.self.held;
}
