use Rattle.std.proofs.Common.{◌≡◌, ◌+◌, drop}
use Rattle.buddy_manager.specs.Held.{pages_of}
use Rattle.resource_core.proofs.holding.pages_of.Given as goal

abbrev pub invariant-loop-span : goal.invariant-loop-span
invariant-loop-span l = l.pages + pages_of (drop l.span-index l.spans) ≡ pages_of l.spans
