use Rattle.std.proofs.Common.{◌≡◌, ◌+◌, drop}
use Rattle.buddy_manager.specs.Held.{pages_of}
use Rattle.buddy_manager.proofs.ends.pages_of.Given as goal

abbrev pub invariant-loop-block : goal.invariant-loop-block
invariant-loop-block l = l.pages + pages_of (drop l.block-index l.blocks) ≡ pages_of l.blocks
