use Rattle.std.proofs.Common.{◌≡◌, length, drop}
use Rattle.buddy_manager.specs.Held.{held_from, without_all, AreHeld}
use Rattle.buddy_manager.proofs.ends.let_go.Given as goal

abbrev pub invariant-loop-block : goal.invariant-loop-block
invariant-loop-block l =
    record {
      len : length l.ends ≡ length l.initial.ends;
      held : AreHeld (drop l.block-index l.blocks) (held_from 0 l.ends);
      same : without_all (drop l.block-index l.blocks) (held_from 0 l.ends) ≡ without_all l.blocks (held_from 0 l.initial.ends);
    }
