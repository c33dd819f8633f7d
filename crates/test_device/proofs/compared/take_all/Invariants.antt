use Rattle.test_device.specs.Steps.{AreInStep}
use Rattle.test_device.proofs.compared.take_all.Given as goal

abbrev pub invariant-loop-at : goal.invariant-loop-at
invariant-loop-at g l = AreInStep l.pair.replay.plain l.pair.replay.rooms
