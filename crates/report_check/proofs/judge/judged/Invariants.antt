use Rattle.std.specs.Prelude.{IfSome, take}
use Rattle.rules_holds.specs.Free.{AreFree}
use Rattle.rules_stores.specs.Kept.{bytes_of}
use Rattle.plain_device.specs.Held.{IsHeld}
use Rattle.report_check.proofs.judge.judged.Given as goal

-- state and bytes are those of the entries so far, which are legal; what is kept as free is free in the state
abbrev pub invariant-loop-at : goal.invariant-loop-at
invariant-loop-at l = record {
  held : IsHeld l.script (take l.at l.journal) l.state l.stores.sizes (bytes_of l.stores);
  kept : IfSome l.kept (AreFree l.script l.state.core);
}
