use Rattle.std.proofs.Common.{◌≡◌, ◌*◌, length}
use Rattle.test_parts.proofs.copies.packets.take_all.Given as goal

-- the stores keep their sizes
abbrev pub invariant-loop-step : goal.invariant-loop-step
invariant-loop-step g l = record {
  vram : length l.stores.vram ≡ 4096;
  frames : length l.stores.frames ≡ 4096 * 8;
  aper : length l.stores.aper ≡ 4;
}
