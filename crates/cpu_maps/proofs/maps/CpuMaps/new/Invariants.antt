use Rattle.std.proofs.Common.{◌≡◌, [], take}
use Rattle.std.specs.Prelude.{fold}
use Rattle.cpu_maps.specs.Areas.{with_mark}
use Rattle.cpu_maps.proofs.maps.CpuMaps.new.Given as goal

abbrev pub invariant-loop-mark : goal.invariant-loop-mark
invariant-loop-mark l = l.maps ≡ fold (with_mark l.script) [] (take l.mark-index l.script.marks)
