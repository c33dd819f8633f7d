use Rattle.std.proofs.Common.{◌≡◌, ◌++◌, take, drop, length}
use Rattle.std.specs.Prelude.{map}
use Rattle.cpu_maps.specs.Areas.{with_fault}
use Rattle.cpu_maps.proofs.maps.CpuMaps.fault_in.Given as goal

abbrev pub invariant-loop-i : goal.invariant-loop-i
invariant-loop-i l =
    (l.self-inside.areas ≡ map (with_fault l.thread l.b l.page l.place) (take l.i l.initial.self-inside.areas) ++ drop l.i l.initial.self-inside.areas) × (length l.self-inside.areas ≡ length l.initial.self-inside.areas)
