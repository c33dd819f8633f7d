use Rattle.std.proofs.Common.{◌≡◌, ◌++◌, take, drop, length}
use Rattle.std.specs.Prelude.{map}
use Rattle.cpu_maps.specs.Areas.{unmapped}
use Rattle.cpu_maps.proofs.maps.CpuMaps.unmap.Given as goal

abbrev pub invariant-loop-i : goal.invariant-loop-i
invariant-loop-i l =
    (l.self-inside.areas ≡ map (unmapped l.thread l.b) (take l.i l.initial.self-inside.areas) ++ drop l.i l.initial.self-inside.areas) × (length l.self-inside.areas ≡ length l.initial.self-inside.areas)
