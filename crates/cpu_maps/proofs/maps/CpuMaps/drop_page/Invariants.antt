use Rattle.std.proofs.Common.{◌≡◌, ◌++◌, take, drop, length}
use Rattle.std.specs.Prelude.{map}
use Rattle.cpu_maps.specs.Areas.{without_page}
use Rattle.cpu_maps.proofs.maps.CpuMaps.drop_page.Given as goal

abbrev pub invariant-loop-i : goal.invariant-loop-i
invariant-loop-i l =
    (l.self-inside.areas ≡ map (without_page l.b l.page) (take l.i l.initial.self-inside.areas) ++ drop l.i l.initial.self-inside.areas) × (length l.self-inside.areas ≡ length l.initial.self-inside.areas)
