-- What a room of either kind is seen as.
use Rattle.resource_core.specs.declared.vram.EitherRoom.{EitherRoom}
use Rattle.resource_core.specs.declared.vram.EitherRoom.TheVariants as either
use Rattle.resource_core.specs.declared.vram.PagesKind.TheVariants.{Ranges, Blocks}
use Rattle.resource_core.specs.Vram.{Vram}

abbrev pub seen : EitherRoom → Vram
seen (either.Ranges room) = record { kind = Ranges; resources = room }
seen (either.Blocks room) = record { kind = Blocks; resources = room }
