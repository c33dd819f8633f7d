-- The names of pages as rows of buffers give them.
use Rattle.std.specs.Prelude.{ℕ, List, Option, None, Some, ◌==◌, find, slice_get, unwrap_or}
use Rattle.ttm_base.specs.declared.PagePlace.{PagePlace}
use Rattle.ttm_base.specs.declared.PagePlace.TheVariants as place
use Rattle.ttm_base.specs.Cutting.{PageMap}
use Rattle.copy_packet.specs.declared.places.PlaceRow.{PlaceRow}

-- the name of a page in a row, or frame 0 where the row has no such page
abbrev pub name_in : Option PlaceRow → ℕ → PagePlace
name_in None page = place.Frame 0
name_in (Some row) page = unwrap_or (slice_get row.pages page) (place.Frame 0)

-- the names of pages by the first row of each buffer
abbrev pub page_map : List PlaceRow → PageMap
page_map rows b = name_in (find (λ row. row.b.0 == b.0) rows)
