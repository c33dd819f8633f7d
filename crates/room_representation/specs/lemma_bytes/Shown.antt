-- Which pages have their bytes in the stores of VRAM and frames.
use Rattle.std.specs.Prelude.{Bool, true, false}
use Rattle.ttm_base.specs.Pages.{Page, nowhere, vram, frame, slot}

-- the page stands in VRAM, in a frame, or nowhere, where zeros are read
abbrev pub is_in_stores : Page → Bool
is_in_stores nowhere = true
is_in_stores (vram p) = true
is_in_stores (frame f) = true
is_in_stores (slot k) = false
