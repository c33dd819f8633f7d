-- The packets of a move between VRAM and TT, as walks over spans.
use Rattle.std.specs.Prelude.{ℕ, List, map}
use Rattle.ttm_base.specs.declared.Mem.{Mem}
use Rattle.ttm_base.specs.declared.Mem.TheVariants.{System, Tt, Vram}
use Rattle.ttm_base.specs.declared.Packet.{Packet}
use Rattle.ttm_base.specs.declared.PagePlace.{PagePlace}
use Rattle.ttm_base.specs.declared.PagePlace.TheVariants as place
use Rattle.ttm_base.specs.declared.Span.{Span}
use Rattle.ttm_base.specs.ListWords.{count_from}
use Rattle.journal_model.specs.rules.ApplyMoves.{copy_of_page}
use Rattle.journal_model.specs.rules.Places.{name_in_spans}

-- how packets name a page of the memory type
abbrev pub named : Mem → ℕ → PagePlace
named Vram page = place.Vram page
named Tt page = place.Aper page
named System page = place.Frame 0

-- the packets that copy each page, from the spans `sources` to the spans `targets`
abbrev pub copies : ℕ → Mem → List Span → Mem → List Span → List Packet
copies pages to targets from sources = map (λ i. copy_of_page (name_in_spans to targets i) (name_in_spans from sources i)) (count_from 1 pages 0)
