-- The pages that a place has for a buffer: by range as in drm_mm, or by blocks as in drm_buddy.
use Rattle.std.specs.Prelude.{true, false, List, [], ◌∷◌, Option, Some, option_map, if◌then◌else◌}
use Rattle.journal_model.specs.Types.{BufId, Core, Mem, Place, Script, Span}
use Rattle.ttm_base.specs.declared.Mem.TheVariants.{System, Tt, Vram}
use Rattle.ttm_base.specs.declared.Mode.TheVariants.{Best, High}
use Rattle.ttm_base.specs.Reach.{reach}
use Rattle.ttm_base.specs.Holes.{holes}
use Rattle.ttm_base.specs.RangeChoice.{range_choice}
use Rattle.ttm_base.specs.BuddyChoice.{buddy_choice}
use Rattle.journal_model.specs.rules.Commands.{decl}
use Rattle.journal_model.specs.rules.Holds.{size_of, is_free_page}

-- the pages that a place reaches
abbrev pub reach_of : Script → Place → Span
reach_of script place = reach place (size_of script place.mem)

-- a range with the buffer's alignment, from the top where the place says so
abbrev pub range_at : Script → Core → BufId → Place → Option (List Span)
range_at script c b place =
    option_map (λ span. span ∷ []) (range_choice
    (if place.topdown then High else Best)
    (holes (is_free_page place.mem c) (size_of script place.mem))
    (decl script b).pages
    (decl script b).align
    (reach_of script place))

-- blocks, from the top or in one piece where the place says so
abbrev pub blocks_at : Script → Core → BufId → Place → Option (List Span)
blocks_at script c b place =
    buddy_choice
    (is_free_page place.mem c)
    (size_of script place.mem)
    (reach_of script place)
    place.topdown
    place.contig
    (decl script b).pages

-- by memory type
abbrev pub choice_in : Mem → Script → Core → BufId → Place → Option (List Span)
choice_in System script c b place = Some []
choice_in Tt script c b place = range_at script c b place
choice_in Vram script c b place = elim script.sizes.buddy [ true ↦ blocks_at script c b place | false ↦ range_at script c b place ]

-- the choice of a place for a buffer, if it has one; none is needed in SYSTEM
abbrev pub choice : Script → Core → BufId → Place → Option (List Span)
choice script c b place = choice_in place.mem script c b place
