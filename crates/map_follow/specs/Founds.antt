-- What the result of a peek or poke finds, and what mappings then know.
use Rattle.std.specs.Prelude.{ℕ, ◌-◌, List, Option, Some, None, fold, map, option_and_then, option_map, slice_get}
use Rattle.ttm_base.specs.declared.Actor.TheVariants as actor
use Rattle.ttm_base.specs.declared.BufId.{BufId}
use Rattle.ttm_base.specs.declared.Loc.{Loc}
use Rattle.ttm_base.specs.declared.Loc.TheVariants as loc
use Rattle.ttm_base.specs.declared.Mem.{Mem}
use Rattle.ttm_base.specs.declared.Mem.TheVariants.{System, Tt, Vram}
use Rattle.ttm_base.specs.declared.PagePlace.{PagePlace}
use Rattle.ttm_base.specs.declared.PagePlace.TheVariants as place
use Rattle.ttm_base.specs.declared.Span.{Span}
use Rattle.ttm_base.specs.ListWords.{count_from}
use Rattle.journal_model.specs.declared.script.Script.{Script}
use Rattle.journal_model.specs.declared.entry.Entry.{Entry}
use Rattle.journal_model.specs.declared.state.State.{State}
use Rattle.journal_model.specs.rules.State.{buffer}
use Rattle.journal_model.specs.marks.Mapped.{Access}
use Rattle.journal_model.specs.rules.Places.{pages_of}
use Rattle.map_access.specs.Accesses.{access_in, mapped_from, paged}
use Rattle.cpu_maps.specs.declared.area.Area.{Area}
use Rattle.cpu_maps.specs.Areas.{with_fault}
use Rattle.map_follow.specs.declared.found.Found.{Found}

-- the pages of an access of a thread, if a mapping stands through which it goes
abbrev pub found_in : Script → ℕ → ℕ → Option Access → Option Found
found_in script thread n None = None
found_in script thread n (Some a) = option_map (λ from. record { thread = thread; pages = paged a }) (mapped_from script thread n a.b)

-- the pages of the access of an entry whose thread has answered `n` commands before
abbrev pub found_by : Script → ℕ → Entry → Option Found
found_by script n e = elim e.who [
  | actor.Thread t ↦ found_in script t n (access_in script t n e)
  | actor.Engine c ↦ None
  | actor.Reaper ↦ None
]

-- how a page with this place is named: by its frame
abbrev pub framed : Loc → Option PagePlace
framed (loc.Frame f) = Some (place.Frame f)
framed (loc.Slot k) = None
framed loc.Zero = None

-- the page of VRAM or the frame at which page `i` of a buffer stands
abbrev pub place_of : Mem → List Span → List Loc → ℕ → Option PagePlace
place_of Vram spans table i = option_map place.Vram (slice_get (pages_of spans) i)
place_of Tt spans table i = option_and_then framed (slice_get table i)
place_of System spans table i = option_and_then framed (slice_get table i)

-- the page of VRAM or the frame at which page `i` of buffer `b` of the state stands
abbrev pub place_in : State → BufId → ℕ → Option PagePlace
place_in s b i = place_of (buffer s b).mem (buffer s b).spans (buffer s b).table i

-- the areas once page `i` is found at a place, or at none
abbrev pub with_page : ℕ → BufId → ℕ → Option PagePlace → List Area → List Area
with_page thread b i None areas = areas
with_page thread b i (Some place) areas = map (with_fault thread b i place) areas

-- the areas once each page of a list is found
abbrev pub with_pages : ℕ → BufId → (ℕ → Option PagePlace) → List Area → List ℕ → List Area
with_pages thread b place areas pages = fold (λ areas i. with_page thread b i (place i) areas) areas pages

-- the areas once each page of the access was found
abbrev pub with_found : Found → Mem → List Span → List Loc → List Area → List Area
with_found found mem spans table areas =
    with_pages found.thread found.pages.b (place_of mem spans table) areas (count_from 1 (found.pages.end - found.pages.first) found.pages.first)

-- the areas once each page of the access was found at its place
abbrev pub with_found_at : (BufId → ℕ → Option PagePlace) → Option Found → List Area → List Area
with_found_at place None areas = areas
with_found_at place (Some found) areas =
    with_pages found.thread found.pages.b (place found.pages.b) areas (count_from 1 (found.pages.end - found.pages.first) found.pages.first)
