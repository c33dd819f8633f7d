-- What mappings know follows a journal: the calls that an entry asks for, unless it is an answer.
use Rattle.std.specs.Prelude.{◌≡◌, ℕ, true, false, List, [], ◌∷◌, ◌++◌, None, map, option_map}
use Rattle.ttm_base.specs.declared.PagePlace.{PagePlace}
use Rattle.ttm_base.specs.Pages.{Page, translated}
use Rattle.journal_model.specs.declared.script.Script.{Script}
use Rattle.journal_model.specs.declared.entry.Kind.{Kind}
use Rattle.journal_model.specs.declared.entry.Kind.TheVariants as kind
use Rattle.journal_model.specs.rules.Legal.{Made}
use Rattle.journal_model.specs.statements.Complete.{is_answer}
use Rattle.journal_model.specs.marks.Mapped.{Mapping, mapped_entry, has_ended, count_answers}
use Rattle.cpu_maps.specs.declared.area.Area.{Area}
use Rattle.cpu_maps.specs.Areas.{entry_in, without_page, without_buffer, unmapped}

-- the page at a place of VRAM or of system memory; no entry names a page of the aperture
abbrev pub page_there : PagePlace → Page
page_there place = translated (λ page. None) place

-- the areas have the entries that a journal gives a mapping
abbrev pub Follow : Script → List Made → List Area → Mapping → Type 0
Follow script made areas m = (i : ℕ) → option_map page_there (entry_in areas m.thread m.b i) ≡ mapped_entry script made m i

-- the areas after the call that an entry asks for: drop_buffer where a buffer leaves, drop_page where a page does, and else none
abbrev pub areas_behind : Kind → List Area → List Area
areas_behind (kind.Free b g) areas = map (without_buffer b) areas
areas_behind (kind.Move b mem n l) areas = map (without_buffer b) areas
areas_behind (kind.Bind b) areas = map (without_buffer b) areas
areas_behind (kind.Unbind b) areas = map (without_buffer b) areas
areas_behind (kind.SwapOut b page k) areas = map (without_page b page) areas
areas_behind _ areas = areas

-- areas that follow a mapping still do after one more entry that isn't an answer, once the call that it asks for is done
abbrev pub EntriesGoWithTheirPages : Type 0
EntriesGoWithTheirPages =
    (script : Script) (made : List Made) (e : Made) (m : Mapping) (areas : List Area) →
    is_answer e.entry.kind ≡ false → Follow script made areas m → Follow script (made ++ e ∷ []) (areas_behind e.entry.kind areas) m

-- once a mapping has ended and was unmapped, the areas follow it: it has no entries
abbrev pub EntriesGoWithTheirMapping : Type 0
EntriesGoWithTheirMapping =
    (script : Script) (made : List Made) (m : Mapping) (areas : List Area) →
    has_ended m (count_answers m.thread made) ≡ true → Follow script made (map (unmapped m.thread m.b) areas) m
