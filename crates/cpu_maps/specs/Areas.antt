-- What CPU mappings know, and how calls change it.
use Rattle.std.specs.Prelude.{ℕ, Bool, List, [], ◌∷◌, ◌++◌, Option, Some, None, ◌==◌, ◌&&◌, if◌then◌else◌, find, fold, map, option_and_then, replicate, slice_get, slice_set, unwrap_or}
use Rattle.std.specs.List.{list_any}
use Rattle.ttm_base.specs.declared.BufId.{BufId}
use Rattle.ttm_base.specs.declared.PagePlace.{PagePlace}
use Rattle.journal_model.specs.declared.script.Script.{Script}
use Rattle.journal_model.specs.declared.script.Mark.{Mark}
use Rattle.journal_model.specs.declared.script.MarkKind.TheVariants as mark
use Rattle.journal_model.specs.rules.State.{same_buffer}
use Rattle.journal_model.specs.rules.Commands.{decl}
use Rattle.cpu_maps.specs.declared.area.Area.{Area}

-- ---- one mapping

-- a mapping without an entry
abbrev pub empty_area : ℕ → BufId → ℕ → Area
empty_area thread b pages = record { thread = thread; b = b; entries = replicate pages None }

-- whether it is a mapping of the buffer by the thread
abbrev pub is_of : ℕ → BufId → Area → Bool
is_of thread b area = (area.thread == thread) && same_buffer area.b b

-- the entry of a page
abbrev pub entry_of : ℕ → Area → Option PagePlace
entry_of page area = unwrap_or (slice_get area.entries page) None

-- the mapping with another entry for a page, or none
abbrev pub with_entry : ℕ → Option PagePlace → Area → Area
with_entry page entry area = record area { entries = slice_set area.entries page entry }

-- the mapping without entries
abbrev pub emptied : Area → Area
emptied area = record area { entries = map (λ entry. None) area.entries }

-- the mapping after an access of the thread has found a page of the buffer at a place
abbrev pub with_fault : ℕ → BufId → ℕ → PagePlace → Area → Area
with_fault thread b page place area = if is_of thread b area then with_entry page (Some place) area else area

-- the mapping after a page of the buffer has left its place
abbrev pub without_page : BufId → ℕ → Area → Area
without_page b page area = if same_buffer area.b b then with_entry page None area else area

-- the mapping after the buffer has left its place
abbrev pub without_buffer : BufId → Area → Area
without_buffer b area = if same_buffer area.b b then emptied area else area

-- the mapping after the thread has unmapped the buffer
abbrev pub unmapped : ℕ → BufId → Area → Area
unmapped thread b area = if is_of thread b area then emptied area else area

-- ---- all mappings

-- the entry that a thread's mapping of a buffer has for a page
abbrev pub entry_in : List Area → ℕ → BufId → ℕ → Option PagePlace
entry_in areas thread b page = option_and_then (entry_of page) (find (is_of thread b) areas)

-- the mappings with one more, unless the thread already has one of the buffer
abbrev pub with_area : ℕ → BufId → ℕ → List Area → List Area
with_area thread b pages areas = if list_any (is_of thread b) areas then areas else areas ++ empty_area thread b pages ∷ []

-- the mappings with that of a line that maps a buffer
abbrev pub with_mark : Script → List Area → Mark → List Area
with_mark script areas m = elim m.kind [ mark.Map b ↦ with_area m.thread b (decl script b).pages areas | _ ↦ areas ]

-- the mappings of a script at its start
abbrev pub areas_of : Script → List Area
areas_of script = fold (with_mark script) [] script.marks
