-- What mappings know after a journal: the entries of the definition.
use Rattle.std.specs.Prelude.{◌≡◌, ℕ, ◌<◌, Bool, true, false, List, Option, Some, None, ◌==◌, ◌&&◌, find, fold, length, option_and_then, option_map}
use Rattle.std.specs.List.{list_any}
use Rattle.ttm_base.specs.declared.Actor.TheVariants as actor
use Rattle.ttm_base.specs.declared.BufId.{BufId}
use Rattle.ttm_base.specs.Pages.{Page}
use Rattle.journal_model.specs.declared.script.Script.{Script}
use Rattle.journal_model.specs.declared.script.Mark.{Mark}
use Rattle.journal_model.specs.declared.script.MarkKind.TheVariants as mark
use Rattle.journal_model.specs.declared.entry.Entry.{Entry}
use Rattle.journal_model.specs.statements.Complete.{is_answer}
use Rattle.journal_model.specs.rules.Commands.{decl}
use Rattle.journal_model.specs.rules.Legal.{Made}
use Rattle.journal_model.specs.marks.Mapped.{Mapping, count_answers, entry_after, mapped_entry, mapping_at}
use Rattle.journal_model.specs.rules.State.{same_buffer}
use Rattle.cpu_maps.specs.declared.area.Area.{Area}
use Rattle.cpu_maps.specs.Areas.{entry_in, is_of}
use Rattle.law_legal.specs.law_maps.Following.{page_there}

-- the mapping of buffer `b` by the thread that stands after `n` of its commands
abbrev pub standing : Script → ℕ → ℕ → BufId → Option Mapping
standing script thread n b = mapping_at script thread n (record { b = b; off = 0; len = 0 })

-- the entry that the thread's mapping has for page `i` of buffer `b` after a journal
abbrev pub known : Script → List Made → ℕ → BufId → ℕ → Option Page
known script made thread b i = option_and_then (λ m. mapped_entry script made m i) (standing script thread (count_answers thread made) b)

-- the areas have the entries that a journal gives the mappings that stand, and no others
abbrev pub KnowExactly : Script → List Made → List Area → Type 0
KnowExactly script made areas = (thread : ℕ) (b : BufId) (i : ℕ) → option_map page_there (entry_in areas thread b i) ≡ known script made thread b i

-- ---- what else stays so, entry by entry

-- the line maps the buffer for the thread
abbrev pub maps_for : ℕ → BufId → Mark → Bool
maps_for thread b m = (m.thread == thread) && elim m.kind [ mark.Map c ↦ same_buffer b c | _ ↦ false ]

-- the number of pages for which the thread's mapping of buffer `b` has room
abbrev pub room_of : ℕ → BufId → List Area → Option ℕ
room_of thread b areas = option_map (λ a. length a.entries) (find (is_of thread b) areas)

-- there is room for each page of a buffer that a line maps
abbrev pub HaveRoom : Script → List Area → Type 0
HaveRoom script areas = (thread : ℕ) (b : BufId) → list_any (maps_for thread b) script.marks ≡ true → room_of thread b areas ≡ Some (decl script b).pages

-- the entry of a page of a mapping that hasn't ended
abbrev pub entry_along : Script → Mapping → ℕ → List Made → Option Page
entry_along script m i made = fold (λ old e. entry_after script m i e e.entry.kind old) None made

-- a mapping that begins later has no entry
abbrev pub AreUnborn : Script → List Made → Type 0
AreUnborn script made = (m : Mapping) (i : ℕ) → count_answers m.thread made < m.from → entry_along script m i made ≡ None

-- the areas follow a journal
pub record Follows (script : Script) (made : List Made) (areas : List Area) : Type 0 where
  pub know : KnowExactly script made areas
  pub room : HaveRoom script areas
  pub unborn : AreUnborn script made

-- ---- the thread that an entry answers

abbrev pub answerer : Entry → Option ℕ
answerer e = elim e.who [
  | actor.Thread t ↦ elim (is_answer e.kind) [ true ↦ Some t | false ↦ None ]
  | actor.Engine c ↦ None
  | actor.Reaper ↦ None
]
