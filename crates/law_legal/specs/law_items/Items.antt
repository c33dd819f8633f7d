-- The lines of a thread as a list: each is a mark with a line of its own, or a command and how it is written.
use Rattle.std.specs.Prelude.{◌≡◌, ℕ, ◌+◌, Bool, true, false, List, [], ◌∷◌, ◌++◌, Some, None, ◌==◌, ◌&&◌, codes, filter_map, flat_map, fold, map, slice_get}
use Rattle.std.specs.List.{list_any}
use Rattle.journal_model.specs.declared.script.Script.{Script}
use Rattle.journal_model.specs.declared.script.Command.{Command}
use Rattle.journal_model.specs.declared.script.Mark.{Mark}
use Rattle.journal_model.specs.declared.script.MarkKind.{MarkKind}
use Rattle.journal_model.specs.scripts.Words.{Text, line}
use Rattle.journal_model.specs.marks.Marks.{addressed, is_mapped}
use Rattle.journal_model.specs.scripts.MarkRules.{ThreadMappings, empty_thread_mappings, thread_mappings_after, is_mark, is_way}
use Rattle.journal_model.specs.scripts.Spelling.{addressed_words, command_words, mapped_words, mark_line}

-- a line of a thread: a mark with a line of its own, or a command and the marks that say how it is written
pub data Item : Type 0 where
  Alone : MarkKind → Item
  Asks : List MarkKind → Command → Item

-- the commands of a thread
abbrev pub commands_in : List Item → List Command
commands_in [] = []
commands_in (Alone m ∷ items) = commands_in items
commands_in (Asks ways c ∷ items) = c ∷ commands_in items

-- what the marks of a line say
abbrev pub kinds_in : Item → List MarkKind
kinds_in (Alone m) = m ∷ []
kinds_in (Asks ways c) = ways

-- ---- marks with their places

-- a mark after n commands of a thread
abbrev pub mark_at : ℕ → ℕ → MarkKind → Mark
mark_at thread n kind = record { thread = thread; after = n; kind = kind }

-- the marks of a thread from command number n on
abbrev pub marks_in : ℕ → ℕ → List Item → List Mark
marks_in thread n [] = []
marks_in thread n (Alone m ∷ items) = mark_at thread n m ∷ marks_in thread n items
marks_in thread n (Asks ways c ∷ items) = map (mark_at thread n) ways ++ marks_in thread (n + 1) items

-- the marks of all threads from the thread of this number on
abbrev pub numbered : ℕ → List (List Item) → List Mark
numbered thread [] = []
numbered thread (items ∷ lists) = marks_in thread 0 items ++ numbered (thread + 1) lists

-- the script has these lines in its threads
pub record ComesFrom (script : Script) (lists : List (List Item)) : Type 0 where
  pub threads : script.threads ≡ map commands_in lists
  pub marks : script.marks ≡ numbered 1 lists

-- the script with these lines in its threads
abbrev pub with_items : Script → List (List Item) → Script
with_items script lists = record script { threads = map commands_in lists; marks = numbered 1 lists }

-- ---- the text

-- a command in the way in which these marks say that it is written
abbrev pub written : Script → List MarkKind → Command → Text
written script ways c =
    line (elim (slice_get (filter_map addressed ways) 0) [
      | Some vs ↦ addressed_words script vs c
      | None ↦ elim (list_any is_mapped ways) [ true ↦ mapped_words script c | false ↦ command_words script c ]
    ])

-- the text of a line
abbrev pub item_text : Script → Item → Text
item_text script (Alone m) = mark_line script m
item_text script (Asks ways c) = written script ways c

-- the lines of a thread
abbrev pub items_text : Script → List Item → Text
items_text script items = line (codes "thread" ∷ []) ++ flat_map (item_text script) items

-- ---- the rules

-- what the thread has mapped after a line
abbrev pub thread_mappings_behind : ThreadMappings → Item → ThreadMappings
thread_mappings_behind d item = fold thread_mappings_after d (kinds_in item)

-- what the thread has mapped after all its lines
abbrev pub thread_mappings_of : List Item → ThreadMappings
thread_mappings_of items = fold thread_mappings_behind empty_thread_mappings items

-- the line may stand where the thread has this mapped; a script of version 1 has no marks
abbrev pub item_fits : Script → ThreadMappings → Item → Bool
item_fits script d (Alone m) = (script.version == 2) && is_mark script d m
item_fits script d (Asks [] c) = true
item_fits script d (Asks (way ∷ []) c) = (script.version == 2) && is_way d way (Some c)
item_fits script d (Asks (way ∷ other ∷ ways) c) = false

-- a test of each line, by what is mapped there
abbrev pub all_along : (ThreadMappings → Item → Bool) → ThreadMappings → List Item → Bool
all_along test d [] = true
all_along test d (item ∷ items) = test d item && all_along test (thread_mappings_behind d item) items

-- the lines of a thread keep the rules of marks
abbrev pub items_fit : Script → List Item → Bool
items_fit script items = all_along (item_fits script) empty_thread_mappings items
