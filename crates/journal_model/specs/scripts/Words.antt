-- The words of scripts and reports, as bytes.
use Rattle.std.specs.Prelude.{ℕ, ◌/◌, ◌%◌, List, [], ◌∷◌, ◌++◌, flat_map, map, decimal, codes}
use Rattle.std.specs.List.{join_with_byte}
use Rattle.std.specs.Char.{digit_char}
use Rattle.journal_model.specs.Types.{Actor, BufId, Mem, Script, Span}
use Rattle.ttm_base.specs.declared.Mem.TheVariants.{System, Tt, Vram}
use Rattle.ttm_base.specs.declared.Actor.TheVariants as actor
use Rattle.journal_model.specs.rules.Commands.{decl}

-- bytes
abbrev pub Text : Type 0
Text = List ℕ

-- words with a space between each two
abbrev pub spaced : List Text → Text
spaced ws = join_with_byte 32 ws

-- items with a comma between each two, or a dash where there is none
abbrev pub listed : List Text → Text
listed [] = codes "-"
listed (w ∷ ws) = join_with_byte 44 (w ∷ ws)

-- words as a line
abbrev pub line : List Text → Text
line ws = spaced ws ++ 10 ∷ []

-- two lower-case digits
abbrev pub hex_byte : ℕ → Text
hex_byte b = digit_char (b / 16) ∷ digit_char (b % 16) ∷ []

-- bytes, each as two digits
abbrev pub hex : List ℕ → Text
hex bytes = flat_map hex_byte bytes

-- a memory type
abbrev pub mem_word : Mem → Text
mem_word System = codes "sys"
mem_word Tt = codes "tt"
mem_word Vram = codes "vram"

-- the first page, and the one after the last
abbrev pub span_word : Span → Text
span_word s = decimal s.start ++ codes "-" ++ decimal s.end

-- spans in a list
abbrev pub spans_word : List Span → Text
spans_word spans = listed (map span_word spans)

-- the declared name of a buffer
abbrev pub name_of : Script → BufId → Text
name_of script b = (decl script b).name

-- a thread
abbrev pub thread_word : ℕ → Text
thread_word thread = codes "t" ++ decimal thread

-- a thread, an engine or the reaper
abbrev pub actor_word : Actor → Text
actor_word (actor.Thread t) = thread_word t
actor_word (actor.Engine e) = codes "e" ++ decimal e
actor_word actor.Reaper = codes "r"

-- numbers in a list
abbrev pub numbers_word : List ℕ → Text
numbers_word ns = listed (map decimal ns)
