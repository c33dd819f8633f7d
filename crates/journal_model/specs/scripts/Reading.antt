-- What a word says: a number, a name, bytes, a place, an actor.
use Rattle.std.specs.Prelude.{ℕ, ◌+◌, ◌-◌, ◌*◌, Bool, true, false, List, [], ◌∷◌, Option, Some, None, option_map, length, map, position, bytes_eq, codes, ◌==◌, ◌&&◌, ◌||◌, not, nat_lt, if◌then◌else◌}
use Rattle.std.specs.List.{list_all, join_with_byte}
use Rattle.journal_model.specs.Types.{BufId, Decl, Mem}
use Rattle.journal_model.specs.Limits.{max_memory_pages, max_offset}
use Rattle.ttm_base.specs.declared.Mem.TheVariants.{System, Tt, Vram}
use Rattle.ttm_base.specs.declared.Actor.TheVariants as actor
use Rattle.journal_model.specs.declared.line.Flags.{Flags}
use Rattle.journal_model.specs.declared.line.PlaceWord.{PlaceWord}
use Rattle.journal_model.specs.declared.line.PlaceWord.TheVariants as place_word
use Rattle.journal_model.specs.declared.line.ActorWord.{ActorWord}
use Rattle.journal_model.specs.declared.line.ActorWord.TheVariants as actor_word
use Rattle.journal_model.specs.declared.line.EngineWord.{EngineWord}
use Rattle.journal_model.specs.declared.line.EngineWord.TheVariants as engine_word
use Rattle.journal_model.specs.scripts.Words.{Text}
use Rattle.journal_model.specs.scripts.Cut.{cut_at}
use Rattle.journal_model.specs.scripts.CommandRules.{is_between}

-- ---- numbers

-- the number so far, and then the digits
abbrev pub read_on : ℕ → Text → ℕ
read_on n [] = n
read_on n (c ∷ cs) = read_on (10 * n + (c - 48)) cs

-- a decimal digit
abbrev pub is_digit : ℕ → Bool
is_digit c = is_between 48 57 c

-- no leading zero but for the zero itself
abbrev pub has_no_leading_zero : Text → Bool
has_no_leading_zero [] = false
has_no_leading_zero (c ∷ cs) = not (c == 48) || (length cs == 0)

-- a number in plain decimals
abbrev pub is_plain : Text → Bool
is_plain word = has_no_leading_zero word && list_all is_digit word

-- the number, where it is plain and in its range
abbrev pub number_in : ℕ → ℕ → Text → Option ℕ
number_in low high word = if is_plain word && is_between low high (read_on 0 word) then Some (read_on 0 word) else None

-- a dash, or one of sixteen groups
abbrev pub group_of : Text → Option (Option ℕ)
group_of word = if bytes_eq word (codes "-") then Some None else option_map Some (number_in 0 15 word)

-- an offset or a length
abbrev pub offset_of : Text → Option ℕ
offset_of word = number_in 0 max_offset word

-- an address of a space
abbrev pub address_of : Text → Option ℕ
address_of word = number_in 0 4294967295 word

-- ---- names

-- the declared names; the place of a name is the number of its buffer
abbrev pub names_of : List Decl → List Text
names_of buffers = map (λ d. d.name) buffers

-- the declared buffer of a name
abbrev pub known : List Text → Text → Option BufId
known names word = option_map (λ i. record { 0 = i }) (position (bytes_eq word) names)

-- ---- bytes

-- a lower-case digit of a byte
abbrev pub is_hex : ℕ → Bool
is_hex c = is_between 48 57 c || is_between 97 102 c

-- what the digit is worth
abbrev pub hex_value : ℕ → ℕ
hex_value c = if nat_lt c 97 then c - 48 else c - 87

-- the bytes of pairs of lower-case digits
abbrev pub bytes_in_hex : Text → Option (List ℕ)
bytes_in_hex [] = Some []
bytes_in_hex (c ∷ []) = None
bytes_in_hex (c ∷ d ∷ cs) = if is_hex c && is_hex d then option_map (λ bs. (hex_value c * 16 + hex_value d) ∷ bs) (bytes_in_hex cs) else None

-- a single byte
abbrev pub byte_in_hex : Text → Option ℕ
byte_in_hex (c ∷ d ∷ []) = if is_hex c && is_hex d then Some (hex_value c * 16 + hex_value d) else None
byte_in_hex _ = None

-- ---- memory types and places
--
--   LIST   PLACE , PLACE , ..          with a comma between each two, and no space
--   PLACE  MEM [@F-L] [+top] [+contig] [+desired | +fallback]
--   MEM    sys | tt | vram
--
-- The reach @F-L is that of tt and vram alone: plain numbers up to 16384, and L is greater than F, or 0 for the end of the memory type; `@0-0`
-- is taken as no reach. The flags stand in this order, each once at most, and the last two, of which one may stand, are those of version 2.
-- `place_word_of` cuts a word at each +, then what comes before the first + at each @, and what comes after the first @ at each dash.

-- a memory type
abbrev pub mem_of : Text → Option Mem
mem_of word =
    if bytes_eq word (codes "sys") then Some System
    else if bytes_eq word (codes "tt") then Some Tt
    else if bytes_eq word (codes "vram") then Some Vram
    else None

-- the flags of a place, in their order; a place of version 2 may end with a flag of its own
abbrev pub last_flags_of : Bool → Bool → Bool → List Text → Option Flags
last_flags_of two topdown contig [] = Some (record { topdown = topdown; contig = contig; desired = false; fallback = false })
last_flags_of two topdown contig (w ∷ []) =
    if two && bytes_eq w (codes "desired") then Some (record { topdown = topdown; contig = contig; desired = true; fallback = false })
    else if two && bytes_eq w (codes "fallback") then Some (record { topdown = topdown; contig = contig; desired = false; fallback = true })
    else None
last_flags_of two topdown contig (w ∷ x ∷ ws) = None

-- the flags from `contig` on
abbrev pub contig_flags_of : Bool → Bool → List Text → Option Flags
contig_flags_of two topdown [] = last_flags_of two topdown false []
contig_flags_of two topdown (w ∷ ws) =
    if bytes_eq w (codes "contig") then last_flags_of two topdown true ws else last_flags_of two topdown false (w ∷ ws)

-- the flags from `top` on
abbrev pub flags_of : Bool → List Text → Option Flags
flags_of two [] = contig_flags_of two false []
flags_of two (w ∷ ws) = if bytes_eq w (codes "top") then contig_flags_of two true ws else contig_flags_of two false (w ∷ ws)

-- a place by its memory type, the ends of its reach and its flags
abbrev pub flagged : Mem → ℕ → ℕ → Flags → PlaceWord
flagged mem first last f =
    place_word.Is (record { place = record { mem = mem; first = first; last = last; topdown = f.topdown; contig = f.contig }; desired = f.desired; fallback = f.fallback })

-- a place with a reach, by its two numbers; one that is missing isn't plain or is out of its range
abbrev pub ranged : Mem → Option ℕ → Option ℕ → Flags → PlaceWord
ranged mem (Some first) (Some last) f =
    if (last == 0 && not (first == 0)) || nat_lt first last then flagged mem first last f else place_word.Malformed
ranged mem _ _ f = place_word.BrokenNumber

-- SYSTEM has no pages of its own to reach
abbrev pub is_system : Mem → Bool
is_system System = true
is_system _ = false

-- a reach of two words, which stand both there
abbrev pub two_numbers_place : Mem → Text → Text → Flags → PlaceWord
two_numbers_place mem first last f =
    if is_system mem || (length first == 0) || (length last == 0) then place_word.Malformed
    else ranged mem (number_in 0 max_memory_pages first) (number_in 0 max_memory_pages last) f

-- the words of the reach, cut at each dash; there are two
abbrev pub reach_place : Mem → List Text → Flags → PlaceWord
reach_place mem (first ∷ last ∷ []) f = two_numbers_place mem first last f
reach_place mem _ f = place_word.Malformed

-- a memory type, and the reach where there is one
abbrev pub based_place : Option Mem → Option Text → Option Flags → PlaceWord
based_place (Some mem) None (Some f) = flagged mem 0 0 f
based_place (Some mem) (Some reach) (Some f) = reach_place mem (cut_at 45 reach) f
based_place _ _ _ = place_word.Malformed

-- what comes after the first @, by the words after it; a further @ is part of it
abbrev pub reach_of : List Text → Option Text
reach_of [] = None
reach_of (word ∷ words) = Some (join_with_byte 64 (word ∷ words))

-- the word before the flags, cut at each @; only the first stands before the reach
abbrev pub at_place : List Text → Option Flags → PlaceWord
at_place [] f = place_word.Malformed
at_place (mem ∷ words) f = based_place (mem_of mem) (reach_of words) f

-- a place, cut at each plus
abbrev pub plus_place : Bool → List Text → PlaceWord
plus_place two [] = place_word.Malformed
plus_place two (base ∷ flags) = at_place (cut_at 64 base) (flags_of two flags)

-- a place by its word
abbrev pub place_word_of : Bool → Text → PlaceWord
place_word_of two word = plus_place two (cut_at 43 word)

-- a list of places, with a comma between each two
abbrev pub places_of : Bool → Text → List PlaceWord
places_of two word = map (place_word_of two) (cut_at 44 word)

-- ---- engines and actors

-- a plain number that no engine or actor has is Missing, whatever it is
abbrev pub engine_word_of : ℕ → Text → EngineWord
engine_word_of engines word =
    if not (is_plain word) then engine_word.BrokenNumber
    else if is_between 1 engines (read_on 0 word) then engine_word.Is (read_on 0 word)
    else engine_word.Missing

-- the number after the t of a thread
abbrev pub thread_actor : ℕ → Text → ActorWord
thread_actor threads number =
    if not (is_plain number) then actor_word.BrokenNumber
    else if is_between 1 threads (read_on 0 number) then actor_word.Is (actor.Thread (read_on 0 number))
    else actor_word.Missing

-- the number after the e of an engine; engine 0 is the one that moves buffers
abbrev pub engine_actor : ℕ → Text → ActorWord
engine_actor engines number =
    if not (is_plain number) then actor_word.BrokenNumber
    else if is_between 0 engines (read_on 0 number) then actor_word.Is (actor.Engine (read_on 0 number))
    else actor_word.Missing

-- a thread, an engine or the reaper
abbrev pub actor_of : ℕ → ℕ → Text → ActorWord
actor_of threads engines [] = actor_word.Malformed
actor_of threads engines (c ∷ []) = if c == 114 then actor_word.Is actor.Reaper else actor_word.Malformed
actor_of threads engines (c ∷ d ∷ number) =
    if c == 116 then thread_actor threads (d ∷ number)
    else if c == 101 then engine_actor engines (d ∷ number)
    else actor_word.Malformed
