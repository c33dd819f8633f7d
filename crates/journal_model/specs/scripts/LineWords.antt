-- A line by its words: which keyword it has, and each word as what must stand there.
use Rattle.std.specs.Prelude.{ℕ, Bool, true, false, List, [], ◌∷◌, Option, Some, None, option_map, length, map, bytes_eq, codes, ◌==◌, ◌&&◌, ◌||◌, not, if◌then◌else◌}
use Rattle.std.specs.List.{list_any}
use Rattle.journal_model.specs.Types.{BufId, Script}
use Rattle.journal_model.specs.Limits.{max_align, max_buffer_pages, max_engines, max_line_actors, max_memory_pages, max_priority, max_slots}
use Rattle.journal_model.specs.declared.line.Line.{Line}
use Rattle.journal_model.specs.declared.line.Line.TheVariants as line
use Rattle.journal_model.specs.declared.line.Keyword.{Keyword}
use Rattle.journal_model.specs.declared.line.Keyword.TheVariants as key
use Rattle.journal_model.specs.declared.line.Access.{Access}
use Rattle.journal_model.specs.declared.line.Access.TheVariants as access
use Rattle.journal_model.specs.declared.line.Verb.{Verb}
use Rattle.journal_model.specs.declared.line.Verb.TheVariants as verb
use Rattle.journal_model.specs.declared.line.Phase.{Phase}
use Rattle.journal_model.specs.declared.line.Phase.TheVariants as phase
use Rattle.journal_model.specs.declared.line.BufferHead.{BufferHead}
use Rattle.journal_model.specs.declared.line.EngineWord.{EngineWord}
use Rattle.journal_model.specs.declared.line.OpWord.{OpWord}
use Rattle.journal_model.specs.declared.line.OpWord.TheVariants as op_word
use Rattle.journal_model.specs.declared.line.VOpWord.{VOpWord}
use Rattle.journal_model.specs.declared.line.VOpWord.TheVariants as vop_word
use Rattle.journal_model.specs.declared.line.ActorWord.{ActorWord}
use Rattle.journal_model.specs.declared.line.ActorWord.TheVariants as actor_word
use Rattle.journal_model.specs.scripts.Words.{Text}
use Rattle.journal_model.specs.scripts.Cut.{cut_by, is_semicolon}
use Rattle.journal_model.specs.scripts.Reading.{number_in, group_of, offset_of, address_of, names_of, known, bytes_in_hex, byte_in_hex, mem_of, places_of, engine_word_of, actor_of}
use Rattle.journal_model.specs.scripts.CommandRules.{is_between}

-- ---- keywords

-- a command that names a buffer and nothing else
abbrev pub verb_of : Text → Option Verb
verb_of w =
    if bytes_eq w (codes "new") then Some verb.New
    else if bytes_eq w (codes "free") then Some verb.Free
    else if bytes_eq w (codes "pin") then Some verb.Pin
    else if bytes_eq w (codes "unpin") then Some verb.Unpin
    else if bytes_eq w (codes "find") then Some verb.Find
    else if bytes_eq w (codes "swapout") then Some verb.SwapOut
    else None

-- the word is no keyword where it is no verb
abbrev pub or_other : Option Verb → Keyword
or_other (Some v) = key.Plain v
or_other None = key.Other

-- the first word of a line on mappings by the CPU or on addresses, which version 1 doesn't have
abbrev pub mapping_keyword_of : Text → Keyword
mapping_keyword_of w =
    if bytes_eq w (codes "map") then key.Map
    else if bytes_eq w (codes "unmap") then key.Unmap
    else if bytes_eq w (codes "peek") then key.Read access.Mapped
    else if bytes_eq w (codes "poke") then key.Write access.Mapped
    else if bytes_eq w (codes "vmap") then key.Vmap
    else if bytes_eq w (codes "vunmap") then key.Vunmap
    else if bytes_eq w (codes "vsubmit") then key.Vsubmit
    else or_other (verb_of w)

-- the first word of a command
abbrev pub command_keyword_of : Text → Keyword
command_keyword_of w =
    if bytes_eq w (codes "write") then key.Write access.Direct
    else if bytes_eq w (codes "read") then key.Read access.Direct
    else if bytes_eq w (codes "move") then key.Move
    else if bytes_eq w (codes "touch") then key.Touch
    else if bytes_eq w (codes "submit") then key.Submit
    else mapping_keyword_of w

-- the first word of a line
abbrev pub keyword_of : Text → Keyword
keyword_of w =
    if bytes_eq w (codes "ttm") then key.Ttm
    else if bytes_eq w (codes "vram") then key.Vram
    else if bytes_eq w (codes "tt") then key.Tt
    else if bytes_eq w (codes "frames") then key.Frames
    else if bytes_eq w (codes "swap") then key.Swap
    else if bytes_eq w (codes "engines") then key.Engines
    else if bytes_eq w (codes "buffer") then key.Buffer
    else if bytes_eq w (codes "thread") then key.Thread
    else if bytes_eq w (codes "schedule") then key.Schedule
    else if bytes_eq w (codes "end") then key.End
    else command_keyword_of w

-- the lines that may come in each phase
abbrev pub may_follow : Phase → Keyword → Bool
may_follow phase.Version key.Ttm = true
may_follow phase.Vram key.Vram = true
may_follow phase.Tt key.Tt = true
may_follow phase.Frames key.Frames = true
may_follow phase.Swap key.Swap = true
may_follow phase.Engines key.Engines = true
may_follow phase.Buffers key.Buffer = true
may_follow phase.Buffers key.Thread = true
may_follow phase.Buffers key.Schedule = true
may_follow phase.Buffers key.End = true
may_follow phase.Threads key.Thread = true
may_follow phase.Threads key.Schedule = true
may_follow phase.Threads key.End = true
may_follow phase.Threads (key.Plain v) = true
may_follow phase.Threads (key.Write how) = true
may_follow phase.Threads (key.Read how) = true
may_follow phase.Threads key.Move = true
may_follow phase.Threads key.Touch = true
may_follow phase.Threads key.Submit = true
may_follow phase.Threads key.Map = true
may_follow phase.Threads key.Unmap = true
may_follow phase.Threads key.Vmap = true
may_follow phase.Threads key.Vunmap = true
may_follow phase.Threads key.Vsubmit = true
may_follow phase.Turns key.Schedule = true
may_follow phase.Turns key.End = true
may_follow _ _ = false

-- only version 2 has such lines
abbrev pub needs_version_two : Keyword → Bool
needs_version_two (key.Write access.Mapped) = true
needs_version_two (key.Read access.Mapped) = true
needs_version_two key.Map = true
needs_version_two key.Unmap = true
needs_version_two key.Vmap = true
needs_version_two key.Vunmap = true
needs_version_two key.Vsubmit = true
needs_version_two _ = false

-- the lines that may come in a version and phase
abbrev pub may_come : ℕ → Phase → Keyword → Bool
may_come version phase keyword = may_follow phase keyword && (not (needs_version_two keyword) || (version == 2))

-- ---- the parts of a line; None where the number of words or a fixed word is wrong

-- `ttm 1` or `ttm 2`
abbrev pub version_line : List Text → Option Line
version_line (w ∷ version ∷ []) =
    if bytes_eq version (codes "1") then Some (line.Version 1)
    else if bytes_eq version (codes "2") then Some (line.Version 2)
    else None
version_line _ = None

-- VRAM with its manager
abbrev pub vram_line : List Text → Option Line
vram_line (w ∷ kind ∷ size ∷ []) =
    if bytes_eq kind (codes "range") then Some (line.Vram false (number_in 0 max_memory_pages size))
    else if bytes_eq kind (codes "buddy") then Some (line.Vram true (number_in 0 max_memory_pages size))
    else None
vram_line _ = None

-- a keyword and a number
abbrev pub size_line : (Option ℕ → Line) → ℕ → List Text → Option Line
size_line made high (w ∷ size ∷ []) = Some (made (number_in 0 high size))
size_line made high _ = None

-- a buffer line up to its places
abbrev pub buffer_head_of : Text → Text → Text → Text → Text → BufferHead
buffer_head_of name pages prio group align =
    record { name = name; pages = number_in 1 max_buffer_pages pages; prio = number_in 0 max_priority prio; group = group_of group; align = number_in 1 max_align align }

-- the fixed words of a buffer line up to its places
abbrev pub has_head_words : Text → Text → Text → Bool
has_head_words a b c = bytes_eq a (codes "prio") && bytes_eq b (codes "group") && bytes_eq c (codes "align")

-- the lists of version 1
abbrev pub two_lists : Bool → BufferHead → Text → Text → Text → Text → Option Line
two_lists fits head d want e busy =
    if fits && bytes_eq d (codes "want") && bytes_eq e (codes "busy")
    then Some (line.Buffer head (places_of false want) (places_of false busy))
    else None

-- the list of version 2
abbrev pub list_of_version_two : Bool → BufferHead → Text → Text → Option Line
list_of_version_two fits head d list = if fits && bytes_eq d (codes "place") then Some (line.Placed head (places_of true list)) else None

-- what comes after the head: `want LIST busy LIST` in version 1, `place LIST` in version 2; `Reading` has the grammar of a list
abbrev pub lists_line : Bool → Bool → BufferHead → List Text → Option Line
lists_line two fits head (d ∷ want ∷ e ∷ busy ∷ []) = if two then None else two_lists fits head d want e busy
lists_line two fits head (d ∷ list ∷ []) = if two then list_of_version_two fits head d list else None
lists_line two fits head _ = None

-- a buffer line
abbrev pub buffer_line_of : Bool → List Text → Option Line
buffer_line_of two (w ∷ name ∷ pages ∷ a ∷ prio ∷ b ∷ group ∷ c ∷ align ∷ rest) =
    lists_line two (has_head_words a b c) (buffer_head_of name pages prio group align) rest
buffer_line_of two _ = None

-- a keyword and nothing else
abbrev pub alone : Line → List Text → Option Line
alone made (w ∷ []) = Some made
alone made _ = None

-- the word is no actor word
abbrev pub is_no_actor : ActorWord → Bool
is_no_actor actor_word.Malformed = true
is_no_actor _ = false

-- a schedule of 1 to 64 actor words
abbrev pub turn_of_actors : List ActorWord → Option Line
turn_of_actors actors = if is_between 1 max_line_actors (length actors) && not (list_any is_no_actor actors) then Some (line.Turn actors) else None

-- a schedule line
abbrev pub turn_line_of : ℕ → ℕ → List Text → Option Line
turn_line_of threads engines [] = None
turn_line_of threads engines (w ∷ ws) = turn_of_actors (map (actor_of threads engines) ws)

-- a command that names a buffer and nothing else
abbrev pub plain_line : List Text → Verb → List Text → Option Line
plain_line names v (w ∷ b ∷ []) = Some (line.Plain v (known names b))
plain_line names v _ = None

-- a write or poke
abbrev pub write_line : Access → List Text → List Text → Option Line
write_line how names (w ∷ b ∷ off ∷ bytes ∷ []) = Some (line.Write how (known names b) (offset_of off) (bytes_in_hex bytes))
write_line how names _ = None

-- a read or peek by its words
abbrev pub read_parts : Access → List Text → Text → Text → Text → Line
read_parts how names b off len = line.Read how (known names b) (offset_of off) (offset_of len)

-- a read or peek
abbrev pub read_line : Access → List Text → List Text → Option Line
read_line how names (w ∷ b ∷ off ∷ len ∷ []) = Some (read_parts how names b off len)
read_line how names _ = None

-- a move to a memory type
abbrev pub move_line : List Text → List Text → Option Line
move_line names (w ∷ b ∷ mem ∷ []) = option_map (λ m. line.Move (known names b) m) (mem_of mem)
move_line names _ = None

-- a touch of a group
abbrev pub touch_line : List Text → Option Line
touch_line (w ∷ group ∷ []) = Some (line.Touch (number_in 0 15 group))
touch_line _ = None

-- an operation by its words
abbrev pub op_of : List Text → List Text → OpWord
op_of names (w ∷ b ∷ off ∷ len ∷ []) =
    if bytes_eq w (codes "probe") then op_word.Probe (known names b) (offset_of off) (offset_of len) else op_word.Malformed
op_of names (w ∷ b ∷ off ∷ len ∷ byte ∷ []) =
    if bytes_eq w (codes "fill") then op_word.Fill (known names b) (offset_of off) (offset_of len) (byte_in_hex byte) else op_word.Malformed
op_of names (w ∷ d ∷ doff ∷ s ∷ soff ∷ len ∷ []) =
    if bytes_eq w (codes "copy") then op_word.Copy (known names d) (offset_of doff) (known names s) (offset_of soff) (offset_of len)
    else if bytes_eq w (codes "xor") then op_word.Xor (known names d) (offset_of doff) (known names s) (offset_of soff) (offset_of len)
    else op_word.Malformed
op_of names _ = op_word.Malformed

-- the words are no operation
abbrev pub is_no_op : OpWord → Bool
is_no_op op_word.Malformed = true
is_no_op _ = false

-- the operations of a job
abbrev pub op_words_of : List Text → List Text → List OpWord
op_words_of names ws = map (op_of names) (cut_by is_semicolon ws)

-- a job whose operations all have the right words
abbrev pub submit_of_ops : EngineWord → List OpWord → Option Line
submit_of_ops engine ops = if list_any is_no_op ops then None else Some (line.Submit engine ops)

-- a job
abbrev pub submit_line : List Text → ℕ → List Text → Option Line
submit_line names engines (w ∷ engine ∷ ws) = submit_of_ops (engine_word_of engines engine) (op_words_of names ws)
submit_line names engines _ = None

-- a map or unmap
abbrev pub named_line : (Option BufId → Line) → List Text → List Text → Option Line
named_line made names (w ∷ b ∷ []) = Some (made (known names b))
named_line made names _ = None

-- pages of the space from va on, the first of them a page of a buffer
abbrev pub vmap_line : List Text → List Text → Option Line
vmap_line names (w ∷ va ∷ n ∷ b ∷ off ∷ []) =
    Some (line.Vmap (number_in 0 1048575 va) (number_in 1 max_buffer_pages n) (known names b) (number_in 0 4095 off))
vmap_line names _ = None

-- pages of the space from va on
abbrev pub vunmap_line : List Text → Option Line
vunmap_line (w ∷ va ∷ n ∷ []) = Some (line.Vunmap (number_in 0 1048575 va) (number_in 1 max_buffer_pages n))
vunmap_line _ = None

-- an operation with addresses by its words
abbrev pub vop_of : List Text → VOpWord
vop_of (w ∷ addr ∷ len ∷ []) =
    if bytes_eq w (codes "probe") then vop_word.Probe (address_of addr) (offset_of len) else vop_word.Malformed
vop_of (w ∷ addr ∷ x ∷ y ∷ []) =
    if bytes_eq w (codes "fill") then vop_word.Fill (address_of addr) (offset_of x) (byte_in_hex y)
    else if bytes_eq w (codes "copy") then vop_word.Copy (address_of addr) (address_of x) (offset_of y)
    else if bytes_eq w (codes "xor") then vop_word.Xor (address_of addr) (address_of x) (offset_of y)
    else vop_word.Malformed
vop_of _ = vop_word.Malformed

-- the words are no operation with addresses
abbrev pub is_no_vop : VOpWord → Bool
is_no_vop vop_word.Malformed = true
is_no_vop _ = false

-- the operations of a job with addresses
abbrev pub vop_words_of : List Text → List VOpWord
vop_words_of ws = map vop_of (cut_by is_semicolon ws)

-- a job with addresses whose operations all have the right words
abbrev pub vsubmit_of_ops : EngineWord → List VOpWord → Option Line
vsubmit_of_ops engine ops = if list_any is_no_vop ops then None else Some (line.Vsubmit engine ops)

-- a job with addresses
abbrev pub vsubmit_line : ℕ → List Text → Option Line
vsubmit_line engines (w ∷ engine ∷ ws) = vsubmit_of_ops (engine_word_of engines engine) (vop_words_of ws)
vsubmit_line engines _ = None

-- the line of a keyword
abbrev pub parts_of : Script → Keyword → List Text → Option Line
parts_of script key.Ttm ws = version_line ws
parts_of script key.Vram ws = vram_line ws
parts_of script key.Tt ws = size_line line.Tt max_memory_pages ws
parts_of script key.Frames ws = size_line line.Frames max_memory_pages ws
parts_of script key.Swap ws = size_line line.Swap max_slots ws
parts_of script key.Engines ws = size_line line.Engines max_engines ws
parts_of script key.Buffer ws = buffer_line_of (script.version == 2) ws
parts_of script key.Thread ws = alone line.Thread ws
parts_of script key.Schedule ws = turn_line_of (length script.threads) script.sizes.engines ws
parts_of script key.End ws = alone line.End ws
parts_of script (key.Plain v) ws = plain_line (names_of script.buffers) v ws
parts_of script (key.Write how) ws = write_line how (names_of script.buffers) ws
parts_of script (key.Read how) ws = read_line how (names_of script.buffers) ws
parts_of script key.Move ws = move_line (names_of script.buffers) ws
parts_of script key.Touch ws = touch_line ws
parts_of script key.Submit ws = submit_line (names_of script.buffers) script.sizes.engines ws
parts_of script key.Map ws = named_line line.Map (names_of script.buffers) ws
parts_of script key.Unmap ws = named_line line.Unmap (names_of script.buffers) ws
parts_of script key.Vmap ws = vmap_line (names_of script.buffers) ws
parts_of script key.Vunmap ws = vunmap_line ws
parts_of script key.Vsubmit ws = vsubmit_line script.sizes.engines ws
parts_of script key.Other ws = None

-- nothing stands between two spaces
abbrev pub is_empty : Text → Bool
is_empty word = length word == 0

-- a wrong space leaves an empty word
abbrev pub line_of : Script → Keyword → List Text → Option Line
line_of script keyword ws = if list_any is_empty ws then None else parts_of script keyword ws
