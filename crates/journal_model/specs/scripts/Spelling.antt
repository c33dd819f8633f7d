-- The one spelling of a script.
use Rattle.std.specs.Prelude.{ℕ, ◌+◌, Bool, true, false, List, [], ◌∷◌, ◌++◌, Option, Some, None, ◌==◌, ◌&&◌, not, flat_map, map, decimal, codes, if◌then◌else◌}
use Rattle.std.specs.List.{enumerate_from, join_with_byte}
use Rattle.journal_model.specs.Types.{Actor, Command, Decl, FlaggedPlace, MarkKind, Op, Place, Script}
use Rattle.ttm_base.specs.declared.Op.TheVariants as op
use Rattle.journal_model.specs.declared.script.Command.TheVariants as command
use Rattle.journal_model.specs.declared.script.MarkKind.TheVariants as mark
use Rattle.journal_model.specs.declared.space.VOp.{VOp}
use Rattle.journal_model.specs.declared.space.VOp.TheVariants as vop
use Rattle.ttm_base.specs.Placement.{first_places, forced_places}
use Rattle.journal_model.specs.scripts.Words.{Text, line, hex, hex_byte, mem_word, name_of, actor_word}
use Rattle.journal_model.specs.marks.Marks.{marks_at, is_mapped_at, vsubmit_at}

-- ---- places

-- a word that is written where a flag is set
abbrev pub flag : Bool → Text → Text
flag b word = if b then word else []

-- a range, unless it is all
abbrev pub reach_word : ℕ → ℕ → Text
reach_word first last = flag (not ((first == 0) && (last == 0))) (codes "@" ++ decimal first ++ codes "-" ++ decimal last)

-- a place without its flags
abbrev pub place_word : Place → Text
place_word p = mem_word p.mem ++ reach_word p.first p.last ++ flag p.topdown (codes "+top") ++ flag p.contig (codes "+contig")

-- ---- buffer lines

-- a place with its flags
abbrev pub flagged_word : FlaggedPlace → Text
flagged_word p = place_word p.place ++ flag p.desired (codes "+desired") ++ flag p.fallback (codes "+fallback")

-- joined by commas
abbrev pub words_of_places : List Text → Text
words_of_places ws = join_with_byte 44 ws

-- a group, or a dash
abbrev pub group_word : Option ℕ → Text
group_word None = codes "-"
group_word (Some g) = decimal g

-- in version 1 the desired places and then the fallback places, in version 2 one list with flags
abbrev pub placement_words : ℕ → List FlaggedPlace → List Text
placement_words version list =
    if version == 1
    then codes "want" ∷ words_of_places (map place_word (first_places list)) ∷ codes "busy" ∷ words_of_places (map place_word (forced_places list)) ∷ []
    else codes "place" ∷ words_of_places (map flagged_word list) ∷ []

-- a declared buffer
abbrev pub buffer_line : ℕ → Decl → Text
buffer_line version d =
    line (codes "buffer" ∷ d.name ∷ decimal d.pages ∷ codes "prio" ∷ decimal d.prio ∷ codes "group" ∷ group_word d.group
    ∷ codes "align" ∷ decimal d.align ∷ placement_words version d.placement.list)

-- ---- operations

-- an operation by name
abbrev pub op_words : Script → Op → List Text
op_words script (op.Fill dst off len byte) = codes "fill" ∷ name_of script dst ∷ decimal off ∷ decimal len ∷ hex_byte byte ∷ []
op_words script (op.Copy dst doff src soff len) =
    codes "copy" ∷ name_of script dst ∷ decimal doff ∷ name_of script src ∷ decimal soff ∷ decimal len ∷ []
op_words script (op.Xor dst doff src soff len) =
    codes "xor" ∷ name_of script dst ∷ decimal doff ∷ name_of script src ∷ decimal soff ∷ decimal len ∷ []
op_words script (op.Probe src off len) = codes "probe" ∷ name_of script src ∷ decimal off ∷ decimal len ∷ []

-- an operation with addresses
abbrev pub vop_words : VOp → List Text
vop_words (vop.Fill addr len byte) = codes "fill" ∷ decimal addr ∷ decimal len ∷ hex_byte byte ∷ []
vop_words (vop.Copy addr from len) = codes "copy" ∷ decimal addr ∷ decimal from ∷ decimal len ∷ []
vop_words (vop.Xor addr from len) = codes "xor" ∷ decimal addr ∷ decimal from ∷ decimal len ∷ []
vop_words (vop.Probe addr len) = codes "probe" ∷ decimal addr ∷ decimal len ∷ []

-- joined by a lone semicolon
abbrev pub parted : List (List Text) → List Text
parted [] = []
parted (ws ∷ []) = ws
parted (ws ∷ vs ∷ rest) = ws ++ codes ";" ∷ parted (vs ∷ rest)

-- ---- commands and marks

-- a command
abbrev pub command_words : Script → Command → List Text
command_words script (command.New b) = codes "new" ∷ name_of script b ∷ []
command_words script (command.Free b) = codes "free" ∷ name_of script b ∷ []
command_words script (command.Pin b) = codes "pin" ∷ name_of script b ∷ []
command_words script (command.Unpin b) = codes "unpin" ∷ name_of script b ∷ []
command_words script (command.Find b) = codes "find" ∷ name_of script b ∷ []
command_words script (command.SwapOut b) = codes "swapout" ∷ name_of script b ∷ []
command_words script (command.Write b off bytes) = codes "write" ∷ name_of script b ∷ decimal off ∷ hex bytes ∷ []
command_words script (command.Read b off len) = codes "read" ∷ name_of script b ∷ decimal off ∷ decimal len ∷ []
command_words script (command.Move b mem) = codes "move" ∷ name_of script b ∷ mem_word mem ∷ []
command_words script (command.Touch group) = codes "touch" ∷ decimal group ∷ []
command_words script (command.Submit engine ops) = codes "submit" ∷ decimal engine ∷ parted (map (op_words script) ops)

-- through a mapping a read is a peek and a write is a poke
abbrev pub mapped_words : Script → Command → List Text
mapped_words script (command.Read b off len) = codes "peek" ∷ name_of script b ∷ decimal off ∷ decimal len ∷ []
mapped_words script (command.Write b off bytes) = codes "poke" ∷ name_of script b ∷ decimal off ∷ hex bytes ∷ []
mapped_words script cmd = command_words script cmd

-- a job that was written with addresses
abbrev pub addressed_words : Script → List VOp → Command → List Text
addressed_words script vs (command.Submit engine ops) = codes "vsubmit" ∷ decimal engine ∷ parted (map vop_words vs)
addressed_words script vs cmd = command_words script cmd

-- a command as it is written
abbrev pub command_line : Script → ℕ → ℕ → Command → Text
command_line script thread n cmd =
    line (elim (vsubmit_at script thread n) [
      | Some vs ↦ addressed_words script vs cmd
      | None ↦ elim (is_mapped_at script thread n) [ true ↦ mapped_words script cmd | false ↦ command_words script cmd ]
    ])

-- a mark that has a line of its own
abbrev pub mark_line : Script → MarkKind → Text
mark_line script (mark.Map b) = line (codes "map" ∷ name_of script b ∷ [])
mark_line script (mark.Unmap b) = line (codes "unmap" ∷ name_of script b ∷ [])
mark_line script (mark.Vmap va n b off) =
    line (codes "vmap" ∷ decimal va ∷ decimal n ∷ name_of script b ∷ decimal off ∷ [])
mark_line script (mark.Vunmap va n) = line (codes "vunmap" ∷ decimal va ∷ decimal n ∷ [])
mark_line script mark.Mapped = []
mark_line script (mark.Vsubmit ops) = []

-- the marks between two commands
abbrev pub mark_lines : Script → ℕ → ℕ → Text
mark_lines script thread n = flat_map (mark_line script) (marks_at script thread n)

-- the commands from number n on, each after the marks above it
abbrev pub command_lines : Script → ℕ → ℕ → List Command → Text
command_lines script thread n [] = mark_lines script thread n
command_lines script thread n (cmd ∷ commands) =
    mark_lines script thread n ++ command_line script thread n cmd ++ command_lines script thread (n + 1) commands

-- a thread
abbrev pub thread_lines : Script → ℕ × List Command → Text
thread_lines script e = line (codes "thread" ∷ []) ++ command_lines script e.0 0 e.1

-- ---- the script

-- a schedule line
abbrev pub turn_line : List Actor → Text
turn_line actors = line (codes "schedule" ∷ map actor_word actors)

-- all lines in their order
abbrev pub spelling : Script → Text
spelling script =
    line (codes "ttm" ∷ decimal script.version ∷ [])
    ++ line (codes "vram" ∷ (if script.sizes.buddy then codes "buddy" else codes "range") ∷ decimal script.sizes.vram ∷ [])
    ++ line (codes "tt" ∷ decimal script.sizes.tt ∷ [])
    ++ line (codes "frames" ∷ decimal script.sizes.frames ∷ [])
    ++ line (codes "swap" ∷ decimal script.sizes.swap ∷ [])
    ++ line (codes "engines" ∷ decimal script.sizes.engines ∷ [])
    ++ flat_map (buffer_line script.version) script.buffers
    ++ flat_map (thread_lines script) (enumerate_from 1 script.threads)
    ++ flat_map turn_line script.turns
    ++ line (codes "end" ∷ [])
