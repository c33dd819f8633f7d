-- The first broken line of bytes, and on it the least broken rule.
use Rattle.std.specs.Prelude.{ℕ, ◌+◌, ◌-◌, Bool, true, false, List, [], ◌∷◌, ◌++◌, Option, Some, None, Result, Ok, Err, length, take, map, unwrap_or, slice_get, slice_set, ◌==◌, ◌||◌, not, nat_lt, if◌then◌else◌}
use Rattle.std.specs.List.{list_any}
use Rattle.journal_model.specs.Types.{Actor, BufId, Command, Decl, FlaggedPlace, Mark, MarkKind, Op, Script, Sizes}
use Rattle.journal_model.specs.Limits.{max_script_bytes}
use Rattle.ttm_base.specs.declared.Op.TheVariants as op
use Rattle.ttm_base.specs.declared.Actor.TheVariants as actor
use Rattle.ttm_base.specs.declared.Mem.TheVariants.{System}
use Rattle.journal_model.specs.declared.script.Command.TheVariants as command
use Rattle.journal_model.specs.declared.script.MarkKind.TheVariants as mark
use Rattle.journal_model.specs.declared.line.Progress.{Progress}
use Rattle.journal_model.specs.declared.line.Phase.{Phase}
use Rattle.journal_model.specs.declared.line.Phase.TheVariants as phase
use Rattle.journal_model.specs.declared.line.Line.{Line}
use Rattle.journal_model.specs.declared.line.Line.TheVariants as line
use Rattle.journal_model.specs.declared.line.Access.{Access}
use Rattle.journal_model.specs.declared.line.Access.TheVariants as access
use Rattle.journal_model.specs.declared.line.Verb.{Verb}
use Rattle.journal_model.specs.declared.line.Verb.TheVariants as verb
use Rattle.journal_model.specs.declared.line.BufferHead.{BufferHead}
use Rattle.journal_model.specs.declared.line.PlaceWord.{PlaceWord}
use Rattle.journal_model.specs.declared.line.PlaceWord.TheVariants as place_word
use Rattle.journal_model.specs.declared.line.ActorWord.{ActorWord}
use Rattle.journal_model.specs.declared.line.ActorWord.TheVariants as actor_word
use Rattle.journal_model.specs.declared.line.EngineWord.{EngineWord}
use Rattle.journal_model.specs.declared.line.EngineWord.TheVariants as engine_word
use Rattle.journal_model.specs.declared.line.OpWord.{OpWord}
use Rattle.journal_model.specs.declared.line.OpWord.TheVariants as op_word
use Rattle.journal_model.specs.declared.line.VOpWord.{VOpWord}
use Rattle.journal_model.specs.scripts.Words.{Text}
use Rattle.journal_model.specs.scripts.Cut.{cut_at, lines_of}
use Rattle.journal_model.specs.scripts.LineWords.{keyword_of, may_come, line_of}
use Rattle.journal_model.specs.scripts.LineRules.{rule_broken, lens_of_line, vop_in, named_job}
use Rattle.journal_model.specs.rules.Commands.{commands_of}
use Rattle.journal_model.specs.scripts.MarkRules.{thread_mappings_at_end}
use Rattle.journal_model.specs.scripts.CommandRules.{is_between}

-- ---- the parts of a line
-- A line in which a part is missing breaks one of the rules 4 to 11 and is read no further: so it doesn't matter what the functions
-- of this block, `op_in` and `unwrap_or` below give for such a part.

-- the number, or 0
abbrev pub or_zero : Option ℕ → ℕ
or_zero n = unwrap_or n 0

-- the buffer, or the first one
abbrev pub or_first : Option BufId → BufId
or_first b = unwrap_or b (record { 0 = 0 })

-- all of SYSTEM
abbrev pub no_place : FlaggedPlace
no_place = record { place = record { mem = System; first = 0; last = 0; topdown = false; contig = false }; desired = false; fallback = false }

-- the place of a word, or all of SYSTEM
abbrev pub place_in : PlaceWord → FlaggedPlace
place_in (place_word.Is f) = f
place_in _ = no_place

-- the actor of a word, or the reaper
abbrev pub actor_in : ActorWord → Actor
actor_in (actor_word.Is who) = who
actor_in _ = actor.Reaper

-- the engine of a word, or 0
abbrev pub engine_in : EngineWord → ℕ
engine_in (engine_word.Is engine) = engine
engine_in _ = 0

-- ---- what a line that breaks no rule says

-- a place of the list that is wanted, in version 1
abbrev pub wanted : PlaceWord → FlaggedPlace
wanted w = record { place = (place_in w).place; desired = true; fallback = false }

-- a place of the list for busy memory, in version 1
abbrev pub taken_under_pressure : PlaceWord → FlaggedPlace
taken_under_pressure w = record { place = (place_in w).place; desired = false; fallback = true }

-- the declaration of a buffer line
abbrev pub decl_of : BufferHead → List FlaggedPlace → Decl
decl_of h list =
    record { name = h.name; pages = or_zero h.pages; prio = or_zero h.prio; group = unwrap_or h.group None; align = or_zero h.align; placement = record { list = list } }

-- the operation of its words
abbrev pub op_in : OpWord → Op
op_in (op_word.Fill dst off len byte) = op.Fill (or_first dst) (or_zero off) (or_zero len) (or_zero byte)
op_in (op_word.Copy dst doff src soff len) = op.Copy (or_first dst) (or_zero doff) (or_first src) (or_zero soff) (or_zero len)
op_in (op_word.Xor dst doff src soff len) = op.Xor (or_first dst) (or_zero doff) (or_first src) (or_zero soff) (or_zero len)
op_in (op_word.Probe src off len) = op.Probe (or_first src) (or_zero off) (or_zero len)
op_in op_word.Malformed = op.Probe (record { 0 = 0 }) 0 0

-- a command that names a buffer and nothing else
abbrev pub plain_command : Verb → BufId → Command
plain_command verb.New b = command.New b
plain_command verb.Free b = command.Free b
plain_command verb.Pin b = command.Pin b
plain_command verb.Unpin b = command.Unpin b
plain_command verb.Find b = command.Find b
plain_command verb.SwapOut b = command.SwapOut b

-- ---- the lines so far, with one more

-- the next phase and other sizes
abbrev pub with_sizes : Progress → Phase → Sizes → Progress
with_sizes p next sizes = record p { phase = next; script = record (p.script) { sizes = sizes } }

-- one more buffer
abbrev pub with_buffer : Progress → Decl → Progress
with_buffer p d = record p { script = record (p.script) { buffers = p.script.buffers ++ d ∷ [] } }

-- the last list, with one more at its end
abbrev pub onto_last : {X : Type 0} → X → List (List X) → List (List X)
onto_last x lists = elim (slice_get lists (length lists - 1)) [ Some xs ↦ slice_set lists (length lists - 1) (xs ++ x ∷ []) | None ↦ lists ]

-- one more command of the thread at work
abbrev pub with_command : Progress → Command → Progress
with_command p c = record p { script = record (p.script) { threads = onto_last c p.script.threads }; lines = p.lines + 1 }

-- a mark after the commands so far of the thread at work
abbrev pub mark_here : Script → MarkKind → Mark
mark_here script kind =
    record { thread = length script.threads; after = length (commands_of script (length script.threads)); kind = kind }

-- one more mark
abbrev pub with_mark : Progress → MarkKind → Progress
with_mark p kind = record p { script = record (p.script) { marks = p.script.marks ++ mark_here p.script kind ∷ [] } }

-- one more mark, which has a line of its own
abbrev pub with_mark_line : Progress → MarkKind → Progress
with_mark_line p kind = record (with_mark p kind) { lines = p.lines + 1 }

-- the mark of a peek or poke
abbrev pub with_access : Progress → Access → Progress
with_access p access.Direct = p
with_access p access.Mapped = with_mark p mark.Mapped

-- one more job of the thread at work, and its lengths
abbrev pub with_submit : Progress → Command → ℕ → Progress
with_submit p c lens = record p { script = record (p.script) { threads = onto_last c p.script.threads }; lines = p.lines + 1; lens = p.lens + lens }

-- the operations of the job by name
abbrev pub named_ops : Script → List VOpWord → List Op
named_ops script ops = unwrap_or (named_job (thread_mappings_at_end script) ops) []

-- what the lines say, with a line that breaks no rule
abbrev pub with_line : Progress → Line → Progress
with_line p (line.Version version) = record p { phase = phase.Vram; script = record (p.script) { version = version } }
with_line p (line.Vram buddy size) = with_sizes p phase.Tt (record (p.script.sizes) { buddy = buddy; vram = or_zero size })
with_line p (line.Tt size) = with_sizes p phase.Frames (record (p.script.sizes) { tt = or_zero size })
with_line p (line.Frames size) = with_sizes p phase.Swap (record (p.script.sizes) { frames = or_zero size })
with_line p (line.Swap size) = with_sizes p phase.Engines (record (p.script.sizes) { swap = or_zero size })
with_line p (line.Engines size) = with_sizes p phase.Buffers (record (p.script.sizes) { engines = or_zero size })
with_line p (line.Buffer head want busy) = with_buffer p (decl_of head (map wanted want ++ map taken_under_pressure busy))
with_line p (line.Placed head list) = with_buffer p (decl_of head (map place_in list))
with_line p line.Thread = record p { phase = phase.Threads; script = record (p.script) { threads = p.script.threads ++ [] ∷ [] }; lines = 0 }
with_line p (line.Turn actors) = record p { phase = phase.Turns; script = record (p.script) { turns = p.script.turns ++ map actor_in actors ∷ [] } }
with_line p line.End = record p { phase = phase.After }
with_line p (line.Plain verb b) = with_command p (plain_command verb (or_first b))
with_line p (line.Write how b off bytes) = with_command (with_access p how) (command.Write (or_first b) (or_zero off) (unwrap_or bytes []))
with_line p (line.Read how b off len) = with_command (with_access p how) (command.Read (or_first b) (or_zero off) (or_zero len))
with_line p (line.Move b mem) = with_command p (command.Move (or_first b) mem)
with_line p (line.Touch group) = with_command p (command.Touch (or_zero group))
with_line p (line.Submit engine ops) = with_submit p (command.Submit (engine_in engine) (map op_in ops)) (lens_of_line (line.Submit engine ops))
with_line p (line.Map b) = with_mark_line p (mark.Map (or_first b))
with_line p (line.Unmap b) = with_mark_line p (mark.Unmap (or_first b))
with_line p (line.Vmap va n b off) = with_mark_line p (mark.Vmap (or_zero va) (or_zero n) (or_first b) (or_zero off))
with_line p (line.Vunmap va n) = with_mark_line p (mark.Vunmap (or_zero va) (or_zero n))
with_line p (line.Vsubmit engine ops) =
    with_submit (with_mark p (mark.Vsubmit (map vop_in ops))) (command.Submit (engine_in engine) (named_ops p.script ops)) (lens_of_line (line.Vsubmit engine ops))

-- ---- a line: rule 2 is on its bytes, rule 3 on its first word, rule 4 on its number of words and fixed words

-- a byte that may stand in a line
abbrev pub is_shown : ℕ → Bool
is_shown b = is_between 32 126 b

-- the line without its last byte
abbrev pub without_end : Text → Text
without_end text = take (length text - 1) text

-- the byte is a line feed
abbrev pub is_line_feed : Option ℕ → Bool
is_line_feed (Some b) = b == 10
is_line_feed None = false

-- the last byte is a line feed
abbrev pub ends_line : Text → Bool
ends_line text = is_line_feed (slice_get text (length text - 1))

-- rule 2: a line is empty, has other bytes than those that show, or lacks its line feed
abbrev pub breaks_text : Text → Bool
breaks_text text = not (ends_line text) || nat_lt (length text) 2 || list_any (λ b. not (is_shown b)) (without_end text)

-- the first word, which is empty where there is none
abbrev pub first_word : List Text → Text
first_word [] = []
first_word (w ∷ ws) = w

-- the lines so far, or the rule
abbrev pub unless_broken : Option ℕ → Progress → Result Progress ℕ
unless_broken None p = Ok p
unless_broken (Some rule) p = Err rule

-- rule 4 where the words make no line, or else the least rule that the line breaks
abbrev pub fault_of_parts : Progress → Option Line → Result Progress ℕ
fault_of_parts p None = Err 4
fault_of_parts p (Some l) = unless_broken (rule_broken p l) (with_line p l)

-- the lines so far with this line, or the least rule that it breaks
abbrev pub after_words : Progress → List Text → Result Progress ℕ
after_words p ws =
    if not (may_come p.script.version p.phase (keyword_of (first_word ws))) then Err 3
    else fault_of_parts p (line_of p.script (keyword_of (first_word ws)) ws)

-- the same for the text of a line
abbrev pub after_line : Progress → Text → Result Progress ℕ
after_line p text = if breaks_text text then Err 2 else after_words p (cut_at 32 (without_end text))

-- ---- all lines

-- before the first line
abbrev pub nothing_read : Progress
nothing_read =
    record {
      phase = phase.Version;
      script = record { version = 1; sizes = record { buddy = false; vram = 0; tt = 0; frames = 0; swap = 0; engines = 0 }; buffers = []; threads = []; turns = []; marks = [] };
      lines = 0;
      lens = 0;
    }

-- the last line has come
abbrev pub is_behind_end : Phase → Bool
is_behind_end phase.After = true
is_behind_end _ = false

-- the script of the lines from number n + 1 on, or the first broken line and its rule
abbrev pub script_from : Progress → ℕ → List Text → Result Script (ℕ × ℕ)
script_from p n [] = if is_behind_end p.phase then Ok p.script else Err (n + 1, 3)
script_from p n (text ∷ texts) = elim (after_line p text) [ Ok next ↦ script_from next (n + 1) texts | Err rule ↦ Err (n + 1, rule) ]

-- the script that the bytes say, or line and rule of the first fault: line 0 is the whole text, and 1 the first line
abbrev pub script_of : Text → Result Script (ℕ × ℕ)
script_of bytes = if nat_lt max_script_bytes (length bytes) then Err (0, 1) else script_from nothing_read 0 (lines_of bytes)

-- line and rule of bytes that are no script
abbrev pub first_fault : Text → Option (ℕ × ℕ)
first_fault bytes = elim (script_of bytes) [ Ok script ↦ None | Err fault ↦ Some fault ]
