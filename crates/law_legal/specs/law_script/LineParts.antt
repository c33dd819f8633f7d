-- Which lines have all their parts, and that no other line is read further: so what `with_line` puts in the place of a missing
-- part gets into no script.
use Rattle.std.specs.Prelude.{◌≡◌, Bool, true, false, List, Some, None, IsTrue, is_some, ◌&&◌}
use Rattle.std.specs.List.{list_all}
use Rattle.journal_model.specs.declared.line.Progress.{Progress}
use Rattle.journal_model.specs.declared.line.Line.{Line}
use Rattle.journal_model.specs.declared.line.Line.TheVariants as line
use Rattle.journal_model.specs.declared.line.BufferHead.{BufferHead}
use Rattle.journal_model.specs.declared.line.PlaceWord.{PlaceWord}
use Rattle.journal_model.specs.declared.line.PlaceWord.TheVariants as place_word
use Rattle.journal_model.specs.declared.line.ActorWord.{ActorWord}
use Rattle.journal_model.specs.declared.line.ActorWord.TheVariants as actor_word
use Rattle.journal_model.specs.declared.line.EngineWord.{EngineWord}
use Rattle.journal_model.specs.declared.line.EngineWord.TheVariants as engine_word
use Rattle.journal_model.specs.declared.line.OpWord.{OpWord}
use Rattle.journal_model.specs.declared.line.OpWord.TheVariants as op_word
use Rattle.journal_model.specs.declared.line.VOpWord.{VOpWord}
use Rattle.journal_model.specs.declared.line.VOpWord.TheVariants as vop_word
use Rattle.journal_model.specs.scripts.Words.{Text}
use Rattle.journal_model.specs.scripts.LineWords.{keyword_of, line_of}
use Rattle.journal_model.specs.scripts.LineRules.{rule_broken}
use Rattle.journal_model.specs.scripts.FirstFault.{first_word}

-- the word is a place
abbrev pub says_place : PlaceWord → Bool
says_place (place_word.Is f) = true
says_place _ = false

-- the word is an actor
abbrev pub says_actor : ActorWord → Bool
says_actor (actor_word.Is who) = true
says_actor _ = false

-- the word is an engine
abbrev pub says_engine : EngineWord → Bool
says_engine (engine_word.Is engine) = true
says_engine _ = false

-- the numbers of a buffer line before the places
abbrev pub has_head_parts : BufferHead → Bool
has_head_parts h = is_some h.pages && is_some h.prio && is_some h.group && is_some h.align

-- the buffers and numbers of an operation
abbrev pub has_op_parts : OpWord → Bool
has_op_parts (op_word.Fill dst off len byte) = is_some dst && is_some off && is_some len && is_some byte
has_op_parts (op_word.Copy dst doff src soff len) = is_some dst && is_some doff && is_some src && is_some soff && is_some len
has_op_parts (op_word.Xor dst doff src soff len) = is_some dst && is_some doff && is_some src && is_some soff && is_some len
has_op_parts (op_word.Probe src off len) = is_some src && is_some off && is_some len
has_op_parts op_word.Malformed = false

-- the addresses and numbers of an operation with addresses
abbrev pub has_vop_parts : VOpWord → Bool
has_vop_parts (vop_word.Fill addr len byte) = is_some addr && is_some len && is_some byte
has_vop_parts (vop_word.Copy addr from len) = is_some addr && is_some from && is_some len
has_vop_parts (vop_word.Xor addr from len) = is_some addr && is_some from && is_some len
has_vop_parts (vop_word.Probe addr len) = is_some addr && is_some len
has_vop_parts vop_word.Malformed = false

-- nothing is missing in the line
abbrev pub has_all_parts : Line → Bool
has_all_parts (line.Version version) = true
has_all_parts (line.Vram buddy size) = is_some size
has_all_parts (line.Tt size) = is_some size
has_all_parts (line.Frames size) = is_some size
has_all_parts (line.Swap size) = is_some size
has_all_parts (line.Engines size) = is_some size
has_all_parts (line.Buffer head want busy) = has_head_parts head && list_all says_place want && list_all says_place busy
has_all_parts (line.Placed head list) = has_head_parts head && list_all says_place list
has_all_parts line.Thread = true
has_all_parts (line.Turn actors) = list_all says_actor actors
has_all_parts line.End = true
has_all_parts (line.Plain verb b) = is_some b
has_all_parts (line.Write how b off bytes) = is_some b && is_some off && is_some bytes
has_all_parts (line.Read how b off len) = is_some b && is_some off && is_some len
has_all_parts (line.Move b mem) = is_some b
has_all_parts (line.Touch group) = is_some group
has_all_parts (line.Submit engine ops) = says_engine engine && list_all has_op_parts ops
has_all_parts (line.Map b) = is_some b
has_all_parts (line.Unmap b) = is_some b
has_all_parts (line.Vmap va n b off) = is_some va && is_some n && is_some b && is_some off
has_all_parts (line.Vunmap va n) = is_some va && is_some n
has_all_parts (line.Vsubmit engine ops) = says_engine engine && list_all has_vop_parts ops

-- the line of any words, after any lines, has all its parts where it breaks no rule
abbrev pub LinesHaveAllParts : Type 0
LinesHaveAllParts =
    (p : Progress) (ws : List Text) (l : Line) → line_of p.script (keyword_of (first_word ws)) ws ≡ Some l → rule_broken p l ≡ None → IsTrue (has_all_parts l)
