-- The parts of a script.
use Rattle.std.specs.Prelude.{true, false, List, [], ◌∷◌, ◌++◌, Some, None, codes, decimal, filter_map, flat_map, map, slice_get, if◌then◌else◌}
use Rattle.std.specs.List.{list_any}
use Rattle.journal_model.specs.declared.script.Script.{Script}
use Rattle.journal_model.specs.declared.script.Command.{Command}
use Rattle.journal_model.specs.declared.script.Mark.{Mark}
use Rattle.journal_model.specs.declared.script.MarkKind.{MarkKind}
use Rattle.journal_model.specs.marks.Marks.{addressed, is_mapped}
use Rattle.journal_model.specs.scripts.Words.{Text, line}
use Rattle.journal_model.specs.declared.script.Decl.{Decl}
use Rattle.journal_model.specs.scripts.Spelling.{addressed_words, command_words, group_word, mapped_words}

-- the line of VRAM
abbrev pub vram_line : Script → Text
vram_line script =
    line (codes "vram" ∷ (if script.sizes.buddy then codes "buddy" else codes "range") ∷ decimal script.sizes.vram ∷ [])

-- the lines above the buffers
abbrev pub head_lines : Script → Text
head_lines script =
    line (codes "ttm" ∷ decimal script.version ∷ [])
    ++ vram_line script
    ++ line (codes "tt" ∷ decimal script.sizes.tt ∷ [])
    ++ line (codes "frames" ∷ decimal script.sizes.frames ∷ [])
    ++ line (codes "swap" ∷ decimal script.sizes.swap ∷ [])
    ++ line (codes "engines" ∷ decimal script.sizes.engines ∷ [])

-- the line of a command
abbrev pub command_text : Script → Command → Text
command_text script command = line (command_words script command)

-- a command as the marks above it say that it is written
abbrev pub written : Script → List MarkKind → Command → Text
written script ms c =
    line (elim (slice_get (filter_map addressed ms) 0) [
      | Some vs ↦ addressed_words script vs c
      | None ↦ elim (list_any is_mapped ms) [ true ↦ mapped_words script c | false ↦ command_words script c ]
    ])

-- the kinds of marks
abbrev pub kinds : List Mark → List MarkKind
kinds ms = map (λ m. m.kind) ms

-- what stands between the first word of a buffer's line and its places
abbrev pub shape_words : Decl → List Text
shape_words d =
    d.name ∷ decimal d.pages ∷ codes "prio" ∷ decimal d.prio ∷ codes "group" ∷ group_word d.group ∷ codes "align" ∷ decimal d.align ∷ []

-- each operation after a lone semicolon
abbrev pub parted_out : List (List Text) → List Text
parted_out ops = flat_map (λ ws. codes ";" ∷ ws) ops
