use Rattle.std.proofs.Common.{◌≡◌, ◌++◌, take}
use Rattle.std.specs.Prelude.{flat_map}
use Rattle.journal_model.specs.scripts.Spelling.{buffer_line}
use Rattle.script_spelling.proofs.script.put_buffers.Given as goal

abbrev pub invariant-loop-decl : goal.invariant-loop-decl
invariant-loop-decl l = l.text ≡ l.fn.text ++ flat_map (buffer_line l.script.version) (take l.decl-index l.script.buffers)
