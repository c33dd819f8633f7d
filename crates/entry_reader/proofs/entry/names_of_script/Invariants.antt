use Rattle.std.proofs.Common.{◌≡◌, take}
use Rattle.journal_model.specs.scripts.Reading.{names_of}
use Rattle.entry_reader.proofs.entry.names_of_script.Given as goal

abbrev pub invariant-loop-decl : goal.invariant-loop-decl
invariant-loop-decl l = l.names ≡ names_of (take l.decl-index l.buffers)
