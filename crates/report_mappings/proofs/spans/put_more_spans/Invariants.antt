use Rattle.std.proofs.Common.{◌≡◌, ◌++◌, map, take}
use Rattle.journal_model.specs.scripts.Words.{span_word}
use Rattle.text_line.specs.Spaced.{behind_each}
use Rattle.report_mappings.proofs.spans.put_more_spans.Given as goal

abbrev pub invariant-loop-span : goal.invariant-loop-span
invariant-loop-span l = l.line ≡ l.fn.line ++ behind_each 44 (map span_word (take l.span-index l.spans))
