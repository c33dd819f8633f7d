use Rattle.std.proofs.Common.{◌≡◌, ◌≤◌, ◌-◌, ◌++◌, map, take, drop, length}
use Rattle.journal_model.specs.scripts.Cut.{cut_by, is_semicolon}
use Rattle.journal_model.specs.scripts.LineWords.{vop_of, vop_words_of}
use Rattle.script_words.proofs.Cuts.{behind}
use Rattle.script_lines.proofs.addresses.read_ops.Given as goal

abbrev pub invariant-loop-i : goal.invariant-loop-i
invariant-loop-i l =
    record {
      order : l.start ≤ l.i;
      within : l.i ≤ length l.words;
      so_far : l.ops ++ map vop_of (behind (take (l.i - l.start) (drop l.start l.words)) (cut_by is_semicolon (drop l.i l.words))) ≡ vop_words_of l.words;
    }
