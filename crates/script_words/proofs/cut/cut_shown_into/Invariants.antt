use Rattle.std.proofs.Common.{◌≡◌, ◌≤◌, ◌+◌, ◌-◌, ◌++◌, take, drop, length}
use Rattle.journal_model.specs.scripts.Cut.{cut_at}
use Rattle.script_words.specs.Lines.{shown, shown_len}
use Rattle.script_words.proofs.Cuts.{behind}
use Rattle.script_words.proofs.cut.cut_shown_into.Given as goal

abbrev pub invariant-loop-i : goal.invariant-loop-i
invariant-loop-i l =
    record {
      order : l.start ≤ l.i;
      within : l.i ≤ length l.text;
      len : l.i + shown_len (drop l.i l.text) ≡ shown_len l.text;
      so_far : l.words ++ behind (take (l.i - l.start) (drop l.start l.text)) (cut_at 32 (shown (drop l.i l.text))) ≡ cut_at 32 (shown l.text);
    }
