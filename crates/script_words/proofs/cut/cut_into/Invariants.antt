use Rattle.std.proofs.Common.{◌≡◌, ◌≤◌, ◌-◌, ◌++◌, map, take, drop, length}
use Rattle.journal_model.specs.scripts.Cut.{cut_at}
use Rattle.script_words.proofs.Cuts.{behind}
use Rattle.script_words.proofs.cut.cut_into.Given as goal

abbrev pub invariant-loop-i : goal.invariant-loop-i
invariant-loop-i l =
    record {
      order : l.start ≤ l.i;
      within : l.i ≤ length l.text;
      so_far : l.words ++ map (λ w. w) (behind (take (l.i - l.start) (drop l.start l.text)) (cut_at l.separator (drop l.i l.text))) ≡ cut_at l.separator l.text;
    }
