use Rattle.std.proofs.Common.{◌≡◌, ℕ, ◌≤◌, take, get_or}
use Rattle.journal_model.specs.rules.PlainMemory.{plain_of}
use Rattle.plain_memory.specs.Along.{IsPlain}
use Rattle.plain_memory.specs.Mismatches.{mismatches_of}
use Rattle.plain_memory.proofs.along.mismatches.Given as goal

abbrev pub invariant-loop-entry : goal.invariant-loop-entry
invariant-loop-entry l =
    record {
      plain : IsPlain l.script l.memory l.answered (plain_of l.script (take l.entry-index l.journal));
      few : (t : ℕ) → get_or l.answered t 0 ≤ l.entry-index;
      counted : l.count ≡ mismatches_of l.script (take l.entry-index l.journal);
      short : l.count ≤ l.entry-index;
    }
