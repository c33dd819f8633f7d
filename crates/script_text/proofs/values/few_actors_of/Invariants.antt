use Rattle.std.proofs.Common.{◌≡◌, length, map, take}
use Rattle.journal_model.specs.scripts.FirstFault.{actor_in}
use Rattle.script_text.proofs.values.few_actors_of.Given as goal

abbrev pub invariant-loop-i : goal.invariant-loop-i
invariant-loop-i l =
    record {
      room : length l.actors ≡ 64;
      so_far : take l.i l.actors ≡ map actor_in (take l.i l.words);
    }
