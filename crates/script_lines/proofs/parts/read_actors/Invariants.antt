use Rattle.std.proofs.Common.{◌≡◌, length, map, take}
use Rattle.journal_model.specs.scripts.Reading.{actor_of}
use Rattle.script_lines.proofs.parts.read_actors.Given as goal

abbrev pub invariant-loop-i : goal.invariant-loop-i
invariant-loop-i l =
    record {
      room : length l.actors ≡ 64;
      so_far : take l.i l.actors ≡ map (actor_of l.threads l.engines) (take l.i l.words);
    }
