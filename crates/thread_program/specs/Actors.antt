-- The actors of a script, in the order of their workers.
use Rattle.std.specs.Prelude.{◌+◌, List, [], ◌∷◌, ◌++◌, map}
use Rattle.ttm_base.specs.declared.Actor.{Actor}
use Rattle.ttm_base.specs.declared.Actor.TheVariants as actor
use Rattle.ttm_base.specs.ListWords.{count_from}
use Rattle.journal_model.specs.declared.script.Script.{Script}
use Rattle.journal_model.specs.statements.Complete.{thread_numbers}

-- all actors: the threads by number, the engines by number, and the reaper
abbrev pub all_actors : Script → List Actor
all_actors script =
    map actor.Thread (thread_numbers script) ++ map actor.Engine (count_from 1 (script.sizes.engines + 1) 0) ++ actor.Reaper ∷ []
