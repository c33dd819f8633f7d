use Rattle.std.proofs.Common.{◌≡◌, ◌+◌, ◌-◌, length}
use Rattle.std.specs.List.{list_all}
use Rattle.ttm_base.specs.ListWords.{count_from}
use Rattle.journal_model.specs.statements.Complete.{thread_numbers}
use Rattle.room_queries.specs.Ends.{answered_in}
use Rattle.room_queries.proofs.ends.have_answered.Given as goal

abbrev pub invariant-loop-i : goal.invariant-loop-i
invariant-loop-i l =
    list_all (answered_in l.script l.courses) (thread_numbers l.script)
    ≡ list_all (answered_in l.script l.courses) (count_from 1 (length l.script.threads - l.i) (l.i + 1))
