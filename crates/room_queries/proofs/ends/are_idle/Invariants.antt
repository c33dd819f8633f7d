use Rattle.std.proofs.Common.{◌≡◌}
use Rattle.std.specs.Prelude.{drop}
use Rattle.std.specs.List.{list_all}
use Rattle.room_queries.specs.Ends.{is_empty}
use Rattle.room_queries.proofs.ends.are_idle.Given as goal

abbrev pub invariant-loop-ctx : goal.invariant-loop-ctx
invariant-loop-ctx l = list_all is_empty l.rings ≡ list_all is_empty (drop l.ctx l.rings)
