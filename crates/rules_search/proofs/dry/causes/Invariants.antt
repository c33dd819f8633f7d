use Rattle.std.proofs.Common.{◌≡◌, take}
use Rattle.std.specs.Prelude.{filter_map}
use Rattle.std.specs.List.{enumerate_from}
use Rattle.journal_model.specs.rules.Holds.{live_entry}
use Rattle.journal_model.specs.rules.Dry.{cause_row}
use Rattle.rules_search.proofs.dry.causes.Given as goal

abbrev pub invariant-loop-i : goal.invariant-loop-i
invariant-loop-i l = l.rows ≡ filter_map (cause_row l.script l.state.reservations l.place) (filter_map live_entry (enumerate_from 0 (take l.i l.slots)))
