use Rattle.std.proofs.Common.{◌≡◌}
use Rattle.std.specs.Prelude.{filter, filter_map, option_map}
use Rattle.ttm_base.specs.ListWords.{count_from, least_by}
use Rattle.turn_order.specs.Tickets.{comes_after, ticketed_in, ticketed_of}
use Rattle.turn_order.proofs.tickets.ticket_after.Given as goal

-- the oldest of the threads so far
abbrev pub invariant-loop-i : goal.invariant-loop-i
invariant-loop-i l =
    option_map ticketed_of l.least
    ≡ least_by (λ t. t.stamp) (filter (comes_after (option_map ticketed_of l.last)) (filter_map (ticketed_in l.courses) (count_from 1 l.i 1)))
