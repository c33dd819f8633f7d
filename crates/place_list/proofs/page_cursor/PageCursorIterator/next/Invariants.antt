use Rattle.std.proofs.Common.{◌≡◌, ◌++◌, length}
use Rattle.place_list.specs.SpanPages.{pages_of_span, pages_of}
use Rattle.place_list.proofs.page_cursor.PageCursorIterator.next.Given as goal

-- only empty spans were passed over
abbrev pub invariant-loop-self : goal.invariant-loop-self
invariant-loop-self l = pages_of_span l.self-inside.here ++ pages_of l.self-inside.behind.now ≡ l.fn.self

abbrev pub decreases-loop-self : goal.decreases-loop-self
decreases-loop-self l = length l.self-inside.behind.now
