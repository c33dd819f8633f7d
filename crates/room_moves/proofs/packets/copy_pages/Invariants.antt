use Rattle.std.proofs.Common.{◌≡◌, drop}
use Rattle.place_list.specs.SpanPages.{pages_of}
use Rattle.room_moves.specs.Copies.{copies}
use Rattle.room_moves.proofs.packets.copy_pages.Given as goal

abbrev pub invariant-loop-page : goal.invariant-loop-page
invariant-loop-page l =
    record {
      packets : l.packets.items ≡ copies l._page l.to l.targets l.from l.sources;
      ahead : l.ahead ≡ drop l._page (pages_of l.targets);
      here : l.here ≡ drop l._page (pages_of l.sources);
    }
