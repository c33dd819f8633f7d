use Rattle.std.proofs.Common.{◌≡◌, ◌-◌}
use Rattle.ttm_base.specs.ListWords.{count_from}
use Rattle.map_follow.specs.Founds.{place_of, with_found, with_pages}
use Rattle.map_follow.proofs.follow.fault_in.Given as goal

-- the pages that are left
abbrev pub invariant-loop-page : goal.invariant-loop-page
invariant-loop-page l =
    with_pages l.found.thread l.found.pages.b (place_of l.mem l.spans l.table) l.maps (count_from 1 (l.found.pages.end - l.page) l.page)
    ≡ with_found l.found l.mem l.spans l.table l.fn.maps
