use Rattle.std.proofs.Common.{◌≡◌, ◌≤◌, length}
use Rattle.std.specs.Prelude.{filter}
use Rattle.ttm_base.specs.ListWords.{count_from}
use Rattle.ttm_base.specs.Holes.{is_free_beside}
use Rattle.plain_accounts.proofs.count_free_pages.Given as goal

abbrev pub invariant-loop-page : goal.invariant-loop-page
invariant-loop-page l = (l.count ≡ length (filter (is_free_beside l.held) (count_from 1 l.page 0))) × (l.count ≤ l.page)
