use Rattle.std.proofs.Common.{◌≡◌}
use Rattle.ttm_base.specs.Pages.{read_bytes}
use Rattle.rules_stores.specs.StorePages.{page_of}
use Rattle.rules_stores.specs.Kept.{bytes_of}
use Rattle.rules_stores.proofs.shown.page_bytes.Given as goal

abbrev pub invariant-loop-i : goal.invariant-loop-i
invariant-loop-i l = l.bytes ≡ read_bytes (bytes_of l.stores) (page_of l.page) l.off l.i
