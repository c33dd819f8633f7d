use Rattle.std.proofs.Common.{◌≡◌, drop}
use Rattle.rules_stores.specs.Maps.{frame_in_table}
use Rattle.rules_stores.proofs.pages.frame_in_table.Given as goal

abbrev pub invariant-loop-span : goal.invariant-loop-span
invariant-loop-span l = frame_in_table (drop l.span-index l.spans) l.rest l.page ≡ frame_in_table l.spans l.table l.page
