use Rattle.std.proofs.Common.{◌≡◌, ℕ, false}
use Rattle.std.specs.BTreeMap.{btree_map_len}
use Rattle.ttm_base.specs.Holes.{has_page}
use Rattle.gpu_spaces.specs.Kept.{regions_in}
use Rattle.gpu_spaces.specs.Regions.{starting}
use Rattle.gpu_spaces.proofs.mappings.clear.Given as goal

abbrev pub invariant-loop-start : goal.invariant-loop-start
invariant-loop-start l = (q : ℕ) → has_page q l.range ≡ false → starting q (regions_in l.mappings) ≡ starting q (regions_in l.initial.mappings)

abbrev pub decreases-loop-start : goal.decreases-loop-start
decreases-loop-start l = btree_map_len l.mappings
