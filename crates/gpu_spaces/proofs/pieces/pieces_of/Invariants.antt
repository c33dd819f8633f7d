use Rattle.std.proofs.Common.{◌≡◌, ◌+◌, ◌-◌, ◌≤◌, ◌++◌}
use Rattle.std.specs.Prelude.{option_map, map}
use Rattle.journal_model.specs.marks.ByName.{parts_of_range, parts_from}
use Rattle.gpu_spaces.specs.Kept.{regions_in}
use Rattle.gpu_spaces.specs.Spots.{part_of}
use Rattle.gpu_spaces.proofs.pieces.pieces_of.Given as goal

abbrev pub invariant-loop-at : goal.invariant-loop-at
invariant-loop-at l = record {
  inside : l.at ≤ l.len;
  made : parts_of_range (regions_in l.mappings) l.addr l.len ≡ option_map (λ parts. map part_of l.pieces ++ parts) (parts_from (regions_in l.mappings) (l.addr + l.at) (l.len - l.at) (l.len - l.at));
}

abbrev pub decreases-loop-at : goal.decreases-loop-at
decreases-loop-at l = l.len - l.at
