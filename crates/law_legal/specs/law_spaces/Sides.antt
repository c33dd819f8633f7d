-- What a range leaves of mappings: those before it, cut at its start, and those after it, cut at its end.
use Rattle.std.specs.Prelude.{List, ◌++◌, map, flat_map, option_to_list}
use Rattle.ttm_base.specs.declared.Span.{Span}
use Rattle.journal_model.specs.marks.Spaces.{Region, part_of, part_before, part_after}

-- what stays of a mapping before a range
abbrev pub head_of : Span → Region → List Region
head_of range r = map (part_of r) (option_to_list (part_before range r.span))

-- what stays of a mapping after the range
abbrev pub tail_of : Span → Region → List Region
tail_of range r = map (part_of r) (option_to_list (part_after range r.span))

-- both sides of the mappings, and what comes between
abbrev pub sides : Span → List Region → List Region → List Region
sides range new regions = flat_map (head_of range) regions ++ (new ++ flat_map (tail_of range) regions)
