-- Mappings as the balanced map keeps them, and as the definitions have them.
use Rattle.std.specs.Prelude.{ℕ, List, map}
use Rattle.std.specs.BTreeMap.{BTreeMap}
use Rattle.journal_model.specs.marks.Spaces.{Region}
use Rattle.gpu_spaces.specs.declared.mappings.Rest.{Rest}
use Rattle.gpu_spaces.specs.declared.mappings.Mapping.{Mapping}

-- a mapping under its first page, as the definitions have it
abbrev pub region_at : ℕ × Rest → Region
region_at e = record { span = record { start = e.0; end = e.1.end }; b = e.1.b; off = e.1.off }

-- the mappings of a balanced map, in rising order
abbrev pub regions_in : BTreeMap ℕ Rest → List Region
regions_in m = map region_at m.entries

-- a mapping, as the definitions have it
abbrev pub region_of : Mapping → Region
region_of m = record { span = m.span; b = m.b; off = m.off }
