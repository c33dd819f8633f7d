-- What a thread has mapped, as the code keeps it and as the definitions have it.
use Rattle.std.specs.Prelude.{◌≡◌, ℕ, List}
use Rattle.journal_model.specs.marks.Spaces.{Region}
use Rattle.journal_model.specs.scripts.MarkRules.{ThreadMappings}
use Rattle.gpu_spaces.specs.Sets.{IsSetOf}

-- which buffers are mapped, by their numbers, and the mappings of the space
pub record Seen : Type 0 where
  pub mapped : List ℕ
  pub regions : List Region

-- the lists and the definitions say the same
pub record IsThreadMappings (seen : Seen) (d : ThreadMappings) : Type 0 where
  pub mapped : IsSetOf seen.mapped d.mapped
  pub regions : seen.regions ≡ d.regions
