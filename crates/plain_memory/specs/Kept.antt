-- The bytes that are kept of each buffer, in a list for each.
use Rattle.std.specs.Prelude.{◌≡◌, ℕ, ◌*◌, List, [], length, map, slice_index}
use Rattle.std.specs.List.{slice_index_or}
use Rattle.journal_model.specs.declared.script.Script.{Script}
use Rattle.journal_model.specs.rules.PlainMemory.{Memory}

-- the memory that the lists keep; zeros follow each of them, and in buffers that aren't there
abbrev pub memory_in : List (List ℕ) → Memory
memory_in contents b i = slice_index (slice_index_or contents b []) i

-- the number of bytes of each buffer
abbrev pub sizes_in : List (List ℕ) → List ℕ
sizes_in contents = map length contents

-- the number of bytes of each buffer of a script
abbrev pub sizes_of : Script → List ℕ
sizes_of script = map (λ d. 4096 * d.pages) script.buffers

-- the sizes stay, and the memory becomes `memory`
pub record BecomesMemory (old new : List (List ℕ)) (memory : Memory) : Type 0 where
  pub same_sizes : sizes_in new ≡ sizes_in old
  pub memory_is : memory_in new ≡ memory
