-- A set of buffers and the list of its buffers.
use Rattle.std.specs.Prelude.{◌≡◌, ℕ, List}
use Rattle.ttm_base.specs.declared.BufId.{BufId}
use Rattle.journal_model.specs.rules.State.{has_buffer}
use Rattle.gpu_spaces.specs.buffer_set.Members.{is_member}

-- the set has the buffers of the list
abbrev pub IsSetOf : List ℕ → List BufId → Type 0
IsSetOf members bs = (b : BufId) → is_member members b.0 ≡ has_buffer bs b
