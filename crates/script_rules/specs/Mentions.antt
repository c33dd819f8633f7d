-- The buffers of a job, gathered one by one.
use Rattle.std.specs.Prelude.{List, [], ◌∷◌, ◌++◌, if◌then◌else◌}
use Rattle.ttm_base.specs.declared.BufId.{BufId}
use Rattle.journal_model.specs.rules.State.{has_buffer}

-- the buffers so far, with one more mention
abbrev pub mentioned : List BufId → BufId → List BufId
mentioned seen b = if has_buffer seen b then seen else seen ++ b ∷ []
