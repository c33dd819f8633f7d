-- The buffers that operations name, with those of one operation more.
use Rattle.std.specs.Prelude.{List, [], ◌∷◌, ◌++◌, if◌then◌else◌}
use Rattle.ttm_base.specs.declared.BufId.{BufId}
use Rattle.journal_model.specs.rules.Mentions.{has_buffer}

-- with this buffer at the end, unless it is there
abbrev pub with_buffer : List BufId → BufId → List BufId
with_buffer named b = if has_buffer named b then named else named ++ b ∷ []

-- with each of these buffers, one after the other
abbrev pub with_buffers : List BufId → List BufId → List BufId
with_buffers named [] = named
with_buffers named (b ∷ bs) = with_buffers (with_buffer named b) bs
