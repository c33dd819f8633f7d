-- The buffers that operations mention.
use Rattle.std.specs.Prelude.{Bool, List, [], ◌∷◌, ◌==◌, if◌then◌else◌}
use Rattle.std.specs.List.{list_any}
use Rattle.ttm_base.specs.declared.BufId.{BufId}
use Rattle.ttm_base.specs.declared.Op.{Op}
use Rattle.ttm_base.specs.declared.Op.TheVariants as op

-- the buffers are one
abbrev pub same_buffer : BufId → BufId → Bool
same_buffer a b = a.0 == b.0

-- the list has the buffer
abbrev pub has_buffer : List BufId → BufId → Bool
has_buffer bs b = list_any (same_buffer b) bs

-- the buffers of an operation, as they are mentioned
abbrev pub buffers_of_op : Op → List BufId
buffers_of_op (op.Fill dst off len byte) = dst ∷ []
buffers_of_op (op.Copy dst doff src soff len) = dst ∷ src ∷ []
buffers_of_op (op.Xor dst doff src soff len) = dst ∷ src ∷ []
buffers_of_op (op.Probe src off len) = src ∷ []

-- each buffer once, in the order of its first mention, without those in `seen`
abbrev pub first_mentions : List BufId → List BufId → List BufId
first_mentions seen [] = []
first_mentions seen (b ∷ bs) = if has_buffer seen b then first_mentions seen bs else b ∷ first_mentions (b ∷ seen) bs
