-- The parts into which an operation is cut, each an operation of its own.
use Rattle.std.specs.Prelude.{ℕ, ◌+◌, ◌%◌, ◌<◌, ◌≤◌}
use Rattle.ttm_base.specs.declared.Op.{Op}
use Rattle.ttm_base.specs.declared.Op.TheVariants as op
use Rattle.ttm_base.specs.Cutting.{Piece, op_len}

-- a piece of an operation as an operation
abbrev pub part_of : Op → Piece → Op
part_of (op.Fill dst off len byte) p = op.Fill dst (off + p.at) p.len byte
part_of (op.Copy dst doff src soff len) p = op.Copy dst (doff + p.at) src (soff + p.at) p.len
part_of (op.Xor dst doff src soff len) p = op.Xor dst (doff + p.at) src (soff + p.at) p.len
part_of (op.Probe src off len) p = op.Probe src (off + p.at) p.len

-- len bytes from an offset on are of one page
abbrev pub IsInPage : ℕ → ℕ → Type 0
IsInPage off len = off % 4096 + len ≤ 4096

-- an operation is of one page of each of its buffers
abbrev pub IsOfPages : Op → Type 0
IsOfPages (op.Fill dst off len byte) = IsInPage off len
IsOfPages (op.Copy dst doff src soff len) = IsInPage doff len × IsInPage soff len
IsOfPages (op.Xor dst doff src soff len) = IsInPage doff len × IsInPage soff len
IsOfPages (op.Probe src off len) = IsInPage off len

-- a piece has a byte, and lies inside the operation
pub record IsPiece (o : Op) (p : Piece) : Type 0 where
  pub some : 0 < p.len
  pub inside : p.at + p.len ≤ op_len o
  pub pages : IsOfPages (part_of o p)
