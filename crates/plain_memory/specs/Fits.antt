-- Ranges, operations and commands that stay inside their buffers.
use Rattle.std.specs.Prelude.{ℕ, ◌+◌, ◌<◌, ◌≤◌, List, Option, Some, All, length, slice_index}
use Rattle.ttm_base.specs.declared.BufId.{BufId}
use Rattle.ttm_base.specs.declared.Op.{Op}
use Rattle.ttm_base.specs.declared.Op.TheVariants as op
use Rattle.journal_model.specs.declared.script.Command.{Command}
use Rattle.journal_model.specs.declared.script.Command.TheVariants as command

-- the buffer is there, and has `len` bytes from `off` on
pub record HasRange (sizes : List ℕ) (b : BufId) (off len : ℕ) : Type 0 where
  pub declared : b.0 < length sizes
  pub inside : off + len ≤ slice_index sizes b.0

-- the ranges that an operation writes, and that a copy or an exclusive or reads, are inside
abbrev pub OpFits : List ℕ → Op → Type 0
OpFits sizes (op.Fill dst off len byte) = HasRange sizes dst off len
OpFits sizes (op.Copy dst doff src soff len) = HasRange sizes dst doff len × HasRange sizes src soff len
OpFits sizes (op.Xor dst doff src soff len) = HasRange sizes dst doff len × HasRange sizes src soff len
OpFits sizes (op.Probe src off len) = Unit {0}

-- the ranges that a command reads or writes are inside
abbrev pub CommandFits : List ℕ → Option Command → Type 0
CommandFits sizes (Some (command.Write b off bytes)) = HasRange sizes b off (length bytes)
CommandFits sizes (Some (command.Read b off len)) = HasRange sizes b off len
CommandFits sizes (Some (command.Submit engine ops)) = All (OpFits sizes) ops
CommandFits sizes _ = Unit {0}
