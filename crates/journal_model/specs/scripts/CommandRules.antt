-- Which commands may stand in a script.
use Rattle.std.specs.Prelude.{ℕ, ◌+◌, ◌*◌, Bool, ◌==◌, ◌&&◌, not, nat_lt, nat_le, sum_by, length}
use Rattle.std.specs.List.{list_all}
use Rattle.journal_model.specs.Types.{BufId, Command, Op, Script}
use Rattle.journal_model.specs.Limits.{max_job_buffers, max_job_ops, max_offset, max_shown_bytes, page_bytes}
use Rattle.ttm_base.specs.declared.Op.TheVariants as op
use Rattle.journal_model.specs.declared.script.Command.TheVariants as command
use Rattle.ttm_base.specs.Cutting.{op_len}
use Rattle.journal_model.specs.rules.Commands.{decl, named}
use Rattle.ttm_base.specs.Cutting.{op_len}

-- within limits
abbrev pub is_between : ℕ → ℕ → ℕ → Bool
is_between low high n = nat_le low n && nat_le n high

-- the script has the buffer
abbrev pub is_declared : Script → BufId → Bool
is_declared script b = nat_lt b.0 (length script.buffers)

-- a range of at least a byte inside a buffer
abbrev pub is_range_of : Script → BufId → ℕ → ℕ → Bool
is_range_of script b off len =
    is_declared script b && nat_le off max_offset && is_between 1 max_offset len && nat_le (off + len) (page_bytes * (decl script b).pages)

-- an operation inside its buffers, which are two where it has two ranges
abbrev pub is_op : Script → Op → Bool
is_op script (op.Fill dst off len byte) = is_range_of script dst off len && nat_le byte 255
is_op script (op.Copy dst doff src soff len) =
    is_range_of script dst doff len && is_range_of script src soff len && not (dst.0 == src.0)
is_op script (op.Xor dst doff src soff len) =
    is_range_of script dst doff len && is_range_of script src soff len && not (dst.0 == src.0)
is_op script (op.Probe src off len) = is_range_of script src off len && nat_le len max_shown_bytes

-- a byte
abbrev pub is_byte : ℕ → Bool
is_byte b = nat_le b 255

-- a command line
abbrev pub is_command : Script → Command → Bool
is_command script (command.New b) = is_declared script b
is_command script (command.Free b) = is_declared script b
is_command script (command.Pin b) = is_declared script b
is_command script (command.Unpin b) = is_declared script b
is_command script (command.Find b) = is_declared script b
is_command script (command.SwapOut b) = is_declared script b
is_command script (command.Write b off bytes) =
    is_range_of script b off (length bytes) && nat_le (length bytes) max_shown_bytes && list_all is_byte bytes
is_command script (command.Read b off len) = is_range_of script b off len && nat_le len max_shown_bytes
is_command script (command.Move b mem) = is_declared script b
is_command script (command.Touch group) = nat_le group 15
is_command script (command.Submit engine ops) =
    is_between 1 script.sizes.engines engine && is_between 1 max_job_ops (length ops) && list_all (is_op script) ops
    && nat_le (length (named (command.Submit engine ops))) max_job_buffers

-- how many bytes the operations of a command take
abbrev pub command_len : Command → ℕ
command_len (command.Submit engine ops) = sum_by op_len ops
command_len _ = 0
