-- A buffer that the table lends, as the state has it.
use Rattle.std.specs.Prelude.{[]}
use Rattle.bo_table.specs.declared.bo.Bo.{Bo}
use Rattle.journal_model.specs.declared.state.Buffer.{Buffer}

-- the buffer without its fences, which stand apart
abbrev pub as_buffer : Bo → Buffer
as_buffer bo = record { mem = bo.mem; spans = bo.spans; table = bo.table; targets = bo.targets; fences = [] }
