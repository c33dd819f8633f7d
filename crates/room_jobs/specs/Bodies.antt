-- A buffer of a table by its number.
use Rattle.std.specs.Prelude.{unwrap_or}
use Rattle.ttm_base.specs.declared.BufId.{BufId}
use Rattle.bo_table.specs.Seen.{Bos}
use Rattle.journal_model.specs.declared.state.Buffer.{Buffer}
use Rattle.journal_model.specs.rules.State.{live_in, new_buffer}

-- the buffer without its fences, where it is known to be live
abbrev pub body_at : Bos → BufId → Buffer
body_at bos b = unwrap_or (live_in bos.buffers b) (new_buffer 0)
