-- What a source and a sink in memory are seen as, and what their calls do.
use Rattle.std.specs.Prelude.{ℕ, ◌+◌, ◌-◌, ◌==◌, ◌||◌, Bool, min, List, ◌++◌, length, take, drop, Result, Ok, Err, if◌then◌else◌}
use Rattle.std.specs.List.{list_any}
use Rattle.io_edge.specs.declared.Failed.{Failed}
use Rattle.io_edge.specs.Faults.{one_more}

-- A source in memory: the bytes that are left, the most that one call moves, the numbers of the calls that fail, how many
-- calls there were, and how many of them failed.
pub record Feed : Type 0 where
  pub left : List ℕ
  pub chunk : ℕ
  pub fails : List ℕ
  pub calls : ℕ
  pub faults : ℕ

-- A sink in memory: the bytes that were written, for how many there is room in all, and the rest as for a source.
pub record Drain : Type 0 where
  pub written : List ℕ
  pub room : ℕ
  pub chunk : ℕ
  pub fails : List ℕ
  pub calls : ℕ
  pub faults : ℕ

-- whether the next call fails, after this number of calls
abbrev pub is_due : List ℕ → ℕ → Bool
is_due fails calls = list_any (λ n. n == calls + 1) fails

-- the number of bytes that a call moves into a buffer of this length
abbrev pub read_len : Feed → ℕ → ℕ
read_len s room = min s.chunk (min room (length s.left))

-- whether the next call fails
abbrev pub read_fails : Feed → Bool
read_fails s = is_due s.fails s.calls

-- the answer of a call
abbrev pub read_answer : Feed → ℕ → Result ℕ Failed
read_answer s room = if read_fails s then Err (record {}) else Ok (read_len s room)

-- the source after a call
abbrev pub after_read : Feed → ℕ → Feed
after_read s room =
    if read_fails s
    then record s { calls = one_more s.calls; faults = one_more s.faults }
    else record s { left = drop (read_len s room) s.left; calls = one_more s.calls }

-- the room that is left
abbrev pub room_left : Drain → ℕ
room_left s = s.room - length s.written

-- the number of bytes that a call moves from a piece of this length
abbrev pub write_len : Drain → ℕ → ℕ
write_len s len = min s.chunk (min len (room_left s))

-- whether the next call fails
abbrev pub write_fails : Drain → Bool
write_fails s = is_due s.fails s.calls || (room_left s == 0)

-- the answer of a call
abbrev pub write_answer : Drain → ℕ → Result ℕ Failed
write_answer s len = if write_fails s then Err (record {}) else Ok (write_len s len)

-- the sink after a call
abbrev pub after_write : Drain → List ℕ → Drain
after_write s piece =
    if write_fails s
    then record s { calls = one_more s.calls; faults = one_more s.faults }
    else record s { written = s.written ++ take (write_len s (length piece)) piece; calls = one_more s.calls }
