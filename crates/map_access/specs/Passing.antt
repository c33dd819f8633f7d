-- The mapping of a buffer that stands, line by line.
use Rattle.std.specs.Prelude.{◌≡◌, ℕ, true, List, Option, Some, None, ◌==◌, ◌&&◌, slice_get, unwrap_or, if◌then◌else◌}
use Rattle.ttm_base.specs.declared.BufId.{BufId}
use Rattle.journal_model.specs.declared.script.Mark.{Mark}
use Rattle.journal_model.specs.declared.script.MarkKind.{MarkKind}
use Rattle.journal_model.specs.declared.script.MarkKind.TheVariants as mark
use Rattle.journal_model.specs.declared.script.Script.{Script}
use Rattle.journal_model.specs.rules.State.{same_buffer}
use Rattle.journal_model.specs.scripts.MarkRules.{are_in_order}
use Rattle.map_access.specs.Accesses.{mapped_from}

-- a mapping that stands already, or one that begins after `n` commands
abbrev pub or_from : Option ℕ → ℕ → Option ℕ
or_from None n = Some n
or_from (Some old) n = Some old

-- after how many commands the mapping of buffer `b` stands, once the thread's line was passed, which follows `n` commands
abbrev pub behind_line : BufId → ℕ → MarkKind → Option ℕ → Option ℕ
behind_line b n (mark.Map c) old = if same_buffer c b then or_from old n else old
behind_line b n (mark.Unmap c) old = if same_buffer b c then None else old
behind_line b n _ old = old

-- the same once a line was passed, if it is the thread's and follows `n` of its commands
abbrev pub behind_mark : ℕ → ℕ → BufId → Option ℕ → Mark → Option ℕ
behind_mark thread n b old m = if (m.thread == thread) && (m.after == n) then behind_line b n m.kind old else old

-- after how many commands the mapping of a buffer stands, in a list by the numbers of buffers
abbrev pub start_of : List (Option ℕ) → BufId → Option ℕ
start_of starts b = unwrap_or (slice_get starts b.0) None

-- the list has the mappings that stand for the thread's command that follows `n` others, if the marks stand in order
abbrev pub Stands : Script → ℕ → ℕ → List (Option ℕ) → Type 0
Stands script thread n starts = are_in_order script.marks ≡ true → (b : BufId) → start_of starts b ≡ mapped_from script thread n b
