-- Entries that a text can tell: each number is one of its field's type, each byte a byte, each span has a page, and each
-- buffer is declared. Whether an entry is legal is another question.
use Rattle.std.specs.Prelude.{ℕ, ◌^◌, Bool, true, List, ◌&&◌, nat_lt}
use Rattle.std.specs.List.{list_all}
use Rattle.journal_model.specs.Types.{Actor, Cause, CauseRow, DryWhy, Entry, Kind, Left, Script, Shown, Span}
use Rattle.ttm_base.specs.declared.Actor.TheVariants as actor
use Rattle.journal_model.specs.declared.entry.Kind.TheVariants as kind
use Rattle.journal_model.specs.declared.entry.Shown.TheVariants as shown
use Rattle.journal_model.specs.declared.entry.Left.TheVariants as left
use Rattle.journal_model.specs.declared.entry.DryWhy.TheVariants as dry
use Rattle.journal_model.specs.declared.entry.Cause.TheVariants as cause
use Rattle.journal_model.specs.scripts.CommandRules.{is_byte, is_declared}

-- a number of 32 bits
abbrev pub is_u32 : ℕ → Bool
is_u32 n = nat_lt n (2 ^ 32)

-- a number of 64 bits
abbrev pub is_u64 : ℕ → Bool
is_u64 n = nat_lt n (2 ^ 64)

-- bytes
abbrev pub are_bytes : List ℕ → Bool
are_bytes bytes = list_all is_byte bytes

-- a span that has a page
abbrev pub is_span : Span → Bool
is_span s = nat_lt s.start s.end && is_u32 s.end

-- who: a thread, an engine or the reaper, in the script or not
abbrev pub is_some_actor : Actor → Bool
is_some_actor (actor.Thread t) = is_u32 t
is_some_actor (actor.Engine e) = is_u32 e
is_some_actor actor.Reaper = true

-- what is left behind
abbrev pub is_left : Left → Bool
is_left left.Now = true
is_left (left.Ghost g) = is_u64 g

-- a cause
abbrev pub is_cause : Cause → Bool
is_cause cause.Pinned = true
is_cause (cause.Reserved s) = is_u64 s.0
is_cause cause.Outside = true
is_cause cause.Skipped = true

-- a buffer with its cause
abbrev pub is_cause_row : Script → CauseRow → Bool
is_cause_row script row = is_declared script row.b && is_cause row.cause

-- why a place is dry
abbrev pub is_dry_why : Script → DryWhy → Bool
is_dry_why script dry.Short = true
is_dry_why script (dry.Of rows) = list_all (is_cause_row script) rows

-- what a result shows
abbrev pub is_shown : Shown → Bool
is_shown shown.Plain = true
is_shown (shown.Read bytes) = are_bytes bytes
is_shown (shown.Find mem spans) = list_all is_span spans

-- an entry without its actor
abbrev pub is_kind : Script → Kind → Bool
is_kind script (kind.Ticket s) = is_u64 s.0
is_kind script (kind.Reserve b) = is_declared script b
is_kind script (kind.Backoff b s) = is_declared script b && is_u64 s.0
is_kind script (kind.New b) = is_declared script b
is_kind script (kind.Free b g) = is_declared script b && is_u64 g
is_kind script (kind.Take b mem spans) = is_declared script b && list_all is_span spans
is_kind script (kind.Untake b mem) = is_declared script b
is_kind script (kind.Populate b page f) = is_declared script b && is_u32 page && is_u32 f
is_kind script (kind.SwapIn b page k f) = is_declared script b && is_u32 page && is_u32 k && is_u32 f
is_kind script (kind.Depopulate b) = is_declared script b
is_kind script (kind.Bind b) = is_declared script b
is_kind script (kind.Unbind b) = is_declared script b
is_kind script (kind.Move b mem n l) = is_declared script b && is_u64 n && is_left l
is_kind script (kind.Catch b w) = is_declared script b
is_kind script (kind.Loose b) = is_declared script b
is_kind script (kind.Skip b) = is_declared script b
is_kind script (kind.Dry b k w) = is_declared script b && is_u32 k && is_dry_why script w
is_kind script (kind.SwapOut b page k) = is_declared script b && is_u32 page && is_u32 k
is_kind script (kind.NoPages b) = is_declared script b
is_kind script (kind.Arm engine n) = is_u32 engine && is_u64 n
is_kind script (kind.Packet n k piece) = is_u64 n && is_u32 k && are_bytes piece
is_kind script (kind.Done n) = is_u64 n
is_kind script (kind.Reap g) = is_u64 g
is_kind script (kind.Bulk group) = is_u32 group
is_kind script (kind.Result r) = is_shown r
is_kind script (kind.Refused d) = true

-- an entry
abbrev pub is_readable : Script → Entry → Bool
is_readable script e = is_some_actor e.who && is_kind script e.kind
