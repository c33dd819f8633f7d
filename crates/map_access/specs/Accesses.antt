-- Marks that make a command a peek or poke, and the pages that it meets.
use Rattle.std.specs.Prelude.{ℕ, ◌+◌, ◌/◌, Bool, false, Option, Some, None, ◌==◌, ◌&&◌, nat_le, option_map, if◌then◌else◌}
use Rattle.ttm_base.specs.declared.BufId.{BufId}
use Rattle.journal_model.specs.declared.script.Script.{Script}
use Rattle.journal_model.specs.declared.script.Mark.{Mark}
use Rattle.journal_model.specs.declared.entry.Entry.{Entry}
use Rattle.journal_model.specs.declared.entry.Kind.TheVariants as kind
use Rattle.journal_model.specs.statements.Complete.{is_by_thread}
use Rattle.journal_model.specs.marks.Mapped.{Access, mapping_at, peek_or_poke}
use Rattle.journal_model.specs.marks.Marks.{is_mapped}
use Rattle.map_access.specs.declared.access.Access as rust

-- the mark stands directly above the thread's command
abbrev pub is_way_of : ℕ → ℕ → Mark → Bool
is_way_of thread n m = (m.thread == thread) && (m.after == n) && is_mapped m.kind

-- a mapping with this end has ended before the command that follows `n` others
abbrev pub has_ended_by : Option ℕ → ℕ → Bool
has_ended_by None n = false
has_ended_by (Some e) n = nat_le e n

-- the pages that a range has a byte of: the first, and the one after the last
abbrev pub paged : Access → rust.Access
paged a = record { b = a.b; first = a.off / 4096; end = (a.off + a.len + 4095) / 4096 }

-- the access of an entry, if it is the result of a peek or poke of the thread, which has answered `n` commands
abbrev pub access_in : Script → ℕ → ℕ → Entry → Option Access
access_in script thread n e =
    elim (e.kind) [ kind.Result r ↦ if is_by_thread thread e.who then peek_or_poke script thread n else None | _ ↦ None ]

-- after how many commands the mapping of buffer `b` stands through which the command that follows `n` others goes
abbrev pub mapped_from : Script → ℕ → ℕ → BufId → Option ℕ
mapped_from script thread n b = option_map (λ m. m.from) (mapping_at script thread n (record { b = b; off = 0; len = 0 }))
