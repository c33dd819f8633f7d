-- Which marks may stand in a script: mappings and address spaces as they are at each line.
use Rattle.std.specs.Prelude.{ℕ, ◌+◌, Bool, true, false, List, [], ◌∷◌, Option, Some, None, ◌==◌, ◌&&◌, ◌||◌, not, nat_lt, nat_le, filter, map, fold, length, drop, zip}
use Rattle.std.specs.List.{list_all, list_any}
use Rattle.journal_model.specs.Types.{BufId, Command, Mark, MarkKind, Op, Script}
use Rattle.journal_model.specs.Limits.{max_buffer_pages, max_job_ops, max_offset, max_shown_bytes, max_thread_lines, space_bytes, space_pages}
use Rattle.ttm_base.specs.declared.Op.TheVariants as op
use Rattle.journal_model.specs.declared.script.Command.TheVariants as command
use Rattle.journal_model.specs.declared.script.MarkKind.TheVariants as mark
use Rattle.journal_model.specs.declared.space.VOp.{VOp}
use Rattle.journal_model.specs.declared.space.VOp.TheVariants as vop
use Rattle.journal_model.specs.rules.State.{has_buffer, same_buffer, without_buffer}
use Rattle.journal_model.specs.rules.Commands.{decl, commands_of, named}
use Rattle.journal_model.specs.statements.Complete.{thread_numbers}
use Rattle.journal_model.specs.marks.Marks.{marks_at, marks_of}
use Rattle.journal_model.specs.marks.Spaces.{Region, regions_after}
use Rattle.journal_model.specs.marks.ByName.{job_by_name, buffers_between}
use Rattle.journal_model.specs.scripts.CommandRules.{is_between, is_declared}

-- what a thread has mapped at a line
pub record ThreadMappings : Type 0 where
  pub mapped : List BufId
  pub regions : List Region

-- nothing is mapped
abbrev pub empty_thread_mappings : ThreadMappings
empty_thread_mappings = record { mapped = []; regions = [] }

-- after a mark
abbrev pub thread_mappings_after : ThreadMappings → MarkKind → ThreadMappings
thread_mappings_after d (mark.Map b) = record d { mapped = b ∷ d.mapped }
thread_mappings_after d (mark.Unmap b) = record d { mapped = without_buffer d.mapped b }
thread_mappings_after d mark.Mapped = d
thread_mappings_after d (mark.Vmap va n b off) = record d { regions = regions_after d.regions (mark.Vmap va n b off) }
thread_mappings_after d (mark.Vunmap va n) = record d { regions = regions_after d.regions (mark.Vunmap va n) }
thread_mappings_after d (mark.Vsubmit ops) = d

-- what the last thread has mapped after its last line
abbrev pub thread_mappings_at_end : Script → ThreadMappings
thread_mappings_at_end script = fold thread_mappings_after empty_thread_mappings (map (λ m. m.kind) (marks_of script (length script.threads)))

-- ---- commands that are written otherwise

-- a read or write of a buffer that is mapped
abbrev pub is_peek_or_poke : ThreadMappings → Command → Bool
is_peek_or_poke d (command.Read b off len) = has_buffer d.mapped b
is_peek_or_poke d (command.Write b off bytes) = has_buffer d.mapped b
is_peek_or_poke d _ = false

-- a range of at least a byte in the space
abbrev pub is_addressed : ℕ → ℕ → Bool
is_addressed addr len = nat_le addr 4294967295 && is_between 1 max_offset len && nat_le (addr + len) space_bytes

-- an operation with addresses
abbrev pub is_vop : VOp → Bool
is_vop (vop.Fill addr len byte) = is_addressed addr len && nat_le byte 255
is_vop (vop.Copy addr from len) = is_addressed addr len && is_addressed from len
is_vop (vop.Xor addr from len) = is_addressed addr len && is_addressed from len
is_vop (vop.Probe addr len) = is_addressed addr len && nat_le len max_shown_bytes

-- the operations are one
abbrev pub same_op : Op → Op → Bool
same_op (op.Fill b i n x) (op.Fill c j m y) = same_buffer b c && (i == j) && (n == m) && (x == y)
same_op (op.Copy b i e k n) (op.Copy c j f l m) = same_buffer b c && (i == j) && same_buffer e f && (k == l) && (n == m)
same_op (op.Xor b i e k n) (op.Xor c j f l m) = same_buffer b c && (i == j) && same_buffer e f && (k == l) && (n == m)
same_op (op.Probe b i n) (op.Probe c j m) = same_buffer b c && (i == j) && (n == m)
same_op _ _ = false

-- the lists are one
abbrev pub same_ops : List Op → List Op → Bool
same_ops [] [] = true
same_ops (x ∷ xs) (y ∷ ys) = same_op x y && same_ops xs ys
same_ops _ _ = false

-- the operations are those of the job by name
abbrev pub is_job_of : Option (List Op) → List Op → Bool
is_job_of None ops = false
is_job_of (Some named) ops = same_ops named ops

-- no buffer stands in both lists
abbrev pub are_apart : List BufId → List BufId → Bool
are_apart bs cs = not (list_any (has_buffer bs) cs)

-- the ranges of a copy or xor have no buffer in common, as far as their pages are mapped
abbrev pub has_apart_ranges : List Region → VOp → Bool
has_apart_ranges regions (vop.Copy addr from len) = are_apart (buffers_between regions addr len) (buffers_between regions from len)
has_apart_ranges regions (vop.Xor addr from len) = are_apart (buffers_between regions addr len) (buffers_between regions from len)
has_apart_ranges regions _ = true

-- all its pages are mapped, no operation has a buffer in both its ranges, and the submit is its job by name
abbrev pub is_vsubmit : ThreadMappings → List VOp → Command → Bool
is_vsubmit d vs (command.Submit engine ops) =
    is_between 1 max_job_ops (length vs) && list_all is_vop vs && list_all (has_apart_ranges d.regions) vs && is_job_of (job_by_name d.regions vs) ops
is_vsubmit d vs _ = false

-- ---- marks

-- at most 4,096 pages inside the space
abbrev pub is_page_range : ℕ → ℕ → Bool
is_page_range va n = nat_le va 1048575 && is_between 1 max_buffer_pages n && nat_le (va + n) space_pages

-- a line of its own
abbrev pub is_mark : Script → ThreadMappings → MarkKind → Bool
is_mark script d (mark.Map b) = is_declared script b && not (has_buffer d.mapped b)
is_mark script d (mark.Unmap b) = has_buffer d.mapped b
is_mark script d (mark.Vmap va n b off) =
    is_page_range va n && is_declared script b && nat_le off 4095 && nat_le (off + n) (decl script b).pages
is_mark script d (mark.Vunmap va n) = is_page_range va n
is_mark script d mark.Mapped = false
is_mark script d (mark.Vsubmit ops) = false

-- how the command below is written
abbrev pub is_way : ThreadMappings → MarkKind → Option Command → Bool
is_way d mark.Mapped (Some cmd) = is_peek_or_poke d cmd
is_way d (mark.Vsubmit vs) (Some cmd) = is_vsubmit d vs cmd
is_way d _ _ = false

-- lines, and at most one way, which stands last
abbrev pub are_marks : Script → ThreadMappings → List MarkKind → Option Command → Bool
are_marks script d [] cmd = true
are_marks script d (m ∷ []) cmd = is_mark script d m || is_way d m cmd
are_marks script d (m ∷ k ∷ ms) cmd = is_mark script d m && are_marks script (thread_mappings_after d m) (k ∷ ms) cmd

-- the marks of a thread from command number n on
abbrev pub marks_fit : Script → ℕ → ℕ → ThreadMappings → List Command → Bool
marks_fit script thread n d [] = are_marks script d (marks_at script thread n) None
marks_fit script thread n d (cmd ∷ commands) =
    are_marks script d (marks_at script thread n) (Some cmd)
    && marks_fit script thread (n + 1) (fold thread_mappings_after d (marks_at script thread n)) commands

-- ---- all marks

-- marks stand in the order of their lines
abbrev pub is_above : Mark → Mark → Bool
is_above m k = nat_lt m.thread k.thread || ((m.thread == k.thread) && nat_le m.after k.after)

-- in rising order of threads and of commands
abbrev pub are_in_order : List Mark → Bool
are_in_order marks = list_all (λ e. is_above e.0 e.1) (zip marks (drop 1 marks))

-- each stands in a thread, at most after its last command
abbrev pub is_in_thread : Script → Mark → Bool
is_in_thread script m =
    is_between 1 (length script.threads) m.thread && nat_le m.after (length (commands_of script m.thread))

-- the mark has a line of its own
abbrev pub is_line : MarkKind → Bool
is_line mark.Mapped = false
is_line (mark.Vsubmit ops) = false
is_line _ = true

-- commands and marks with lines of their own
abbrev pub has_few_lines : Script → ℕ → Bool
has_few_lines script thread =
    nat_le (length (commands_of script thread) + length (filter (λ m. is_line m.kind) (marks_of script thread))) max_thread_lines

-- a script of version 1 has no marks
abbrev pub have_marks : Script → Bool
have_marks script =
    ((script.version == 2) || (length script.marks == 0))
    && are_in_order script.marks && list_all (is_in_thread script) script.marks
    && list_all (has_few_lines script) (thread_numbers script)
    && list_all (λ t. marks_fit script t 0 empty_thread_mappings (commands_of script t)) (thread_numbers script)
