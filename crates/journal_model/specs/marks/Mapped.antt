-- What a thread's mapping of a buffer knows (vm_area_struct, ttm_bo_vm_fault): entries that come by access and go when a page leaves.
use Rattle.std.specs.Prelude.{ℕ, ◌+◌, ◌*◌, ◌/◌, Bool, false, List, [], ◌∷◌, ◌++◌, Option, Some, None, ◌==◌, ◌&&◌, not, nat_lt, nat_le, filter, find, map, fold, length, option_map, option_and_then, slice_get, is_none, if◌then◌else◌}
use Rattle.journal_model.specs.Types.{BufId, Command, Kind, Mark, MarkKind, Script}
use Rattle.journal_model.specs.declared.script.Command.TheVariants as command
use Rattle.journal_model.specs.declared.script.MarkKind.TheVariants as mark
use Rattle.journal_model.specs.declared.entry.Kind.TheVariants as kind
use Rattle.ttm_base.specs.ListWords.{count_from}
use Rattle.ttm_base.specs.Pages.{Page}
use Rattle.journal_model.specs.rules.State.{buffer, course, same_buffer}
use Rattle.journal_model.specs.rules.Commands.{commands_of}
use Rattle.journal_model.specs.rules.Places.{page_at}
use Rattle.journal_model.specs.rules.Legal.{Made}
use Rattle.journal_model.specs.statements.Complete.{is_by_thread, answers_of}
use Rattle.journal_model.specs.marks.Marks.{is_mapped_at}

-- a mapping of a buffer by a thread. It begins before command number `from` and ends before command number `upto`, counted from 0, or never
pub record Mapping : Type 0 where
  pub thread : ℕ
  pub b : BufId
  pub from : ℕ
  pub upto : Option ℕ

-- the mark ends the thread's mapping of the buffer
abbrev pub unmaps : ℕ → BufId → Mark → Bool
unmaps thread b m = (m.thread == thread) && elim m.kind [ mark.Unmap c ↦ same_buffer b c | _ ↦ false ]

-- before which command the next unmap of the buffer stands
abbrev pub end_of : ℕ → BufId → List Mark → Option ℕ
end_of thread b marks = option_map (λ m. m.after) (find (unmaps thread b) marks)

-- the mapping of a map mark, by the marks after it
abbrev pub mapping_of : Mark → List Mark → MarkKind → List Mapping
mapping_of m behind (mark.Map b) = record { thread = m.thread; b = b; from = m.after; upto = end_of m.thread b behind } ∷ []
mapping_of m behind _ = []

-- each map mark is a mapping of its own
abbrev pub mappings_in : List Mark → List Mapping
mappings_in [] = []
mappings_in (m ∷ marks) = mapping_of m marks m.kind ++ mappings_in marks

-- all mappings of a script
abbrev pub mappings : Script → List Mapping
mappings script = mappings_in script.marks

-- the mapping has ended once this many commands are answered: its unmap stands before the command that comes next, or before an earlier one
abbrev pub has_ended : Mapping → ℕ → Bool
has_ended m answered = elim m.upto [ None ↦ false | Some n ↦ nat_le n answered ]

-- ---- accesses

-- a range of a buffer
pub record Access : Type 0 where
  pub b : BufId
  pub off : ℕ
  pub len : ℕ

-- the range that a command reads or writes
abbrev pub access_of : Command → Option Access
access_of (command.Read b off len) = Some (record { b = b; off = off; len = len })
access_of (command.Write b off bytes) = Some (record { b = b; off = off; len = length bytes })
access_of _ = None

-- the range has a byte of the page
abbrev pub meets_page : Access → ℕ → Bool
meets_page a i = nat_lt a.off (4096 * (i + 1)) && nat_lt (4096 * i) (a.off + a.len)

-- the access of command number n of a thread, counted from 0, if it is a peek or a poke
abbrev pub peek_or_poke : Script → ℕ → ℕ → Option Access
peek_or_poke script thread n =
    if is_mapped_at script thread n then option_and_then access_of (slice_get (commands_of script thread) n) else None

-- the access goes through the mapping
abbrev pub is_through : Mapping → ℕ → ℕ → Access → Bool
is_through m thread n a = (m.thread == thread) && same_buffer m.b a.b && nat_le m.from n && not (has_ended m n)

-- ---- entries

-- how many commands the thread had answered
abbrev pub answered_before : Made → ℕ → ℕ
answered_before m thread = (course m.before thread).answered

-- the access of a result
abbrev pub access_at : Script → ℕ → Made → Option Access
access_at script thread m =
    if is_by_thread thread m.entry.who then peek_or_poke script thread (answered_before m thread) else None

-- the entry of page `i` after a result: where its access goes through the mapping and has a byte of the page, the place where the page is; else
-- the entry from before, `old`
abbrev pub seen : Script → Mapping → ℕ → Made → Option Page → Option Page
seen script m i e old =
    elim (access_at script m.thread e) [
      | None ↦ old
      | Some a ↦ if is_through m m.thread (answered_before e m.thread) a && meets_page a i then Some (page_at (buffer e.before m.b) i) else old
    ]

-- no entry, where the mapping is of the buffer `b`; else the entry from before, `old`
abbrev pub unless_of : Mapping → BufId → Option Page → Option Page
unless_of m b old = if same_buffer m.b b then None else old

-- the entry of page `i` after an entry of the journal: a result may bring it, and it goes when its buffer is freed, moved, bound or unbound, or
-- when its page goes to swap
abbrev pub entry_after : Script → Mapping → ℕ → Made → Kind → Option Page → Option Page
entry_after script m i e (kind.Result r) old = seen script m i e old
entry_after script m i e (kind.Free b g) old = unless_of m b old
entry_after script m i e (kind.Move b mem n l) old = unless_of m b old
entry_after script m i e (kind.Bind b) old = unless_of m b old
entry_after script m i e (kind.Unbind b) old = unless_of m b old
entry_after script m i e (kind.SwapOut b page k) old = if page == i then unless_of m b old else old
entry_after script m i e _ old = old

-- how many commands a thread has answered in a journal
abbrev pub count_answers : ℕ → List Made → ℕ
count_answers thread made = answers_of thread (map (λ e. e.entry) made)

-- the entry that a mapping has for page `i` after a journal; none after its end
abbrev pub mapped_entry : Script → List Made → Mapping → ℕ → Option Page
mapped_entry script made m i =
    if has_ended m (count_answers m.thread made)
    then None
    else fold (λ old e. entry_after script m i e e.entry.kind old) None made

-- ---- faults

-- the first mapping through which an access goes, by command number `n` of the thread
abbrev pub mapping_at : Script → ℕ → ℕ → Access → Option Mapping
mapping_at script thread n a = find (λ m. is_through m thread n a) (mappings script)

-- the pages of which the range has a byte, in rising order: none stands before the page of its first byte, nor more than one page after its
-- length in pages
abbrev pub pages_of_access : Access → List ℕ
pages_of_access a = filter (meets_page a) (count_from 1 (a.len / 4096 + 2) (a.off / 4096))

-- the pages of an access that have no entry just before its result. `before` is the journal up to there; without a mapping each page counts
abbrev pub faulted : Script → List Made → ℕ → ℕ → Access → List ℕ
faulted script before thread n a =
    elim (mapping_at script thread n a) [
      | None ↦ pages_of_access a
      | Some m ↦ filter (λ i. is_none (mapped_entry script before m i)) (pages_of_access a)
    ]
