-- Faults, as a journal alone tells them: for each page the thread's last peek or poke since the page came.
use Rattle.std.specs.Prelude.{◌≡◌, ℕ, ◌+◌, ◌-◌, ◌/◌, Bool, true, List, [], Option, None, Some, ◌==◌, ◌&&◌, nat_le, nat_lt, filter, option_map, slice_get, unwrap_or, if◌then◌else◌}
use Rattle.std.specs.List.{list_any}
use Rattle.ttm_base.specs.declared.BufId.{BufId}
use Rattle.ttm_base.specs.ListWords.{count_from}
use Rattle.journal_model.specs.declared.script.Script.{Script}
use Rattle.journal_model.specs.declared.entry.Entry.{Entry}
use Rattle.journal_model.specs.declared.entry.Kind.{Kind}
use Rattle.journal_model.specs.declared.entry.Kind.TheVariants as kind
use Rattle.journal_model.specs.scripts.Words.{Text}
use Rattle.journal_model.specs.rules.Legal.{IsLegal}
use Rattle.journal_model.specs.marks.Marks.{is_map}
use Rattle.journal_model.specs.marks.Mapped.{Access}
use Rattle.journal_model.specs.reports.ReportText.{faults_line}
use Rattle.map_access.specs.declared.access.Access as rust
pub use Rattle.map_access.specs.Accesses.{access_in, mapped_from, paged}

-- the number of a page, or 0
abbrev pub number_at : List ℕ → ℕ → ℕ
number_at pages page = unwrap_or (slice_get pages page) 0

-- the number of a page of a buffer, or 0
abbrev pub seen_at : List (List ℕ) → ℕ → ℕ → ℕ
seen_at seen b page = number_at (unwrap_or (slice_get seen b) []) page

-- a page has no entry: there is no mapping, or the command of number last, which met the page last, came before the mapping
abbrev pub is_fault : Option ℕ → ℕ → Bool
is_fault None last = true
is_fault (Some from) last = nat_le last from

-- the pages of an access that have no entry
abbrev pub faults_in : List (List ℕ) → Option ℕ → rust.Access → List ℕ
faults_in seen from a = filter (λ i. is_fault from (seen_at seen a.b.0 i)) (count_from 1 (a.end - a.first) a.first)

-- the line of an entry, or none
abbrev pub faults_text : Script → ℕ → ℕ → List (List ℕ) → Option rust.Access → Text
faults_text script thread n seen None = []
faults_text script thread n seen (Some a) = faults_line thread n (faults_in seen (mapped_from script thread n a.b) a)

-- the number of a page after an entry: 0 for a page that leaves its place
abbrev pub left_by : Kind → ℕ → ℕ → ℕ → ℕ
left_by (kind.Free b g) c i old = if c == b.0 then 0 else old
left_by (kind.Move b mem n l) c i old = if c == b.0 then 0 else old
left_by (kind.Bind b) c i old = if c == b.0 then 0 else old
left_by (kind.Unbind b) c i old = if c == b.0 then 0 else old
left_by (kind.SwapOut b page k) c i old = if (c == b.0) && (page == i) then 0 else old
left_by _ c i old = old

-- the number of a page after an access by the command of this number
abbrev pub met_by : rust.Access → ℕ → ℕ → ℕ → ℕ → ℕ
met_by a number c i old = if (c == a.b.0) && (nat_le a.first i && nat_lt i a.end) then number else old

-- the number of a page after an entry and, if it has one, its access
abbrev pub seen_after : Option rust.Access → ℕ → Kind → ℕ → ℕ → ℕ → ℕ
seen_after None n k c i old = left_by k c i old
seen_after (Some a) n k c i old = met_by a (n + 1) c i old

-- the journal is legal, if the script has a map line
abbrev pub IsLegalIfMapped : Script → List Entry → Type 0
IsLegalIfMapped script journal = list_any (λ m. is_map m.kind) script.marks ≡ true → IsLegal script journal
