-- Requests that an address space can answer.
use Rattle.std.specs.Prelude.{ℕ, ◌+◌, Bool, true, List, ◌==◌, ◌&&◌, nat_le, filter, map}
use Rattle.std.specs.List.{list_all}
use Rattle.journal_model.specs.declared.script.Script.{Script}
use Rattle.journal_model.specs.declared.script.Mark.{Mark}
use Rattle.journal_model.specs.declared.script.MarkKind.{MarkKind}
use Rattle.journal_model.specs.declared.script.MarkKind.TheVariants as mark
use Rattle.journal_model.specs.marks.Marks.{is_request}

-- a request has at least a page, lies in the space, and maps pages that a buffer may have
abbrev pub is_in_space : MarkKind → Bool
is_in_space (mark.Vmap va n b off) = nat_le 1 n && nat_le (va + n) 1048576 && nat_le (off + n) 4096
is_in_space (mark.Vunmap va n) = nat_le 1 n && nat_le (va + n) 1048576
is_in_space _ = true

-- each request of a script is one that an address space can answer
abbrev pub are_in_spaces : Script → Bool
are_in_spaces script = list_all (λ m. is_in_space m.kind) script.marks

-- the requests of a thread among marks
abbrev pub requests_among : ℕ → List Mark → List MarkKind
requests_among thread marks = filter is_request (map (λ m. m.kind) (filter (λ m. m.thread == thread) marks))

-- a mark is a request of the thread
abbrev pub is_asked_by : ℕ → Mark → Bool
is_asked_by thread m = (m.thread == thread) && is_request m.kind
