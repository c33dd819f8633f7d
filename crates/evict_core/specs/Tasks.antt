-- The end of a victim: skipped, or let go.
use Rattle.std.specs.Prelude.{Bool, true, false, Result, Ok, Err}
use Rattle.ttm_base.specs.declared.Need.{Need}
use Rattle.journal_model.specs.declared.state.Task.{Task}
use Rattle.journal_model.specs.declared.state.Task.TheVariants as task
use Rattle.journal_model.specs.declared.entry.Entry.{Entry}
use Rattle.journal_model.specs.declared.entry.Kind.{Kind}
use Rattle.journal_model.specs.declared.entry.Kind.TheVariants as kind

-- the task is to skip a victim
abbrev pub is_skip : Task → Bool
is_skip (task.Skip b) = true
is_skip _ = false

-- an entry of the kind lets a victim go
abbrev pub is_loose_kind : Kind → Bool
is_loose_kind (kind.Loose b) = true
is_loose_kind _ = false

-- the next entry lets a victim go
abbrev pub lets_go : Result Entry Need → Bool
lets_go (Ok e) = is_loose_kind e.kind
lets_go (Err n) = false
