-- Mappings that end after an answer.
use Rattle.std.specs.Prelude.{ℕ, List, ◌==◌, ◌&&◌, map, if◌then◌else◌}
use Rattle.journal_model.specs.declared.script.Mark.{Mark}
use Rattle.journal_model.specs.declared.script.MarkKind.{MarkKind}
use Rattle.journal_model.specs.declared.script.MarkKind.TheVariants as mark
use Rattle.cpu_maps.specs.declared.area.Area.{Area}
use Rattle.cpu_maps.specs.Areas.{unmapped}

-- the areas after a line of the thread
abbrev pub behind_line : ℕ → MarkKind → List Area → List Area
behind_line thread (mark.Unmap b) areas = map (unmapped thread b) areas
behind_line thread _ areas = areas

-- the areas after a line, if it is the thread's and follows `n` of its commands
abbrev pub with_end : ℕ → ℕ → List Area → Mark → List Area
with_end thread n areas m = if (m.thread == thread) && (m.after == n) then behind_line thread m.kind areas else areas
