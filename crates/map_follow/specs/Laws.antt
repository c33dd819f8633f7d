-- Areas follow legal journals, as statements.
use Rattle.std.specs.Prelude.{ℕ, ◌+◌, List, [], ◌∷◌, ◌++◌, Some, None, IsTrue, fold}
use Rattle.journal_model.specs.declared.script.Script.{Script}
use Rattle.journal_model.specs.declared.entry.Entry.{Entry}
use Rattle.journal_model.specs.declared.state.State.{State}
use Rattle.journal_model.specs.rules.Legal.{IsLegal, made_of, state_of}
use Rattle.journal_model.specs.scripts.ScriptRules.{is_script}
use Rattle.journal_model.specs.rules.State.{course}
use Rattle.cpu_maps.specs.declared.area.Area.{Area}
use Rattle.cpu_maps.specs.Areas.{areas_of}
use Rattle.law_legal.specs.law_maps.Following.{areas_behind}
use Rattle.map_follow.specs.Ends.{with_end}
use Rattle.map_follow.specs.Follows.{Follows, answerer}
use Rattle.map_follow.specs.Founds.{found_by, place_in, with_found_at}

-- the areas after an answer of thread `t`, which had answered `n` commands: first what it found, then what ends after it
abbrev pub areas_answered : Script → State → ℕ → ℕ → Entry → List Area → List Area
areas_answered script s t n e areas = fold (with_end t (n + 1)) (with_found_at (place_in s) (found_by script n e) areas) script.marks

-- the areas after an entry that was made in a state
abbrev pub areas_after : Script → State → Entry → List Area → List Area
areas_after script s e areas = elim (answerer e) [
  | None ↦ areas_behind e.kind areas
  | Some t ↦ areas_answered script s t (course s t).answered e areas
]

-- areas that follow a journal follow it by one more legal entry
abbrev pub EntriesAreFollowed : Type 0
EntriesAreFollowed =
    (script : Script) (journal : List Entry) (e : Entry) (areas : List Area) →
    IsTrue (is_script script) → IsLegal script (journal ++ e ∷ []) → Follows script (made_of script journal) areas
    → Follows script (made_of script (journal ++ e ∷ [])) (areas_after script (state_of script journal) e areas)

-- the areas of a script follow a journal without an entry
abbrev pub NewAreasFollow : Type 0
NewAreasFollow = (script : Script) → Follows script [] (areas_of script)
