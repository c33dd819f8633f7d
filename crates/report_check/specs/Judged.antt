-- What is said of an entry, and of a journal.
use Rattle.std.specs.Prelude.{◌≡◌, ℕ, ◌+◌, true, false, List, Option, Some, None, slice_get, take}
use Rattle.journal_model.specs.declared.script.Script.{Script}
use Rattle.journal_model.specs.declared.entry.Entry.{Entry}
use Rattle.journal_model.specs.declared.entry.Kind.{Kind}
use Rattle.journal_model.specs.rules.Legal.{World, IsLegal, IsLegalNext, world_of}
use Rattle.journal_model.specs.statements.Complete.{is_complete}
use Rattle.journal_model.specs.reports.Verdict.{unshown, IsStep}
use Rattle.entry_reader.specs.declared.rule.Rule.{Rule}
use Rattle.entry_reader.specs.declared.rule.Rule.TheVariants as rule
use Rattle.report_check.specs.declared.judge.Verdict.{Verdict}
use Rattle.report_check.specs.declared.judge.Verdict.TheVariants as verdict

-- ---- of an entry

-- the kinds are the same, or only their steps are, or not even these
abbrev pub Differs : Kind → Kind → Option Rule → Type 0
Differs made told None = made ≡ told
Differs made told (Some rule.Shown) = (unshown made ≡ unshown told) × (made ≡ told → ⊥)
Differs made told (Some rule.Step) = unshown made ≡ unshown told → ⊥
Differs made told (Some _) = ⊥

-- the rule that an entry breaks which isn't legal next
abbrev pub Breaks : Script → World → Entry → Rule → Type 0
Breaks script w e rule.Step = IsStep script w e → ⊥
Breaks script w e rule.Shown = IsStep script w e × (IsLegalNext script w e → ⊥)
Breaks script w e _ = ⊥

-- the entry is legal next, or breaks this rule
abbrev pub IsJudged : Script → World → Entry → Option Rule → Type 0
IsJudged script w e None = IsLegalNext script w e
IsJudged script w e (Some r) = Breaks script w e r

-- ---- of a journal

-- the first entry that isn't legal next, counted from 1, and the rule that it breaks; so the journal isn't legal
pub record IsBadAt (script : Script) (journal : List Entry) (number : ℕ) (r : Rule) : Type 0 where
  pub at : ℕ
  pub entry : Entry
  pub counted : number ≡ at + 1
  pub there : slice_get journal at ≡ Some entry
  pub before : IsLegal script (take at journal)
  pub breaks : Breaks script (world_of script (take at journal)) entry r
  pub not_legal : IsLegal script journal → ⊥

-- what is said of a journal
abbrev pub Judges : Script → List Entry → Verdict → Type 0
Judges script journal verdict.Valid = IsLegal script journal × (is_complete script journal ≡ true)
Judges script journal verdict.Incomplete = IsLegal script journal × (is_complete script journal ≡ false)
Judges script journal (verdict.Bad number r) = IsBadAt script journal number r
