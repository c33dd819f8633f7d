-- What reading a report and checking its journal tell of the verdict.
use Rattle.std.proofs.Common.{◌≡◌, ℕ, zero, suc, ◌+◌, ◌≤◌, true, List, [], ◌∷◌, ◌++◌, length, Option, Some, None, IsTrue, refl, sym, subst, ◌∙◌, ap, arith}
use Rattle.std.specs.Prelude.{slice_get, take, drop}
use Rattle.std.proofs.lemmas.List.{length-take-le}
use Rattle.std.proofs.lemmas.Option.{slice_get_within}
use Rattle.journal_model.specs.declared.script.Script.{Script}
use Rattle.journal_model.specs.declared.entry.Entry.{Entry}
use Rattle.journal_model.specs.scripts.Words.{Text}
use Rattle.journal_model.specs.scripts.Cut.{lines_of}
use Rattle.journal_model.specs.scripts.ScriptRules.{is_script}
use Rattle.journal_model.specs.rules.Legal.{IsLegal, world_of}
use Rattle.journal_model.specs.statements.Complete.{is_complete}
use Rattle.journal_model.specs.reports.ReportText.{report}
use Rattle.journal_model.specs.reports.Verdict.{IsAccepted, IsRejected, TellsNext, no_head, no_step, not_shown, not_complete, no_end}
use Rattle.laws.proofs.law_transparent.Law.{transparent_given}
use Rattle.laws.proofs.law_transparent.Ways.{have_ways}
use Rattle.entry_reader.specs.declared.report.ReportBad.{ReportBad}
use Rattle.entry_reader.specs.declared.rule.Rule.{Rule}
use Rattle.entry_reader.specs.declared.rule.Rule.TheVariants as rule
use Rattle.entry_reader.specs.Parsing.{HasEntries, IsBadFrom, IsReadTo, IsWhole}
use Rattle.entry_reader.specs.Rules.{number_of}
use Rattle.entry_reader.proofs.Verdicts.{cut_rejects, right_to, tells_next}
use Rattle.report_text.specs.Parts.{journal_part}
use Rattle.report_check.specs.declared.judge.Verdict.{Verdict}
use Rattle.report_check.specs.declared.judge.Verdict.TheVariants as verdict
use Rattle.report_check.specs.Judged.{Breaks, IsBadAt, Judges}

-- the entries before one, it, and those after it
split_at : (es : List Entry) (at : ℕ) (e : Entry) → slice_get es at ≡ Some e → es ≡ take at es ++ e ∷ drop (at + 1) es
split_at [] at e h = cc
split_at (x ∷ es) zero e h = let it : x ≡ e = cc in ap (λ y. y ∷ es) it
split_at (x ∷ es) (suc at) e h =
    let n : suc (at + 1) ≡ suc at + 1 = omega arith in
    ap (λ ys. x ∷ ys) (split_at es at e h) ∙ ap (λ m. x ∷ (take at es ++ e ∷ drop m (x ∷ es))) n

-- ---- what a check tells

-- a journal that isn't bad is legal
pub legal_unless_bad : (script : Script) (journal : List Entry) (v : Verdict) → ((number : ℕ) (r : Rule) → v ≡ verdict.Bad number r → ⊥) → Judges script journal v → IsLegal script journal
legal_unless_bad script journal verdict.Valid other h = h.0
legal_unless_bad script journal verdict.Incomplete other h = h.0
legal_unless_bad script journal (verdict.Bad number r) other h = absurd (other number r refl)

-- and complete, if it isn't incomplete
pub complete_unless_incomplete : (script : Script) (journal : List Entry) (v : Verdict) → ((number : ℕ) (r : Rule) → v ≡ verdict.Bad number r → ⊥) → (v ≡ verdict.Incomplete → ⊥) →
    Judges script journal v → is_complete script journal ≡ true
complete_unless_incomplete script journal verdict.Valid other whole h = h.1
complete_unless_incomplete script journal verdict.Incomplete other whole h = absurd (whole refl)
complete_unless_incomplete script journal (verdict.Bad number r) other whole h = absurd (other number r refl)

module _ (script : Script) (text : Text) where
  -- ---- an entry that isn't legal next

  by_rule : (count : ℕ) (journal : List Entry) (e : Entry) (r : Rule) → TellsNext script text count journal e → Breaks script (world_of script journal) e r →
      IsRejected script text (length journal + 1) (number_of r)
  by_rule count journal e rule.Step tells h = no_step count journal e tells h
  by_rule count journal e rule.Shown tells h = not_shown count journal e tells h.0 h.1
  by_rule count journal e rule.Head tells h = absurd h
  by_rule count journal e rule.Line tells h = absurd h
  by_rule count journal e rule.Complete tells h = absurd h
  by_rule count journal e rule.End tells h = absurd h

  bad_among : (count rest : ℕ) (journal : List Entry) → HasEntries script text count rest journal → length journal ≤ count → (number : ℕ) (r : Rule) →
      IsBadAt script journal number r → IsRejected script text number (number_of r)
  bad_among count rest journal told within number r bad =
      let front = take bad.at journal in
      let back = drop (bad.at + 1) journal in
      let less = slice_get_within journal bad.at bad.entry bad.there in
      let len : length front ≡ bad.at = length-take-le bad.at journal (omega (arith, less)) in
      let is : length front + 1 ≡ number = ap (λ n. n + 1) len ∙ sym bad.counted in
      let split : journal ≡ front ++ bad.entry ∷ back = split_at journal bad.at bad.entry bad.there in
      let told_split : HasEntries script text count rest (front ++ bad.entry ∷ back) = subst (λ (es : List Entry). HasEntries script text count rest es) split told in
      let within_split : length (front ++ bad.entry ∷ back) ≤ count = subst (λ (es : List Entry). length es ≤ count) split within in
      subst (λ n. IsRejected script text n (number_of r)) is
      (by_rule count front bad.entry r (tells_next script text count rest front bad.entry back told_split within_split bad.before) bad.breaks)

  -- where reading ended at a bad line, it is one of the entries before
  bad_before : (rest : ℕ) (journal : List Entry) (entry : ℕ) (x : Rule) → IsBadFrom script text rest journal entry x → (number : ℕ) (r : Rule) →
      IsBadAt script journal number r → IsRejected script text number (number_of r)
  bad_before rest journal entry rule.Head read number r bad =
      let none : slice_get [] bad.at ≡ Some bad.entry = subst (λ (es : List Entry). slice_get es bad.at ≡ Some bad.entry) read.none bad.there in
      let both_ways : None ≡ Some bad.entry = none in
      cc
  bad_before rest journal entry rule.Line read number r bad = let counted = read.0.counted in bad_among read.0.count rest journal read.0.told (omega (arith, counted)) number r bad
  bad_before rest journal entry rule.Step read number r bad = absurd read
  bad_before rest journal entry rule.Shown read number r bad = absurd read
  bad_before rest journal entry rule.Complete read number r bad = absurd read
  bad_before rest journal entry rule.End read number r bad = absurd read

  pub bad_entry : (rest : ℕ) (journal : List Entry) (o : Option ReportBad) → IsReadTo script text rest journal o → (number : ℕ) (r : Rule) → IsBadAt script journal number r →
      IsRejected script text number (number_of r)
  bad_entry rest journal None read number r bad = bad_among (length journal) rest journal read.told (omega arith) number r bad
  bad_entry rest journal (Some x) read number r bad = bad_before rest journal x.entry x.rule read number r bad

  -- ---- a legal journal

  -- the line at which reading ended
  pub bad_line : (rest : ℕ) (journal : List Entry) (entry : ℕ) (r : Rule) → IsBadFrom script text rest journal entry r → IsLegal script journal → IsRejected script text entry (number_of r)
  bad_line rest journal entry rule.Head read legal = subst (λ n. IsRejected script text n 1) (sym read.named) (no_head read.no_head)
  bad_line rest journal entry rule.Line read legal = subst (λ n. IsRejected script text n 2) (sym read.1) (cut_rejects script text rest journal read.0 legal)
  bad_line rest journal entry rule.Step read legal = absurd read
  bad_line rest journal entry rule.Shown read legal = absurd read
  bad_line rest journal entry rule.Complete read legal = absurd read
  bad_line rest journal entry rule.End read legal = absurd read

  pub incomplete : (rest : ℕ) (journal : List Entry) → IsWhole script text rest journal → Judges script journal verdict.Incomplete → IsRejected script text (length journal + 1) 5
  incomplete rest journal whole judged =
      not_complete journal (lines_of (drop rest text)) (right_to script text (length journal) rest journal whole.told (omega arith) judged.0) judged.1

  pub other_end : (rest : ℕ) (journal : List Entry) → IsWhole script text rest journal → IsLegal script journal → is_complete script journal ≡ true →
      (journal_part script journal ++ drop rest text ≡ report script journal → ⊥) → IsRejected script text (length journal + 1) 6
  other_end rest journal whole legal complete other =
      no_end journal (lines_of (drop rest text)) (right_to script text (length journal) rest journal whole.told (omega arith) legal)
      complete (λ same. other (sym whole.told.bytes ∙ same))

  pub accepted : (rest : ℕ) (journal : List Entry) → IsTrue (is_script script) → IsWhole script text rest journal → IsLegal script journal → is_complete script journal ≡ true →
      journal_part script journal ++ drop rest text ≡ report script journal → IsAccepted script text
  accepted rest journal fits whole legal complete same =
      record {
        journal = journal;
        legal = legal;
        complete = complete;
        transparent = transparent_given script fits (have_ways script fits) journal legal;
        says = whole.told.bytes ∙ same;
      }
