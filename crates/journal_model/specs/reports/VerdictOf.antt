-- The verdict on a report as a function that can be run. It goes through the report's lines up to the first that isn't as it should be, and
-- what it answers is so in the words of `Verdict` (`HoldsOf`).
use Rattle.std.specs.Prelude.{◌≡◌, ℕ, zero, suc, ◌+◌, ◌↔◌, Bool, true, List, [], ◌∷◌, ◌++◌, Option, Some, None, Result, Ok, Err, IsTrue, bytes_eq, length, if◌then◌else◌}
use Rattle.journal_model.specs.Types.{Entry, Kind, Need, Script}
use Rattle.journal_model.specs.scripts.Words.{Text}
use Rattle.journal_model.specs.scripts.Cut.{lines_of}
use Rattle.journal_model.specs.scripts.Readable.{is_u64}
use Rattle.journal_model.specs.rules.Next.{next}
use Rattle.journal_model.specs.rules.Stores.{showing}
use Rattle.journal_model.specs.rules.Legal.{World, first_world, world_after}
use Rattle.journal_model.specs.statements.Complete.{is_complete}
use Rattle.journal_model.specs.reports.ReportText.{report}
use Rattle.journal_model.specs.reports.Verdict.{HasHead, IsEntryText, IsRejected, IsRightTo, unshown}

-- ---- reading

-- How lines are read and entries compared: the count in the first two lines with the lines after them; the entry by an actor of the script
-- of which a line is the text, by its number; and whether two kinds are one. The verdict is the same by each reader that is exact.
pub record Reader : Type 0 where
  pub head : List Text → Option (ℕ × List Text)
  pub entry : ℕ → Text → Option Entry
  pub same : Kind → Kind → Bool

-- `reader` reads exactly what is there
pub record IsExact (script : Script) (reader : Reader) : Type 0 where
  pub head : (text : Text) (count : ℕ) (lines : List Text) → (reader.head (lines_of text) ≡ Some (count, lines)) ↔ HasHead script text count lines
  pub entry : (n : ℕ) (text : Text) (e : Entry) → IsTrue (is_u64 n) → (reader.entry n text ≡ Some e) ↔ IsEntryText script n text e
  pub same : (k l : Kind) → (reader.same k l ≡ true) ↔ (k ≡ l)

-- ---- the verdict; None accepts, and (entry, rule) is the first entry that isn't as it should be with the rule that it breaks

-- the rule that an entry breaks by the step that its actor has next: 3 where it is another step, 4 where it shows something else
abbrev pub rule_of_step : Reader → Script → World → Entry → Result Kind Need → Option ℕ
rule_of_step reader script w e (Err need) = Some 3
rule_of_step reader script w e (Ok k) =
    if reader.same (unshown k) (unshown e.kind)
    then (if reader.same (showing script w.stores w.state e.who k) e.kind then None else Some 4)
    else Some 3

-- the rule that an entry breaks, if it isn't legal next
abbrev pub rule_of_entry : Reader → Script → World → Entry → Option ℕ
rule_of_entry reader script w e = rule_of_step reader script w e (next script w.state e.who)

-- after all entries: 5 where the journal isn't complete, 6 where the text isn't its report
abbrev pub verdict_at_end : Script → Text → List Entry → Option (ℕ × ℕ)
verdict_at_end script text journal =
    if is_complete script journal
    then (if bytes_eq text (report script journal) then None else Some (length journal + 1, 6))
    else Some (length journal + 1, 5)

-- after a legal journal, which leads to the world `w`, with `left` entries and these lines to come: 2 where no line is left or it is no entry's
abbrev pub verdict_from : Reader → Script → Text → ℕ → List Entry → World → List Text → Option (ℕ × ℕ)
verdict_from reader script text zero journal w lines = verdict_at_end script text journal
verdict_from reader script text (suc left) journal w [] = Some (length journal + 1, 2)
verdict_from reader script text (suc left) journal w (l ∷ lines) =
    elim (reader.entry (length journal + 1) l) [
      | None ↦ Some (length journal + 1, 2)
      | Some e ↦ elim (rule_of_entry reader script w e) [
        | Some rule ↦ Some (length journal + 1, rule)
        | None ↦ verdict_from reader script text left (journal ++ e ∷ []) (world_after script w e) lines
      ]
    ]

-- from the first two lines on: 1 where they aren't those of a report of the script
abbrev pub verdict_of : Reader → Script → Text → Option (ℕ × ℕ)
verdict_of reader script text =
    elim (reader.head (lines_of text)) [
      | None ↦ Some (0, 1)
      | Some head ↦ verdict_from reader script text head.0 [] (first_world script) head.1
    ]

-- ---- what it answers

-- The text is right to the end of a legal, complete journal, and is its report. Then it is accepted, since each legal journal is transparent;
-- that the report's lines are those of its entries is a law, too.
pub record IsReport (script : Script) (text : Text) : Type 0 where
  pub journal : List Entry
  pub lines : List Text
  pub right : IsRightTo script text (length journal) journal lines
  pub complete : is_complete script journal ≡ true
  pub says : text ≡ report script journal

-- a verdict holds of a text
abbrev pub HoldsOf : Script → Text → Option (ℕ × ℕ) → Type 0
HoldsOf script text None = IsReport script text
HoldsOf script text (Some rejected) = IsRejected script text rejected.0 rejected.1

-- `verdict_of` answers exactly the verdict that holds, by each reader that is exact
abbrev pub VerdictIsExact : Type 0
VerdictIsExact =
    (script : Script) (reader : Reader) (text : Text) (verdict : Option (ℕ × ℕ)) → IsExact script reader →
    (verdict_of reader script text ≡ verdict) ↔ HoldsOf script text verdict
