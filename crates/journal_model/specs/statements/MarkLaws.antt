-- Laws of mappings by the CPU and of versions, as statements. A crate `law_*` that proves one cites it by its name here; the README says
-- which those are.
use Rattle.std.specs.Prelude.{◌≡◌, ◌↔◌, ℕ, List, [], Some, Contains, drop, length}
use Rattle.journal_model.specs.Types.{Entry, Script}
use Rattle.ttm_base.specs.Pages.{Page}
use Rattle.journal_model.specs.rules.Places.{place_of}
use Rattle.journal_model.specs.scripts.Words.{Text}
use Rattle.journal_model.specs.rules.Legal.{state_of, IsLegal, made_of}
use Rattle.journal_model.specs.statements.Complete.{is_complete}
use Rattle.journal_model.specs.rules.Transparent.{IsTransparent}
use Rattle.journal_model.specs.statements.Causes.{have_causes}
use Rattle.journal_model.specs.statements.Scheduled.{scheduled}
use Rattle.journal_model.specs.marks.Marks.{core_of}
use Rattle.journal_model.specs.marks.Mapped.{Mapping, mappings, mapped_entry}
use Rattle.journal_model.specs.reports.ReportText.{report, report_head}
use Rattle.journal_model.specs.statements.Laws.{ForLegal}

-- a mapping names the place that the page has now
abbrev pub MapsAreRight : Script → List Entry → Type 0
MapsAreRight script journal =
    (m : Mapping) (i : ℕ) (p : Page) →
    Contains (mappings script) m → mapped_entry script (made_of script journal) m i ≡ Some p → p ≡ place_of (state_of script journal).core m.b i

-- no entry of a mapping names a page that its buffer has left
abbrev pub LegalMapsAreRight : Type 0
LegalMapsAreRight = ForLegal MapsAreRight

-- marks change nothing of what happens: a script and the same without marks have the same legal journals
abbrev pub MarksChangeNothing : Type 0
MarksChangeNothing = (script : Script) (journal : List Entry) → IsLegal (core_of script) journal ↔ IsLegal script journal

-- nor what is said of a journal: whether it is transparent, whether it is complete, and whether what gives up has its cause
pub record HaveOneStory (script other : Script) (journal : List Entry) : Type 0 where
  pub transparent : IsTransparent script journal ↔ IsTransparent other journal
  pub complete : is_complete script journal ≡ is_complete other journal
  pub causes : have_causes script [] (made_of script journal) ≡ have_causes other [] (made_of other journal)

abbrev pub MarksTellNothing : Type 0
MarksTellNothing = (script : Script) (journal : List Entry) → HaveOneStory (core_of script) script journal

-- nor the journal after so many turns of the simulator
abbrev pub MarksTurnNothing : Type 0
MarksTurnNothing = (script : Script) (n : ℕ) → scheduled (core_of script) n ≡ scheduled script n

-- a report without its first line
abbrev pub behind_head : Script → List Entry → Text
behind_head script journal = drop (length (report_head script)) (report script journal)

-- the reports of a journal in both versions of a script differ in their first line alone
abbrev pub ReportsAgree : Type 0
ReportsAgree = (script : Script) (version : ℕ) (journal : List Entry) → behind_head (record script { version = version }) journal ≡ behind_head script journal
