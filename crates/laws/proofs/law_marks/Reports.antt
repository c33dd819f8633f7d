-- The version of a script changes no line of a report but the first.
use Rattle.std.proofs.Common.{◌≡◌, ℕ, true, false, List, [], ◌∷◌, ◌++◌, length, Option, Some, None, drop, append_assoc, refl, sym, ◌∙◌, ap}
use Rattle.std.specs.Prelude.{filter, flat_map, fold, is_none, decimal, codes, if◌then◌else◌}
use Rattle.std.specs.List.{list_any, enumerate_from}
use Rattle.std.proofs.Math.Seq.{drop-append_seam}
use Rattle.ttm_base.specs.Pages.{Page}
use Rattle.journal_model.specs.declared.script.Script.{Script}
use Rattle.journal_model.specs.declared.space.VStep.{VStep}
use Rattle.journal_model.specs.declared.space.VStep.TheVariants as vstep
use Rattle.journal_model.specs.declared.entry.Entry.{Entry}
use Rattle.journal_model.specs.declared.entry.Kind.{Kind}
use Rattle.journal_model.specs.declared.entry.Kind.TheVariants as kind
use Rattle.journal_model.specs.declared.entry.DryWhy.{DryWhy}
use Rattle.journal_model.specs.declared.entry.DryWhy.TheVariants as dry
use Rattle.journal_model.specs.scripts.Words.{Text, line, name_of, actor_word, thread_word}
use Rattle.journal_model.specs.reports.EntryText.{dry_word, kind_words, entry_line}
use Rattle.journal_model.specs.statements.Complete.{thread_numbers}
use Rattle.journal_model.specs.rules.Legal.{World, first_world, world_along, state_of, Made, made_along}
use Rattle.journal_model.specs.marks.Marks.{is_map, is_vmap, requests_of}
use Rattle.journal_model.specs.marks.Spaces.{steps_along}
use Rattle.journal_model.specs.marks.Mapped.{Mapping, Access, access_at, answered_before, count_answers, has_ended, entry_after, mapped_entry, mapping_at, pages_of_access, faulted}
use Rattle.journal_model.specs.reports.ReportText.{thread_results, account_lines, faults_line, fault_lines, thread_faults, maps_part, step_words, thread_steps, spaces_part, report_head}
use Rattle.journal_model.specs.statements.MarkLaws.{behind_head, ReportsAgree}
use Rattle.laws.proofs.law_search.FormSearches.{in_form}
use Rattle.laws.proofs.law_search.FormSteps.{world_same}

-- all lines but the first
abbrev lines_behind : Script → List Entry → Text
lines_behind script journal =
    line (codes "journal" ∷ decimal (length journal) ∷ [])
    ++ flat_map (entry_line script) (enumerate_from 1 journal)
    ++ line (codes "results" ∷ [])
    ++ flat_map (thread_results journal) (thread_numbers script)
    ++ line (codes "accounts" ∷ [])
    ++ account_lines script (state_of script journal).core
    ++ maps_part script journal
    ++ spaces_part script
    ++ line (codes "end" ∷ [])

module _ (v : ℕ) (script : Script) where
  -- the script in the other version
  abbrev other : Script
  other = in_form v script.marks script

  -- ---- entries

  dry_same : (w : DryWhy) → dry_word other w ≡ dry_word script w
  dry_same dry.Short = refl
  dry_same (dry.Of rows) = refl

  words_same : (k : Kind) → kind_words other k ≡ kind_words script k
  words_same (kind.Dry b k w) = λ i. codes "dry" ∷ name_of script b ∷ decimal k ∷ dry_same w i ∷ []
  words_same k = refl

  entry_same : (e : ℕ × Entry) → entry_line other e ≡ entry_line script e
  entry_same e = λ i. line (decimal e.0 ∷ actor_word e.1.who ∷ words_same e.1.kind i)

  -- ---- states

  along_same : (w : World) (es : List Entry) → world_along other w es ≡ world_along script w es
  along_same w [] = refl
  along_same w (e ∷ es) = λ i. along_same (world_same v script.marks script w e i) es i

  made_same : (w : World) (es : List Entry) → made_along other w es ≡ made_along script w es
  made_same w [] = refl
  made_same w (e ∷ es) = λ i. record { before = w.state; entry = e } ∷ made_same (world_same v script.marks script w e i) es i

  -- ---- faults

  after_same : (m : Mapping) (page : ℕ) (e : Made) (k : Kind) (old : Option Page) → entry_after other m page e k old ≡ entry_after script m page e k old
  after_same m page e (kind.Result r) old = refl
  after_same m page e k old = refl

  mapped_same : (made : List Made) (m : Mapping) (page : ℕ) → mapped_entry other made m page ≡ mapped_entry script made m page
  mapped_same made m page = λ i.
      if has_ended m (count_answers m.thread made)
      then None
      else fold (λ old e. after_same m page e e.entry.kind old i) None made

  faulted_same : (before : List Made) (thread n : ℕ) (a : Access) → faulted other before thread n a ≡ faulted script before thread n a
  faulted_same before thread n a = λ i.
      elim (mapping_at script thread n a) [
        | None ↦ pages_of_access a
        | Some m ↦ filter (λ page. is_none (mapped_same before m page i)) (pages_of_access a)
      ]

  line_same : (before : List Made) (thread : ℕ) (m : Made) → fault_lines other before thread m ≡ fault_lines script before thread m
  line_same before thread m = λ i.
      elim m.entry.kind [
        | kind.Result r ↦ elim (access_at script thread m) [
          | None ↦ []
          | Some a ↦ faults_line thread (answered_before m thread) (faulted_same before thread (answered_before m thread) a i)
        ]
        | _ ↦ []
      ]

  faults_same : (thread : ℕ) (before made : List Made) → thread_faults other thread before made ≡ thread_faults script thread before made
  faults_same thread before [] = refl
  faults_same thread before (m ∷ made) = λ i. line_same before thread m i ++ faults_same thread (before ++ m ∷ []) made i

  maps_same : (journal : List Entry) → maps_part other journal ≡ maps_part script journal
  maps_same journal = λ i.
      elim (list_any (λ m. is_map m.kind) script.marks) [
        | true ↦ line (codes "maps" ∷ []) ++ flat_map (λ t. faults_same t [] (made_same (first_world script) journal i) i) (thread_numbers script)
        | false ↦ []
      ]

  -- ---- steps of requests

  step_same : (s : VStep) → step_words other s ≡ step_words script s
  step_same (vstep.Unmap s) = refl
  step_same (vstep.Remap s before behind) = refl
  step_same (vstep.Map s b off) = refl

  steps_same : (thread : ℕ) → thread_steps other thread ≡ thread_steps script thread
  steps_same thread = λ i.
      flat_map (λ e. flat_map (λ s. line (thread_word thread ∷ decimal e.0 ∷ step_same s i)) e.1) (enumerate_from 1 (steps_along [] (requests_of script thread)))

  spaces_same : spaces_part other ≡ spaces_part script
  spaces_same = λ i.
      elim (list_any (λ m. is_vmap m.kind) script.marks) [
        | true ↦ line (codes "spaces" ∷ []) ++ flat_map (λ t. steps_same t i) (thread_numbers script)
        | false ↦ []
      ]

  -- ---- all lines

  lines_same : (journal : List Entry) → lines_behind other journal ≡ lines_behind script journal
  lines_same journal = λ i.
      line (codes "journal" ∷ decimal (length journal) ∷ [])
      ++ flat_map (λ e. entry_same e i) (enumerate_from 1 journal)
      ++ line (codes "results" ∷ [])
      ++ flat_map (thread_results journal) (thread_numbers script)
      ++ line (codes "accounts" ∷ [])
      ++ account_lines script (along_same (first_world script) journal i).state.core
      ++ maps_same journal i
      ++ spaces_same i
      ++ line (codes "end" ∷ [])

-- ---- after the first line

-- a text after its head, and one more text
joined : (head all rest more : Text) → all ≡ head ++ rest → all ++ more ≡ head ++ (rest ++ more)
joined head all rest more e = ap (λ t. t ++ more) e ∙ append_assoc head rest more

headed : (head a b c d e f g h k : Text) → head ++ a ++ b ++ c ++ d ++ e ++ f ++ g ++ h ++ k ≡ head ++ (a ++ b ++ c ++ d ++ e ++ f ++ g ++ h ++ k)
headed head a b c d e f g h k = joined head _ _ k (joined head _ _ h (joined head _ _ g (joined head _ _ f (joined head _ _ e (joined head _ _ d (joined head _ _ c (joined head _ _ b refl)))))))

behind_is : (script : Script) (journal : List Entry) → behind_head script journal ≡ lines_behind script journal
behind_is script journal = ap (drop (length (report_head script))) (headed (report_head script) _ _ _ _ _ _ _ _ _) ∙ drop-append_seam (report_head script) (lines_behind script journal)

pub reports_alike : ReportsAgree
reports_alike script version journal =
    behind_is (in_form version script.marks script) journal ∙ lines_same version script journal ∙ sym (behind_is script journal)
