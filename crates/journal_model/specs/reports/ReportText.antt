-- The report of a journal: entries, results, accounts, faults of mappings, steps of address spaces.
use Rattle.std.specs.Prelude.{ℕ, true, false, ◌+◌, List, [], ◌∷◌, ◌++◌, Option, Some, None, filter_map, flat_map, length, option_to_list, decimal, codes, if◌then◌else◌}
use Rattle.std.specs.List.{list_any, enumerate_from}
use Rattle.ttm_base.specs.declared.Mem.TheVariants.{Tt, Vram}
use Rattle.journal_model.specs.Types.{Core, Entry, Kind, Script}
use Rattle.journal_model.specs.declared.space.VStep.{VStep}
use Rattle.journal_model.specs.declared.space.VStep.TheVariants as vstep
use Rattle.journal_model.specs.declared.entry.Kind.TheVariants as kind
use Rattle.journal_model.specs.statements.Account.{Account, account_of, frame_account, slot_account}
use Rattle.journal_model.specs.rules.Legal.{state_of, Made, made_of}
use Rattle.journal_model.specs.statements.Complete.{thread_numbers, is_by_thread}
use Rattle.journal_model.specs.scripts.Words.{Text, line, span_word, spans_word, name_of, numbers_word, thread_word}
use Rattle.journal_model.specs.reports.EntryText.{entry_line, shown_words, deny_word}
use Rattle.journal_model.specs.marks.Marks.{is_map, is_vmap, requests_of}
use Rattle.journal_model.specs.marks.Mapped.{faulted}
use Rattle.journal_model.specs.marks.Mapped.{access_at, answered_before, faulted}
use Rattle.journal_model.specs.marks.Spaces.{steps_along}

-- ---- results

-- a result or refusal
abbrev pub answer_words : Kind → Option (List Text)
answer_words (kind.Result r) = Some (shown_words r)
answer_words (kind.Refused d) = Some (codes "refused" ∷ deny_word d ∷ [])
answer_words _ = None

-- the answer that an entry gives a thread
abbrev pub answer_of : ℕ → Entry → Option (List Text)
answer_of thread e = if is_by_thread thread e.who then answer_words e.kind else None

-- numbered by the command
abbrev pub answer_line : ℕ → ℕ × List Text → Text
answer_line thread answer = line (thread_word thread ∷ decimal answer.0 ∷ answer.1)

-- the answers of a thread
abbrev pub thread_results : List Entry → ℕ → Text
thread_results journal thread = flat_map (answer_line thread) (enumerate_from 1 (filter_map (answer_of thread) journal))

-- ---- accounts

-- one account
abbrev pub account_line : Text → ℕ → Account → Text
account_line name size a =
    line (name ∷ codes "size" ∷ decimal size ∷ codes "free" ∷ decimal a.free ∷ codes "live" ∷ decimal a.live
    ∷ codes "target" ∷ decimal a.target ∷ codes "ghost" ∷ decimal a.ghost ∷ [])

-- the four accounts
abbrev pub account_lines : Script → Core → Text
account_lines script c =
    account_line (codes "vram") script.sizes.vram (account_of Vram script c)
    ++ account_line (codes "tt") script.sizes.tt (account_of Tt script c)
    ++ account_line (codes "frames") script.sizes.frames (frame_account script c)
    ++ account_line (codes "swap") script.sizes.swap (slot_account script c)

-- ---- faults, where the script has a map line

-- the faulted pages of a command
abbrev pub faults_line : ℕ → ℕ → List ℕ → Text
faults_line thread n pages = line (thread_word thread ∷ decimal (n + 1) ∷ codes "faults" ∷ numbers_word pages ∷ [])

-- of a peek or poke that was answered and not refused
abbrev pub fault_lines : Script → List Made → ℕ → Made → Text
fault_lines script before thread m =
    elim (m.entry.kind) [
      | kind.Result r ↦ elim (access_at script thread m) [
        | None ↦ []
        | Some a ↦ faults_line thread (answered_before m thread) (faulted script before thread (answered_before m thread) a)
      ]
      | _ ↦ []
    ]

-- those of a thread
abbrev pub thread_faults : Script → ℕ → List Made → List Made → Text
thread_faults script thread before [] = []
thread_faults script thread before (m ∷ ms) =
    fault_lines script before thread m ++ thread_faults script thread (before ++ m ∷ []) ms

-- those of all threads
abbrev pub maps_part : Script → List Entry → Text
maps_part script journal =
    elim (list_any (λ m. is_map m.kind) script.marks) [
      | true ↦ line (codes "maps" ∷ []) ++ flat_map (λ t. thread_faults script t [] (made_of script journal)) (thread_numbers script)
      | false ↦ []
    ]

-- ---- steps of requests, where the script has a vmap line

-- a step
abbrev pub step_words : Script → VStep → List Text
step_words script (vstep.Unmap s) = codes "unmap" ∷ span_word s ∷ []
step_words script (vstep.Remap s before behind) =
    codes "remap" ∷ span_word s ∷ codes "keep" ∷ spans_word (option_to_list before ++ option_to_list behind) ∷ []
step_words script (vstep.Map s b off) = codes "map" ∷ span_word s ∷ name_of script b ∷ decimal off ∷ []

-- the steps of a request
abbrev pub request_lines : Script → ℕ → ℕ × List VStep → Text
request_lines script thread e = flat_map (λ s. line (thread_word thread ∷ decimal e.0 ∷ step_words script s)) e.1

-- those of a thread
abbrev pub thread_steps : Script → ℕ → Text
thread_steps script thread =
    flat_map (request_lines script thread) (enumerate_from 1 (steps_along [] (requests_of script thread)))

-- those of all threads
abbrev pub spaces_part : Script → Text
spaces_part script =
    elim (list_any (λ m. is_vmap m.kind) script.marks) [
      | true ↦ line (codes "spaces" ∷ []) ++ flat_map (thread_steps script) (thread_numbers script)
      | false ↦ []
    ]

-- ---- the report

-- the first line, which alone tells the version
abbrev pub report_head : Script → Text
report_head script = line (codes "report" ∷ decimal script.version ∷ [])

-- all parts in their order
abbrev pub report : Script → List Entry → Text
report script journal =
    report_head script
    ++ line (codes "journal" ∷ decimal (length journal) ∷ [])
    ++ flat_map (entry_line script) (enumerate_from 1 journal)
    ++ line (codes "results" ∷ [])
    ++ flat_map (thread_results journal) (thread_numbers script)
    ++ line (codes "accounts" ∷ [])
    ++ account_lines script (state_of script journal).core
    ++ maps_part script journal
    ++ spaces_part script
    ++ line (codes "end" ∷ [])
