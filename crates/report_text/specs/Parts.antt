-- The parts of a report as they are written.
use Rattle.std.specs.Prelude.{List, [], ◌∷◌, ◌++◌, flat_map, length, decimal, codes}
use Rattle.std.specs.List.{enumerate_from}
use Rattle.journal_model.specs.declared.script.Script.{Script}
use Rattle.journal_model.specs.declared.script.Sizes.{Sizes}
use Rattle.journal_model.specs.declared.entry.Entry.{Entry}
use Rattle.journal_model.specs.statements.Complete.{thread_numbers}
use Rattle.journal_model.specs.scripts.Words.{Text, line}
use Rattle.journal_model.specs.reports.EntryText.{entry_line}
use Rattle.journal_model.specs.reports.ReportText.{account_line, maps_part, spaces_part, thread_results}
use Rattle.page_accounts.specs.declared.accounts.Accounts.{Accounts}
use Rattle.page_accounts.specs.Accounts.{as_account}

-- the lines of four accounts
abbrev pub four_lines : Sizes → Accounts → Text
four_lines sizes a =
    account_line (codes "vram") sizes.vram (as_account a.vram)
    ++ account_line (codes "tt") sizes.tt (as_account a.tt)
    ++ account_line (codes "frames") sizes.frames (as_account a.frames)
    ++ account_line (codes "swap") sizes.swap (as_account a.swap)

-- the parts before the results
abbrev pub journal_part : Script → List Entry → Text
journal_part script journal =
    line (codes "report" ∷ decimal script.version ∷ [])
    ++ line (codes "journal" ∷ decimal (length journal) ∷ [])
    ++ flat_map (entry_line script) (enumerate_from 1 journal)

-- the results and the accounts
abbrev pub outcome_part : Script → List Entry → Accounts → Text
outcome_part script journal accounts =
    line (codes "results" ∷ [])
    ++ flat_map (thread_results journal) (thread_numbers script)
    ++ line (codes "accounts" ∷ [])
    ++ four_lines script.sizes accounts

-- the parts on mappings
abbrev pub mappings_part : Script → List Entry → Text
mappings_part script journal = maps_part script journal ++ spaces_part script
