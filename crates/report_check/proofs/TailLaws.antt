-- What follows the entries of a report, as it is written and compared.
use Rattle.std.proofs.Common.{◌≡◌, ℕ, Bool, true, List, [], ◌∷◌, ◌++◌, length, take, Some, sym, ◌∙◌, ap, append_assoc}
use Rattle.std.specs.Prelude.{codes}
use Rattle.std.specs.Io.KnownBytes.{append_known}
use Rattle.std.proofs.Math.Seq.{take-length}
use Rattle.std.proofs.lemmas.List.{append_cancel_left}
use Rattle.journal_model.specs.declared.script.Script.{Script}
use Rattle.journal_model.specs.declared.entry.Entry.{Entry}
use Rattle.journal_model.specs.scripts.Words.{Text, line}
use Rattle.journal_model.specs.rules.Legal.{state_of}
use Rattle.journal_model.specs.reports.ReportText.{report}
use Rattle.page_accounts.specs.declared.accounts.Accounts.{Accounts}
use Rattle.page_accounts.specs.Accounts.{AreAccountsOf}
use Rattle.report_text.specs.Parts.{journal_part, mappings_part, outcome_part}
use Rattle.report_text.proofs.Parts.{report_by_parts}

-- all of a piece
pub whole_piece : (piece : List ℕ) → take (length piece) piece ≡ piece
whole_piece piece = take-length piece

-- what was written is what follows the entries
pub written_tail : (script : Script) (journal : List Entry) (a : Accounts) (start tail : Text) → AreAccountsOf script (state_of script journal).core a → start ≡ []
    → Some tail ≡ append_known (Some start) ((outcome_part script journal a ++ mappings_part script journal) ++ line (codes "end" ∷ [])) → journal_part script journal ++ tail ≡ report script journal
written_tail script journal a start tail accounts empty w =
    let front = journal_part script journal in
    let outcome = outcome_part script journal a in
    let maps = mappings_part script journal in
    let end = line (codes "end" ∷ []) in
    let told : tail ≡ start ++ ((outcome ++ maps) ++ end) = cc in
    let it : tail ≡ (outcome ++ maps) ++ end = told ∙ ap (λ (x : Text). x ++ ((outcome ++ maps) ++ end)) empty in
    ap (λ (t : Text). front ++ t) it ∙ sym (append_assoc front (outcome ++ maps) end)
    ∙ ap (λ (t : Text). t ++ end) (sym (append_assoc front outcome maps))
    ∙ sym (report_by_parts script journal a accounts)

-- another tail is that of the report where it is the same
pub same_tail : (front right tail whole : Text) (r : Bool) → (r ≡ true → right ≡ tail) × (right ≡ tail → r ≡ true) → front ++ right ≡ whole →
    (r ≡ true → front ++ tail ≡ whole) × (front ++ tail ≡ whole → r ≡ true)
same_tail front right tail whole r d h =
    (λ t. ap (λ (x : Text). front ++ x) (sym (d.0 t)) ∙ h, λ same. d.1 (append_cancel_left front right tail (h ∙ sym same)))
