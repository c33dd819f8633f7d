-- What reading gives, and what the program ends with.
use Rattle.std.proofs.Common.{◌≡◌, ℕ, true, Some, Ok, Err, Result, Option, length, ap}
use Rattle.std.specs.Prelude.{nat_lt, None, if◌then◌else◌}
use Rattle.journal_model.specs.declared.script.Script.{Script}
use Rattle.journal_model.specs.scripts.Words.{Text}
use Rattle.journal_model.specs.scripts.Cut.{lines_of}
use Rattle.journal_model.specs.scripts.FirstFault.{script_of, first_fault, script_from, nothing_read}

-- too many bytes have their fault as a whole
pub too_long : (bytes : Text) → length bytes ≡ 1048577 → first_fault bytes ≡ Some (0, 1)
too_long bytes h =
    let longer : nat_lt 1048576 (length bytes) ≡ true = ap (λ n. nat_lt 1048576 n) h in
    let fault : script_of bytes ≡ Err (0, 1) = ap (λ b. if b then Err (0, 1) else script_from nothing_read 0 (lines_of bytes)) longer in
    let first : Result Script (ℕ × ℕ) → Option (ℕ × ℕ) = λ r. elim r [ Ok script ↦ None | Err fault ↦ Some fault ] in
    ap first fault
