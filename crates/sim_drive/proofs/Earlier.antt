-- One turn more that doesn't complete the journal.
use Rattle.std.proofs.Common.{◌≡◌, ℕ, ◌+◌, false, subst, arith, ⊎_elim}
use Rattle.std.proofs.lemmas.Bool.{cases_lt}
use Rattle.journal_model.specs.declared.script.Script.{Script}
use Rattle.journal_model.specs.statements.Complete.{is_complete}
use Rattle.journal_model.specs.statements.Scheduled.{scheduled}
use Rattle.sim_drive.specs.Ends.{NotBefore}

pub not_before_more : (script : Script) (n : ℕ) → NotBefore script n → is_complete script (scheduled script n) ≡ false → NotBefore script (n + 1)
not_before_more script n before here = λ m h.
    ⊎_elim (λ lt. before m lt)
    (λ ge. let same : n ≡ m = omega (arith, ge, h) in subst (λ k. is_complete script (scheduled script k) ≡ false) same here)
    (cases_lt m n)
