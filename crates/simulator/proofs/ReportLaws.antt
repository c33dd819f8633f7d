-- The accounts of a device, and the requests of its script, by what its calls answer.
use Rattle.std.proofs.Common.{◌≡◌, List, IsTrue, sym, subst}
use Rattle.journal_model.specs.declared.script.Script.{Script}
use Rattle.journal_model.specs.declared.entry.Entry.{Entry}
use Rattle.journal_model.specs.rules.Legal.{state_of}
use Rattle.report_mappings.specs.Requests.{are_in_spaces}
use Rattle.report_mappings.proofs.Fits.{fits_spaces}
use Rattle.page_accounts.specs.declared.accounts.Accounts.{Accounts}
use Rattle.page_accounts.specs.Accounts.{AreAccountsOf}
use Rattle.room_representation.specs.declared.parts.Parts.{Parts}
use Rattle.room_representation.specs.Held.{AreHeld}
use Rattle.sim_drive.specs.Ends.{Kept}

-- they are those of its script and journal
pub same_accounts : (d s : Script) (es j : List Entry) (a : Accounts) → s ≡ d → j ≡ es → AreAccountsOf d (state_of d es).core a → AreAccountsOf s (state_of s j).core a
same_accounts d s es j a of along h =
    subst (λ (x : Script). AreAccountsOf x (state_of x j).core a) (sym of)
    (subst (λ (y : List Entry). AreAccountsOf d (state_of d y).core a) (sym along) h)

-- the requests of its script are requests that an address space can answer
pub answerable : (k d : Kept) (s : Script) (p : Parts) → k ≡ d → s ≡ d.script → AreHeld k.script k.journal p → IsTrue (are_in_spaces s)
answerable k d s p is of h =
    subst (λ (x : Script). IsTrue (are_in_spaces x)) (sym of) (subst (λ (y : Kept). IsTrue (are_in_spaces y.script)) is (fits_spaces k.script h.fits))
