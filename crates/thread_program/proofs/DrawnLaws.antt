-- What the reader makes of a text that is drawn.
use Rattle.std.proofs.Common.{◌≡◌, ℕ, List, Result, Ok, Err, ⊎_elim, subst, sym}
use Rattle.std.specs.Prelude.{◌⊎◌, IsTrue}
use Rattle.journal_model.specs.declared.script.Script.{Script}
use Rattle.journal_model.specs.scripts.ScriptRules.{is_script}
use Rattle.script_text.specs.declared.ScriptFault.{ScriptFault}
use Rattle.script_text.specs.declared.ScriptFault.TheVariants as fault
use Rattle.journal_model.specs.scripts.ScriptRules.{IsScript}
use Rattle.generated_load.specs.Loads.{IsLoad, load_script}

pub read_is : (n : ℕ) (bytes : List ℕ) (r : Result Script ScriptFault) (s : Script) → ((t : Script) → IsScript bytes t → (r ≡ Ok t) ⊎ (r ≡ Err fault.NoMemory))
    → IsScript bytes (load_script n) → r ≡ Ok s → s ≡ load_script n
read_is n bytes r s reads plain is = ⊎_elim (λ e. cc) (λ e. absurd cc) (reads (load_script n) plain)

-- and it keeps the rules of scripts
pub fits_of : (n : ℕ) (s : Script) → s ≡ load_script n → IsLoad (load_script n) → IsTrue (is_script s)
fits_of n s is load = subst (λ (t : Script). IsTrue (is_script t)) (sym is) load.fits
