-- What follows from the two laws on reading.
use Rattle.std.proofs.Common.{◌≡◌, ℕ, Option, Some, None, Result, Ok, Err, refl, sym, ap, ◌∙◌}
use Rattle.journal_model.specs.declared.script.Script.{Script}
use Rattle.journal_model.specs.scripts.FirstFault.{script_of}
use Rattle.law_legal.specs.law_script.ScriptLaws.{OneSpelling, OneValue, FaultWhereNoScript}
use Rattle.law_legal.proofs.law_script.TakesScript.{takes_scripts}
use Rattle.law_legal.proofs.law_script.ReadsScript.{reads_scripts}

-- a value has one spelling
pub one_spelling : OneSpelling
one_spelling a b script x y = x.spelled ∙ sym y.spelled

ok_is : (r : Result Script (ℕ × ℕ)) (s t : Script) → r ≡ Ok s → r ≡ Ok t → s ≡ t
ok_is (Ok x) s t h k = let a : x ≡ s = cc in let b : x ≡ t = cc in sym a ∙ b
ok_is (Err e) s t h k = absurd cc

-- a spelling has one value
pub one_value : OneValue
one_value bytes s t x y = ok_is (script_of bytes) s t (reads_scripts bytes s x) (reads_scripts bytes t y)

abbrev fault_of : Result Script (ℕ × ℕ) → Option (ℕ × ℕ)
fault_of read = elim read [ Ok script ↦ None | Err fault ↦ Some fault ]

read_of : (r : Result Script (ℕ × ℕ)) → fault_of r ≡ None → (script : Script) × (r ≡ Ok script)
read_of (Ok script) h = (script, refl)
read_of (Err e) h = absurd cc

-- a fault exactly where there is no script
pub fault_where_no_script : FaultWhereNoScript
fault_where_no_script bytes = (
  λ h. let r = read_of (script_of bytes) h in (r.0, takes_scripts bytes r.0 r.1),
  λ s. ap fault_of (reads_scripts bytes s.0 s.1),
)
