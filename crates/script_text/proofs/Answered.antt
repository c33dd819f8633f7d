-- What is answered, by what the lines say.
use Rattle.std.proofs.Common.{◌≡◌, ℕ, Option, Some, None, Result, Ok, Err, refl, sym, ap, ◌∙◌, inl, inr, ◌⊎◌}
use Rattle.std.specs.Prelude.{IfOk, IsOk}
use Rattle.journal_model.specs.declared.script.Script.{Script}
use Rattle.script_text.specs.declared.ScriptFault.{ScriptFault}
use Rattle.script_text.specs.declared.ScriptFault.TheVariants as fault
use Rattle.journal_model.specs.scripts.Words.{Text}
use Rattle.journal_model.specs.scripts.FirstFault.{script_of}
use Rattle.journal_model.specs.scripts.ScriptRules.{IsScript}
use Rattle.law_legal.specs.law_addresses.Addressed.{JobsMeanAddresses}
use Rattle.law_legal.proofs.law_addresses.Jobs.{jobs_mean}
use Rattle.law_legal.proofs.law_script.TakesScript.{takes_scripts}
use Rattle.law_legal.proofs.law_script.ReadsScript.{reads_scripts}
use Rattle.script_text.specs.Steps.{Gives}

abbrev pub fault_of : Result Script (ℕ × ℕ) → Option (ℕ × ℕ)
fault_of read = elim read [ Ok script ↦ None | Err fault ↦ Some fault ]

pub reads : (r : Result Script ScriptFault) (read : Result Script (ℕ × ℕ)) → Gives r read → IfOk r (λ script. read ≡ Ok script)
reads (Ok script) read h = h
reads (Err e) read h = tt

fault_given : (r : Result Script (ℕ × ℕ)) (line rule : ℕ) → r ≡ Err (line, rule) → fault_of r ≡ Some (line, rule)
fault_given (Ok s) line rule h = absurd cc
fault_given (Err f) line rule h = let same : f ≡ (line, rule) = cc in ap (λ (x : ℕ × ℕ). Some x) same

pub tells : (r : Result Script ScriptFault) (read : Result Script (ℕ × ℕ)) (line rule : ℕ) → Gives r read → r ≡ Err (fault.Bad line rule) → fault_of read ≡ Some (line, rule)
tells (Ok script) read line rule h e = absurd cc
tells (Err fault.NoMemory) read line rule h e = absurd cc
tells (Err (fault.Bad l k)) read line rule h e =
    let a : l ≡ line = cc in
    let b : k ≡ rule = cc in
    fault_given read line rule (h ∙ ap (λ x. Err (x, k)) a ∙ ap (λ x. Err (line, x)) b)

pub finds : (r : Result Script ScriptFault) (read : Result Script (ℕ × ℕ)) (line rule : ℕ) → Gives r read → fault_of read ≡ Some (line, rule) → (r ≡ Err (fault.Bad line rule)) ⊎ (r ≡ Err fault.NoMemory)
finds (Ok script) (Ok s) line rule h e = absurd cc
finds (Ok script) (Err f) line rule h e = absurd cc
finds (Err fault.NoMemory) read line rule h e = inr refl
finds (Err (fault.Bad l k)) (Ok s) line rule h e = absurd cc
finds (Err (fault.Bad l k)) (Err f) line rule h e =
    let same : f ≡ (l, k) = cc in
    let other : f ≡ (line, rule) = cc in
    let a : l ≡ line = ap (λ (x : ℕ × ℕ). x.0) (sym same ∙ other) in
    let b : k ≡ rule = ap (λ (x : ℕ × ℕ). x.1) (sym same ∙ other) in
    inl (ap (λ x. Err (fault.Bad x k)) a ∙ ap (λ x. Err (fault.Bad line x)) b)

pub takes : (r : Result Script ScriptFault) (read : Result Script (ℕ × ℕ)) → Gives r read → fault_of read ≡ None → IsOk r ⊎ (r ≡ Err fault.NoMemory)
takes (Ok script) read h e = inl refl
takes (Err fault.NoMemory) read h e = inr refl
takes (Err (fault.Bad l k)) (Ok s) h e = absurd cc
takes (Err (fault.Bad l k)) (Err f) h e = absurd cc

-- ---- the spelling

pub spells : (bytes : Text) (r : Result Script ScriptFault) → Gives r (script_of bytes) → IfOk r (λ script. IsScript bytes script)
spells bytes (Ok script) h = takes_scripts bytes script h
spells bytes (Err e) h = tt

same_script : (read : Result Script (ℕ × ℕ)) (s t : Script) → read ≡ Ok s → read ≡ Ok t → s ≡ t
same_script (Ok x) s t h k = let a : x ≡ s = cc in let b : x ≡ t = cc in sym a ∙ b
same_script (Err e) s t h k = absurd cc

no_fault : (read : Result Script (ℕ × ℕ)) (s : Script) (l k : ℕ) → read ≡ Ok s → read ≡ Err (l, k) → ⊥
no_fault (Ok x) s l k h e = absurd cc
no_fault (Err x) s l k h e = absurd cc

pub reads_spelling : (bytes : Text) (r : Result Script ScriptFault) (s : Script) → Gives r (script_of bytes) → IsScript bytes s → (r ≡ Ok s) ⊎ (r ≡ Err fault.NoMemory)
reads_spelling bytes (Ok t) s h k = inl (ap (λ x. Ok x) (same_script (script_of bytes) t s h (reads_scripts bytes s k)))
reads_spelling bytes (Err fault.NoMemory) s h k = inr refl
reads_spelling bytes (Err (fault.Bad line rule)) s h k = absurd (no_fault (script_of bytes) s line rule (reads_scripts bytes s k) h)

pub no_spelling : (bytes : Text) (r : Result Script ScriptFault) (line rule : ℕ) (s : Script) → Gives r (script_of bytes) → r ≡ Err (fault.Bad line rule) → IsScript bytes s → ⊥
no_spelling bytes (Ok t) line rule s h e k = absurd cc
no_spelling bytes (Err fault.NoMemory) line rule s h e k = absurd cc
no_spelling bytes (Err (fault.Bad l j)) line rule s h e k = no_fault (script_of bytes) s l j (reads_scripts bytes s k) h

pub means : (bytes : Text) (r : Result Script ScriptFault) → Gives r (script_of bytes) → IfOk r JobsMeanAddresses
means bytes (Ok script) h = jobs_mean script (takes_scripts bytes script h).fits
means bytes (Err e) h = tt
