-- Laws on the spelling of a script and the first fault of its bytes: they agree.
use Rattle.std.specs.Prelude.{◌≡◌, ◌↔◌, None, Ok}
use Rattle.journal_model.specs.declared.script.Script.{Script}
use Rattle.journal_model.specs.scripts.Words.{Text}
use Rattle.journal_model.specs.scripts.ScriptRules.{IsScript}
use Rattle.journal_model.specs.scripts.FirstFault.{script_of, first_fault}

-- what the lines say is a script with these bytes
abbrev pub TakesScripts : Type 0
TakesScripts = (bytes : Text) (script : Script) → script_of bytes ≡ Ok script → IsScript bytes script

-- the bytes of a script say that script
abbrev pub ReadsScripts : Type 0
ReadsScripts = (bytes : Text) (script : Script) → IsScript bytes script → script_of bytes ≡ Ok script

-- a value has one spelling
abbrev pub OneSpelling : Type 0
OneSpelling = (a b : Text) (script : Script) → IsScript a script → IsScript b script → a ≡ b

-- a spelling has one value
abbrev pub OneValue : Type 0
OneValue = (bytes : Text) (s t : Script) → IsScript bytes s → IsScript bytes t → s ≡ t

-- bytes have a first fault exactly where they are the spelling of no script
abbrev pub FaultWhereNoScript : Type 0
FaultWhereNoScript = (bytes : Text) → (first_fault bytes ≡ None) ↔ ((script : Script) × IsScript bytes script)
