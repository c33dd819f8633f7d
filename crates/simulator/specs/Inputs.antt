-- What a source gives.
use Rattle.std.specs.Prelude.{◌≡◌, ℕ, ◌⊎◌, Some, Ok, length}
use Rattle.journal_model.specs.declared.script.Script.{Script}
use Rattle.journal_model.specs.scripts.Words.{Text}
use Rattle.journal_model.specs.scripts.FirstFault.{script_of, first_fault}
use Rattle.journal_model.specs.scripts.ScriptRules.{IsScript}
use Rattle.simulator.specs.declared.input.Input.{Input}
use Rattle.simulator.specs.declared.input.Input.TheVariants as input
use Rattle.program_edges.specs.Edges.{Edge, WasReadWhole, WasReadTo, WasCutOff}

-- all bytes were read, and they are the spelling of the script
pub record GaveScript (source : Edge) (script : Script) : Type 0 where
  pub bytes : Text
  pub read : WasReadWhole source bytes
  pub says : script_of bytes ≡ Ok script
  pub spelled : IsScript bytes script

-- All bytes were read, or of too many the first 1,048,577, and this is their first fault. The bytes of a source that tells none
-- are those that it gave.
pub record GaveFault (source : Edge) (n rule : ℕ) : Type 0 where
  pub bytes : Text
  pub read : WasReadWhole source bytes ⊎ (WasReadTo source 1048577 × (length bytes ≡ 1048577))
  pub first : first_fault bytes ≡ Some (n, rule)

-- the input is what the source gave
abbrev pub Gave : Edge → Input → Type 0
Gave source (input.Read script) = GaveScript source script
Gave source (input.Bad n rule) = GaveFault source n rule
Gave source input.Failed = WasCutOff source 1048576

-- the input is what the bytes say
abbrev pub Says : Text → Input → Type 0
Says bytes (input.Read script) = (script_of bytes ≡ Ok script) × IsScript bytes script
Says bytes (input.Bad n rule) = first_fault bytes ≡ Some (n, rule)
Says bytes input.Failed = ⊥
