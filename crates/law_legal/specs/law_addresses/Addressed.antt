-- What a job means that is written with addresses: its addresses, through the address space of its thread at its line.
use Rattle.std.specs.Prelude.{◌≡◌, ℕ, List, Some, IsTrue, filter, flat_map, map, slice_get, take}
use Rattle.ttm_base.specs.declared.Op.{Op}
use Rattle.journal_model.specs.declared.script.Script.{Script}
use Rattle.journal_model.specs.declared.script.Command.TheVariants as command
use Rattle.journal_model.specs.declared.script.Mark.{Mark}
use Rattle.journal_model.specs.declared.script.MarkKind.{MarkKind}
use Rattle.journal_model.specs.declared.script.MarkKind.TheVariants as mark
use Rattle.journal_model.specs.declared.space.VOp.{VOp}
use Rattle.journal_model.specs.marks.ByName.{after_vops, vops_shown}
use Rattle.journal_model.specs.rules.Commands.{commands_of}
use Rattle.journal_model.specs.marks.Marks.{is_request, marks_of}
use Rattle.journal_model.specs.rules.PlainMemory.{Memory, after_ops, pieces_shown}
use Rattle.journal_model.specs.scripts.ScriptRules.{is_script}
use Rattle.journal_model.specs.marks.Spaces.{Space, space_of}

-- the requests among these marks
abbrev pub requests_among : List Mark → List MarkKind
requests_among marks = filter is_request (map (λ m. m.kind) marks)

-- the requests of a thread above its mark at this place, numbered from 0
abbrev pub requests_above : Script → ℕ → ℕ → List MarkKind
requests_above script thread place = requests_among (take place (marks_of script thread))

-- on every memory the job leaves what its operations with addresses leave through the space, and its probes show the same bytes
pub record MeansAddresses (space : Space) (vs : List VOp) (ops : List Op) : Type 0 where
  pub bytes : (memory : Memory) (b i : ℕ) → after_ops memory ops b i ≡ after_vops space memory vs b i
  pub shown : (memory : Memory) → flat_map (λ piece. piece) (pieces_shown memory ops) ≡ vops_shown space memory vs

-- the command below the mark is a submit that means these operations
pub record SubmitsAddresses (script : Script) (thread after : ℕ) (space : Space) (vs : List VOp) : Type 0 where
  pub engine : ℕ
  pub ops : List Op
  pub submit : slice_get (commands_of script thread) after ≡ Some (command.Submit engine ops)
  pub means : MeansAddresses space vs ops

-- each job that is written with addresses is a submit that means these addresses, through the space of its thread at its line
abbrev pub JobsMeanAddresses : Script → Type 0
JobsMeanAddresses script =
    (thread place : ℕ) (m : Mark) (vs : List VOp) → slice_get (marks_of script thread) place ≡ Some m → m.kind ≡ mark.Vsubmit vs →
    SubmitsAddresses script thread m.after (space_of (requests_above script thread place)) vs

-- in each script the jobs that are written with addresses mean them
abbrev pub JobsMeanTheirAddresses : Type 0
JobsMeanTheirAddresses = (script : Script) → IsTrue (is_script script) → JobsMeanAddresses script
