-- What the program promises of a run and of a verdict, for all words, sources and sinks.
use Rattle.std.specs.Prelude.{◌≡◌, ℕ, true, Option, None, Some, min, unwrap_or}
use Rattle.journal_model.specs.declared.script.Script.{Script}
use Rattle.journal_model.specs.rules.Legal.{IsLegal}
use Rattle.journal_model.specs.statements.Complete.{is_complete}
use Rattle.journal_model.specs.statements.Scheduled.{scheduled, turn_limit}
use Rattle.command_words.specs.declared.Form.{Form}
use Rattle.command_words.specs.declared.Form.TheVariants as form
pub use Rattle.sim_drive.specs.Ends.{Kept}
use Rattle.sim_drive.specs.Ends.{EndsAfter}
pub use Rattle.law_legal.specs.KeepsLaws.{KeepsLaws}
use Rattle.program_edges.specs.declared.status.Status.{Status}
use Rattle.program_edges.specs.declared.status.Status.TheVariants as status
use Rattle.simulator.specs.declared.outcome.Outcome.{Outcome}
use Rattle.simulator.specs.declared.outcome.Outcome.TheVariants as outcome
use Rattle.program_edges.specs.Edges.{Edge, IsUntouched, IsFaultless, IsWritten, IsBroken, IsCut, WasCutOff}
use Rattle.simulator.specs.Inputs.{GaveScript, GaveFault}
use Rattle.simulator.specs.Outcomes.{status_of, text_of}
use Rattle.check_program.specs.Finds.{Finds}
use Rattle.check_program.specs.Ends.{EndsChecked}

-- the number of turns that is allowed: the one asked for, or the limit of the script, as far as 64 bits hold it
abbrev pub allowed : Option ℕ → Script → ℕ
allowed turns script = unwrap_or turns (min (turn_limit script) 18446744073709551615)

-- The journal is that of the stated interleaving after the turns taken: it is legal, and the turns are the least number that
-- makes it complete, or all that are allowed.
pub record IsRunOf (script : Script) (turns : Option ℕ) (k : Kept) (taken : ℕ) : Type 0 where
  pub run : k ≡ record { script = script; journal = scheduled script taken }
  pub legal : IsLegal script (scheduled script taken)
  pub ends : EndsAfter script (allowed turns script) taken

-- the outcome is a run of the script
abbrev pub ComesRun : Script → Option ℕ → Outcome → Type 0
ComesRun script turns (outcome.Ran k taken) = IsRunOf script turns k taken
ComesRun script turns o = ⊥

-- the source gave a script, which was run
pub record HasRun (source : Edge) (turns : Option ℕ) (k : Kept) (taken : ℕ) : Type 0 where
  pub script : Script
  pub gave : GaveScript source script
  pub ran : IsRunOf script turns k taken

-- the outcome of a simulation, by what the source gave
abbrev pub ComesSim : Option ℕ → Edge → Outcome → Type 0
ComesSim turns source outcome.ReadFault = WasCutOff source 1048576
ComesSim turns source (outcome.BadScript n rule) = GaveFault source n rule
ComesSim turns source (outcome.Ran k taken) = HasRun source turns k taken
ComesSim turns source outcome.Usage = ⊥
ComesSim turns source outcome.Help = ⊥
ComesSim turns source outcome.Version = ⊥
ComesSim turns source (outcome.Judged f) = ⊥

-- the outcome of a check is a finding on a script and the report after it
abbrev pub ComesChecked : Edge → Outcome → Type 0
ComesChecked source (outcome.Judged f) = Finds source f
ComesChecked source o = ⊥

-- the outcome of what is asked, by what the source gave
abbrev pub Comes : Option Form → Edge → Outcome → Type 0
Comes None source o = (o ≡ outcome.Usage) × IsUntouched source
Comes (Some form.Help) source o = (o ≡ outcome.Help) × IsUntouched source
Comes (Some form.Version) source o = (o ≡ outcome.Version) × IsUntouched source
Comes (Some (form.Sim turns)) source o = ComesSim turns source o
Comes (Some form.Check) source o = ComesChecked source o

-- The status is that of the outcome where its text was written whole; else a write failed or memory ran out, and a front of the text was written, or
-- nothing where memory ran out before there was an outcome.
pub data EndsWith (comes : Outcome → Type 0) (source sink : Edge) : Status → Type 0 where
  told : (o : Outcome) → comes o → IsWritten sink (text_of o) → EndsWith comes source sink (status_of o)
  broken : (o : Outcome) → comes o → IsBroken sink (text_of o) → EndsWith comes source sink status.WriteFault
  cut : (o : Outcome) → comes o → IsCut sink (text_of o) → EndsWith comes source sink status.NoMemory
  nothing : IsFaultless source → IsUntouched sink → EndsWith comes source sink status.NoMemory

-- what holds of the journal of every run: it keeps the laws, and where no number of turns was asked for it is complete
pub record IsWellRun (asked : Option Form) (k : Kept) : Type 0 where
  pub laws : KeepsLaws k.script k.journal
  pub complete : asked ≡ Some (form.Sim None) → is_complete k.script k.journal ≡ true

-- what holds of the journal of every outcome
abbrev pub IsWell : Option Form → Outcome → Type 0
IsWell asked (outcome.Ran k taken) = IsWellRun asked k
IsWell asked o = Unit {0}

-- the outcome of what is asked, with what holds of its journal
abbrev pub ComesWell : Option Form → Edge → Outcome → Type 0
ComesWell asked source o = Comes asked source o × IsWell asked o

-- how the simulator ends; never unfinished where no number of turns was asked for, and with the verdict where one was asked for
pub record Ends (asked : Option Form) (source sink : Edge) (s : Status) : Type 0 where
  pub ends : EndsWith (ComesWell asked source) source sink s
  pub finishes : asked ≡ Some (form.Sim None) → s ≡ status.Unfinished → ⊥
  pub judges : asked ≡ Some form.Check → EndsChecked source sink s
