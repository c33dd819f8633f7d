-- What comes out of a run on threads.
use Rattle.std.specs.Prelude.{Option, Some, None}
use Rattle.journal_model.specs.declared.script.Script.{Script}
use Rattle.simulator.specs.Ends.{Kept}
use Rattle.simulator.specs.declared.outcome.Outcome.{Outcome}
use Rattle.simulator.specs.declared.outcome.Outcome.TheVariants as outcome
use Rattle.program_edges.specs.Edges.{Edge, IsUntouched, WasCutOff}
use Rattle.simulator.specs.Inputs.{GaveScript, GaveFault}
use Rattle.simulator.specs.Ends.{Comes, EndsWith, Ends}
use Rattle.command_words.specs.declared.Form.{Form}
use Rattle.program_edges.specs.declared.status.Status.{Status}
use Rattle.thread_program.specs.declared.launch.Launch.{Launch}
use Rattle.thread_program.specs.declared.launch.Launch.TheVariants as launch
use Rattle.thread_program.specs.Counted.{EndsCounted}
use Rattle.thread_program.specs.Ran.{IsThreaded}

-- the source gave a script, which was run on threads
pub record HasThreaded (source : Edge) (k : Kept) : Type 0 where
  pub script : Script
  pub gave : GaveScript source script
  pub ran : IsThreaded script k

-- the outcome of a run on threads, by what the source gave
abbrev pub ComesThreaded : Edge → Outcome → Type 0
ComesThreaded source outcome.ReadFault = WasCutOff source 1048576
ComesThreaded source (outcome.BadScript n rule) = GaveFault source n rule
ComesThreaded source (outcome.Ran k turns) = HasThreaded source k
ComesThreaded source outcome.Usage = ⊥
ComesThreaded source outcome.Help = ⊥
ComesThreaded source outcome.Version = ⊥
ComesThreaded source (outcome.Judged f) = ⊥

-- how the program ends: on threads where the words ask for them, and else as the simulator
abbrev pub Launched : Option Launch → Option Form → Edge → Edge → Status → Type 0
Launched (Some launch.Run) asked source sink s = EndsWith (ComesThreaded source) source sink s
Launched (Some (launch.Gen n)) asked source sink s = IsUntouched source × EndsCounted n sink s
Launched None asked source sink s = Ends asked source sink s
