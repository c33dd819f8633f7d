use Rattle.std.proofs.Common.{All}
use Rattle.std.specs.List.{AllByRecursion}
use Rattle.journal_model.specs.marks.Spaces.{regions_space}
use Rattle.gpu_spaces.specs.Kept.{regions_in}
use Rattle.gpu_spaces.specs.Meaning.{IsMappedSpan}
use Rattle.gpu_spaces.proofs.Mapped.{IsMappedEntry}
use Rattle.gpu_spaces.proofs.runs.runs_of.Given as goal

abbrev pub invariant-loop-start : goal.invariant-loop-start
invariant-loop-start l = record {
  run : IsMappedSpan (regions_space (regions_in l.mappings)) l.run;
  runs : All (IsMappedSpan (regions_space (regions_in l.mappings))) l.runs;
  rest : AllByRecursion (IsMappedEntry (regions_in l.mappings)) l.start-iterator;
}
