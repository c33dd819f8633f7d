-- The numbers of the rules by which a report is rejected.
use Rattle.std.specs.Prelude.{ℕ}
use Rattle.entry_reader.specs.declared.rule.Rule.{Rule}
use Rattle.entry_reader.specs.declared.rule.Rule.TheVariants as rule

abbrev pub number_of : Rule → ℕ
number_of rule.Head = 1
number_of rule.Line = 2
number_of rule.Step = 3
number_of rule.Shown = 4
number_of rule.Complete = 5
number_of rule.End = 6
