use Rattle.std.proofs.Common.{Option, refl, subst, arith}
use Rattle.entry_reader.specs.declared.report.Head.{Head}
use Rattle.entry_reader.specs.Parsing.{IsHeadRead}
use Rattle.entry_reader.proofs.report.read_report.Goals as goal

pub read_entries-requires-clause-head : goal.read_entries-requires-clause-head
read_entries-requires-clause-head c = subst (λ (o : Option Head). IsHeadRead c.args.script.now c.args.text.now o) c.in-Some.is c.in_ok-head.ensures

pub returns-in_default : goal.returns-in_default
returns-in_default c = record {
  within = omega arith;
  read = record {
    no_head = subst (λ (o : Option Head). IsHeadRead c.args.script.now c.args.text.now o) c.in_default.is c.in_ok-head.ensures;
    none = c.new.ensures;
    first = refl;
    named = refl;
  };
}
