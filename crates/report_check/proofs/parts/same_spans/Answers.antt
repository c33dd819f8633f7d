use Rattle.std.proofs.lemmas.Slice.Eq.{slice_eq-Decides}
use Rattle.report_check.proofs.SpanLaws.{span_decides}
use Rattle.report_check.proofs.parts.same_spans.Goals as goal

pub returns : goal.returns
returns c = slice_eq-Decides span_decides c.args.a.now c.args.b.now c.eq.result c.eq.ensures
