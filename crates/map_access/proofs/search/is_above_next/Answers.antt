use Rattle.std.proofs.Common.{◌+◌, Bool, ap, sym, refl, ◌∙◌, drop, length, arith}
use Rattle.std.specs.Prelude.{◌&&◌}
use Rattle.std.proofs.lemmas.Option.{slice_get_read}
use Rattle.journal_model.specs.scripts.MarkRules.{are_in_order}
use Rattle.map_access.proofs.Order.{order_step}
use Rattle.map_access.proofs.search.is_above_next.Goals as goal

pub returns : goal.returns
returns c =
    let marks = c.args.marks.now in
    let i = c.args.i in
    order_step marks i c.index-marks-i.result c.index-marks-i-2.result (slice_get_read marks (length marks) i c.index-marks-i.result refl (omega arith) c.index-marks-i.is)
    (slice_get_read marks (length marks) (i + 1) c.index-marks-i-2.result refl (omega arith) c.index-marks-i-2.is)
    ∙ ap (λ (b : Bool). b && are_in_order (drop (i + 1) marks)) (sym c.is_above.ensures)
