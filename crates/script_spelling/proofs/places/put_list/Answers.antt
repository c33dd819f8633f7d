use Rattle.std.proofs.Common.{◌++◌, refl, sym, ap, ◌∙◌, arith}
use Rattle.std.specs.List.{join_with_byte}
use Rattle.script_spelling.proofs.PartLaws.{is_none, kept_on, not_first, one_passed}
use Rattle.script_spelling.proofs.places.put_list.Goals as goal
use Rattle.script_spelling.proofs.places.put_list.Goals.{then-is_in+in_ok-put_flag+in_ok-put_item, else-is_in}

pub loop-place-preserved : goal.loop-place-preserved
loop-place-preserved c =
    let which = c.args.part in
    let list = c.args.list.now in
    let i = c.loop-place.place-index in
    let old = c.args.text.now in
    elim c.if-is_in.branch [
      | then-is_in+in_ok-put_flag+in_ok-put_item w ↦
          let kept = sym c.is_in.ensures ∙ w.if-is_in.true in
          record {
            text =
                w.text-is
                ∙ kept_on which list i _ _ c.loop-place.is_first old c.loop-place.text w.put_flag.new.text w.put_item.new.text (omega arith) refl kept
                c.loop-place.invariant.first c.loop-place.invariant.text w.in_ok-put_flag.ensures w.in_ok-put_item.ensures;
            first = w.is_first-is ∙ not_first which list i _ _ (omega arith) refl kept;
          }
      | else-is_in w ↦
          let passed = one_passed which list i _ _ (omega arith) refl (sym c.is_in.ensures ∙ w.if-is_in.false) in
          record {
            text = w.text-is ∙ c.loop-place.invariant.text ∙ ap (λ ws. old ++ join_with_byte 44 ws) (sym passed);
            first = w.is_first-is ∙ c.loop-place.invariant.first ∙ ap is_none (sym passed);
          }
    ]
