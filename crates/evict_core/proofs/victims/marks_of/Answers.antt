use Rattle.std.proofs.Common.{◌∙◌, length, refl, subst, sym, ap, arith, take, ◌+◌}
use Rattle.std.specs.Prelude.{true}
use Rattle.std.proofs.lemmas.List.{length-set}
use Rattle.evict_core.specs.Walks.{AreMarks}
use Rattle.evict_core.proofs.Lent.{none_marked, marked_more, unmarked_more}
use Rattle.evict_core.proofs.victims.marks_of.Goals as goal
use Rattle.evict_core.proofs.victims.marks_of.Goals.{then-at-lt-MAX_BUFFERS, else-at-lt-MAX_BUFFERS}

pub loop-b-init : goal.loop-b-init
loop-b-init c = (refl, none_marked)

pub loop-b-preserved : goal.loop-b-preserved
loop-b-preserved c =
    elim c.if-at-lt-MAX_BUFFERS.branch [
      | then-at-lt-MAX_BUFFERS w ↦
          let fits = c.loop-b.invariant.0 in
          let low = w.if-at-lt-MAX_BUFFERS.true in
          let more = marked_more c.args.skips.now c.loop-b.marks c.loop-b.b-index (record { 0 = 0 }) c.loop-b-test.true (omega (arith, fits, low)) c.loop-b.invariant.1 in
          (ap length w.marks-is ∙ length-set c.loop-b.marks _ true ∙ fits, subst (AreMarks (take (c.loop-b.b-index + 1) c.args.skips.now)) (sym w.marks-is) more)
      | else-at-lt-MAX_BUFFERS w ↦
          let more = unmarked_more c.args.skips.now c.loop-b.marks c.loop-b.b-index (record { 0 = 0 }) c.loop-b-test.true w.if-at-lt-MAX_BUFFERS.false c.loop-b.invariant.1 in
          (ap length w.marks-is ∙ c.loop-b.invariant.0, subst (AreMarks (take (c.loop-b.b-index + 1) c.args.skips.now)) (sym w.marks-is) more)
    ]
