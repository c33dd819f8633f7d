use Rattle.std.proofs.Common.{◌∙◌, subst, sym, take_all}
use Rattle.std.specs.Prelude.{filter}
use Rattle.journal_model.specs.rules.State.{has_buffer}
use Rattle.room_jobs.specs.Listings.{AreTouched}
use Rattle.room_jobs.proofs.Relisted.{touched_less, touched_more}
use Rattle.room_jobs.proofs.listings.touch_held.Goals as goal
use Rattle.room_jobs.proofs.listings.touch_held.Goals.{then-has_buffer, else-has_buffer}

pub loop-b-preserved : goal.loop-b-preserved
loop-b-preserved c =
    elim c.if-has_buffer.branch [
      | then-has_buffer w ↦
          touched_more c.args.held.now c.args.bs.now c.loop-b.b-index (record { 0 = 0 }) c.loop-b-test.true c.args.lru.now c.loop-b.lru c.if-has_buffer.lru c.loop-b.invariant (sym c.has_buffer.ensures ∙ w.if-has_buffer.true) w.members_stand_once.ensures.listed (w.lru-is ∙ w.touch.ensures)
      | else-has_buffer w ↦ touched_less c.args.held.now c.args.bs.now c.loop-b.b-index (record { 0 = 0 }) c.loop-b-test.true c.args.lru.now c.loop-b.lru c.if-has_buffer.lru c.loop-b.invariant (sym c.has_buffer.ensures ∙ w.if-has_buffer.false) w.lru-is
    ]

pub returns : goal.returns
returns c = subst (λ l. AreTouched (filter (has_buffer c.args.held.now) l) c.args.lru.now c.loop-b.lru) (take_all c.loop-b.b-index c.args.bs.now c.loop-b-test.false) c.loop-b.invariant
