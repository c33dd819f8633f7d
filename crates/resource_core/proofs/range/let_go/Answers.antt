use Rattle.std.proofs.Common.{◌∙◌}
use Rattle.buddy_manager.specs.Held.{without_all}
use Rattle.resource_core.proofs.RangeLaws.{let_start, let_next}
use Rattle.resource_core.proofs.range.let_go.Goals as goal

pub remove-requires : goal.remove-requires
remove-requires c =
    let_start (without_all c.args.spans.now c.args.manager.now.held) c.args.spans.now c.loop-span.manager.held c.loop-span.span-index (record { start = 0; end = 0 })
    c.loop-span.invariant.letting c.loop-span-test.true

pub loop-span-preserved : goal.loop-span-preserved
loop-span-preserved c =
    record {
      letting = let_next (without_all c.args.spans.now c.args.manager.now.held) c.args.spans.now c.loop-span.manager.held c.loop-span.span-index (record { start = 0; end = 0 })
          c.remove.new.self.held c.loop-span.invariant.letting c.loop-span-test.true c.remove.ensures.held;
      size = c.remove.ensures.size ∙ c.loop-span.invariant.size;
    }
