use Rattle.std.proofs.Common.{rules, sym, subst}
use mathlib.Core.List.{IsPrefix}
use Rattle.turn_lock.proofs.Onward.{onward_fenced, onward_trans, onward_turn}
use Rattle.test_device.proofs.threaded.workers.turn_of.Goals as goal

pub returns : goal.returns
returns g c = let took = c.take-held.ensures in let gave = c.give.ensures in onward_trans c.args.pass.now c.give.new.pass c.raise_fence.new.pass
    (onward_turn c.args.pass.now c.take-held.new.pass c.give.new.pass _ _ took.same.0 gave.same.0 gave.same.1
    (subst (IsPrefix c.args.pass.now.me.0.seen) (sym took.seen) took.before) gave.seen (search rules)
    took.own.0 gave.none_made gave.one_made took.fences.0 gave.fences
    took.root.0 took.root.1 gave.root)
    (onward_fenced c.give.new.pass c.raise_fence.new.pass _ _ gave.same.1 c.raise_fence.ensures.0 c.raise_fence.ensures.1)
