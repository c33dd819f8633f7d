use Rattle.std.proofs.Common.{◌≡◌, get_or, arith}
use Rattle.std.proofs.lemmas.Grind.{common_steps}
use Rattle.fence_core.specs.Fences.{nothing_kept, later, up_to}
use Rattle.fence_core.proofs.SetLaws.{add_step}
use Rattle.fence_core.proofs.fence_set.add_each.Goals as goal

pub loop-i-preserved : goal.loop-i-preserved
loop-i-preserved c =
    let item : c.later.result ≡ later (get_or c.loop-i.set c.loop-i.i nothing_kept) (up_to c.args.usage (get_or c.args.others.now c.loop-i.i nothing_kept)) =
    first_of (cc (c.later.ensures, c.up_to.ensures), grind (arith, common_steps, c.later.ensures, c.up_to.ensures)) in
    record {
      done = rw item (add_step c.args.usage c.args.set.now c.loop-i.set c.args.others.now c.loop-i.i (omega arith) (omega arith) (omega arith) c.loop-i.invariant.done c.loop-i.invariant.others);
      others = grind (arith, common_steps);
    }
