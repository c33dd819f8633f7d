use Rattle.std.proofs.Common.{arith}
use Rattle.std.proofs.lemmas.Grind.{common_steps}
use Rattle.byte_store.proofs.PartLaws.{xor_step}
use Rattle.byte_store.proofs.slots.xor_slices.Goals as goal

pub loop-i-preserved : goal.loop-i-preserved
loop-i-preserved c = record {
  done = xor_step c.args.to.now c.loop-i.to c.args.from.now c.loop-i.i (omega arith) (omega arith) (omega arith) c.loop-i.invariant.done c.loop-i.invariant.others;
  others = grind (arith, common_steps);
}
