use Rattle.std.proofs.Common.{suc, ◌+◌, ◌*◌, ap, arith}
use Rattle.bit_set.proofs.words.base_of.Goals as goal

pub loop-base-preserved : goal.loop-base-preserved
loop-base-preserved c = record {
  depth = suc c.loop-base.invariant.depth;
  base_is = ap (λ b. 64 * b + 1) c.loop-base.invariant.base_is;
  small = omega arith;
}
