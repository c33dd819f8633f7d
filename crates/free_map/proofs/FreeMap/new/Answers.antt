use Rattle.std.proofs.Common.{arith}
use Rattle.free_map.proofs.CountLaws.{all_free}
use Rattle.free_map.proofs.FreeMap.new.Goals as goal

pub invariant_of-result : goal.invariant_of-result
invariant_of-result c = (all_free c.args.len c.loop-number.numbers (omega arith) c.loop-number.invariant.size (λ k d h. c.loop-number.invariant.free k d (omega arith))).counted

pub returns : goal.returns
returns c = (all_free c.args.len c.loop-number.numbers (omega arith) c.loop-number.invariant.size (λ k d h. c.loop-number.invariant.free k d (omega arith))).held
