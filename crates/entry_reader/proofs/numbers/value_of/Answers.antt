use Rattle.std.proofs.Common.{◌<◌, length, arith}
use Rattle.entry_reader.proofs.NumberLaws.{capped_step}
use Rattle.entry_reader.proofs.numbers.value_of.Goals as goal

pub loop-c-preserved : goal.loop-c-preserved
loop-c-preserved c =
    let lt : c.loop-c.c-index < length c.args.word.now = omega arith in
    rw (c.min-n.ensures, c.from.ensures, c.saturating_sub.ensures) (capped_step c.loop-c.n c.loop-c.c-index c.args.word.now lt c.loop-c.invariant)
