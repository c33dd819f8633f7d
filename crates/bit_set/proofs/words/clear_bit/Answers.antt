use Rattle.std.proofs.Common.{◌/◌, ◌%◌, false, get_or, arith}
use Rattle.std.proofs.lemmas.List.{length-set}
use Rattle.bit_set.proofs.BitLaws.{written_off, without_bit, put_end, put_next, still_some, told_none}
use Rattle.bit_set.proofs.words.clear_bit.Goals as goal
use Rattle.bit_set.proofs.words.clear_bit.Goals.{then-word-ne0-via-then-word-ne0, then-word-ne0-via-else-word-ne0+then-at-eq0}

pub returns-then-word-ne0 : goal.returns-then-word-ne0
returns-then-word-ne0 c = λ first from tree.
    let word = get_or c.loop-next.words (c.loop-next.next / 64) 0 in
    put_end first c.args.place c.loop-next.next (without_bit word (c.loop-next.next % 64)) false c.args.words.now c.loop-next.words
    (c.loop-next.invariant.put first from tree) (written_off c.loop-next.words c.loop-next.next c.loop-next.invariant.within)
    (λ below. elim c.then-word-ne0.branch [
      | then-word-ne0-via-then-word-ne0 b ↦ still_some word (c.loop-next.next % 64) (omega arith)
      | then-word-ne0-via-else-word-ne0+then-at-eq0 b ↦ absurd (omega arith)
    ])

pub loop-next-preserved : goal.loop-next-preserved
loop-next-preserved c =
    let word = get_or c.loop-next.words (c.loop-next.next / 64) 0 in
    record {
      within = let l = length-set c.loop-next.words (c.loop-next.next / 64) (without_bit word (c.loop-next.next % 64)) in omega (arith, l, c.loop-next.invariant.within);
      put = λ first from tree.
          put_next first c.args.place c.loop-next.next (without_bit word (c.loop-next.next % 64)) false c.args.words.now c.loop-next.words
          (c.loop-next.invariant.put first from tree) (written_off c.loop-next.words c.loop-next.next c.loop-next.invariant.within)
          (omega arith) (told_none (without_bit word (c.loop-next.next % 64)) (omega arith));
    }
