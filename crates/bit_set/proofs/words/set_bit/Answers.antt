use Rattle.std.proofs.Common.{◌/◌, ◌%◌, true, get_or, sym, ◌∙◌, arith}
use Rattle.std.proofs.lemmas.List.{length-set}
use Rattle.bit_set.proofs.BitLaws.{written_on, with_bit, put_end, put_next, set_some, told_some}
use Rattle.bit_set.proofs.words.set_bit.Goals as goal
use Rattle.bit_set.proofs.words.set_bit.Goals.{then-word-ne0-via-then-word-ne0, then-word-ne0-via-else-word-ne0+then-at-eq0}

pub returns-then-word-ne0 : goal.returns-then-word-ne0
returns-then-word-ne0 c = λ first from tree.
    let word = get_or c.loop-next.words (c.loop-next.next / 64) 0 in
    put_end first c.args.place c.loop-next.next (with_bit word (c.loop-next.next % 64)) true c.args.words.now c.loop-next.words
    (c.loop-next.invariant.put first from tree) (written_on c.loop-next.words c.loop-next.next c.loop-next.invariant.within)
    (λ below. elim c.then-word-ne0.branch [
      | then-word-ne0-via-then-word-ne0 b ↦ set_some word (c.loop-next.next % 64) (omega arith) ∙ sym (told_some word (omega arith))
      | then-word-ne0-via-else-word-ne0+then-at-eq0 b ↦ absurd (omega arith)
    ])

pub loop-next-preserved : goal.loop-next-preserved
loop-next-preserved c =
    let word = get_or c.loop-next.words (c.loop-next.next / 64) 0 in
    record {
      within = let l = length-set c.loop-next.words (c.loop-next.next / 64) (with_bit word (c.loop-next.next % 64)) in omega (arith, l, c.loop-next.invariant.within);
      put = λ first from tree.
          put_next first c.args.place c.loop-next.next (with_bit word (c.loop-next.next % 64)) true c.args.words.now c.loop-next.words
          (c.loop-next.invariant.put first from tree) (written_on c.loop-next.words c.loop-next.next c.loop-next.invariant.within)
          (omega arith) (set_some word (c.loop-next.next % 64) (omega arith));
    }
