use Rattle.std.proofs.Common.{◌+◌, ◌*◌, ◌/◌, arith}
use Rattle.std.proofs.lemmas.Grind.{common_steps}
use Rattle.rules_choice.proofs.AlikeLaws.{free_or_other}
use Rattle.rules_choice.proofs.blocks.FreePages.is_free_block.Goals as goal

pub returns-then-end-len : goal.returns-then-end-len
returns-then-end-len c =
    let marks = c.args.self.now.marks.items in
    let start = c.args.page / c.block_len-len.result * c.block_len-len.result in
    let some = rw c.deref.ensures.value at c.first_other.ensures.some in
    let none = rw c.deref.ensures.value at c.first_other.ensures.none in
    let free = free_or_other marks start (start + c.block_len-len.result) c.first_other.result (omega arith) (omega arith) some none in
    let order = c.block_len-len.ensures.value in
    grind (arith, common_steps, free, order)
