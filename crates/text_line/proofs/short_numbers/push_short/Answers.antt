use Rattle.std.proofs.Common.{◌∷◌, [], ◌/◌, ◌+◌, ◌%◌, append_assoc, decimal, arith}
use Rattle.std.proofs.lemmas.Fmt.{decimal_step}
use Rattle.text_line.proofs.short_numbers.push_short.Goals as goal

pub returns-else-number-lt10 : goal.returns-else-number-lt10
returns-else-number-lt10 c =
    let n = c.args.number in
    rw (c.push_reserved-else-number-lt10.ensures.items, c.push_below_thousand.ensures.digits, decimal_step n (omega arith) (omega arith))
    (append_assoc c.args.bytes.now.items (decimal (n / 10)) ((48 + n % 10) ∷ []))
