use Rattle.std.proofs.Common.{◌∷◌, [], ◌/◌, ◌+◌, ◌%◌, append_assoc, arith}
use Rattle.std.proofs.lemmas.Fmt.{decimal_digit, decimal_step}
use Rattle.text_line.proofs.short_numbers.push_below_hundred.Goals as goal

pub returns-else-number-lt10-clause-digits : goal.returns-else-number-lt10-clause-digits
returns-else-number-lt10-clause-digits c =
    let n = c.args.number in
    rw (c.push_reserved-else-number-lt10-2.ensures.items, c.push_reserved-else-number-lt10.ensures.items, decimal_step n (omega arith) (omega arith), decimal_digit (n / 10) (omega arith))
    (append_assoc c.args.bytes.now.items ((48 + n / 10) ∷ []) ((48 + n % 10) ∷ []))
