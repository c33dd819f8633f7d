use Rattle.std.proofs.Common.{◌∷◌, [], ◌/◌, ◌+◌, ◌%◌, append_assoc, decimal, arith}
use Rattle.std.proofs.lemmas.Fmt.{decimal_step}
use Rattle.text_line.proofs.short_numbers.push_below_thousand.Goals as goal

pub returns-else-number-lt10-clause-digits : goal.returns-else-number-lt10-clause-digits
returns-else-number-lt10-clause-digits c =
    let n = c.args.number in
    rw (c.push_reserved-else-number-lt10.ensures.items, c.push_below_hundred.ensures.digits, decimal_step n (omega arith) (omega arith))
    (append_assoc c.args.bytes.now.items (decimal (n / 10)) ((48 + n % 10) ∷ []))
