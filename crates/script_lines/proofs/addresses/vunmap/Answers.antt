use Rattle.std.proofs.Common.{◌≡◌, length, arith}
use Rattle.script_lines.proofs.Patterns.{vunmap_is}
use Rattle.script_lines.proofs.addresses.vunmap.Goals as goal

pub returns-in-len3 : goal.returns-in-len3
returns-in-len3 c =
    let three : length c.args.words.now ≡ 3 = omega (arith, c.in-len3.len_at_least, c.in-len3.len_below) in
    rw (c.number.ensures, c.number-in-len3.ensures, c.items.ensures, c.items-in-len3.ensures)
    (vunmap_is c.args.words.now c.va-item.result c.n-item.result three c.va-item.is c.n-item.is)
