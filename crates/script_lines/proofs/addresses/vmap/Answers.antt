use Rattle.std.proofs.Common.{◌≡◌, length, arith}
use Rattle.script_lines.proofs.Patterns.{vmap_is}
use Rattle.script_lines.proofs.addresses.vmap.Goals as goal

pub returns-in-len5 : goal.returns-in-len5
returns-in-len5 c =
    let five : length c.args.words.now ≡ 5 = omega (arith, c.in-len5.len_at_least, c.in-len5.len_below) in
    rw (c.number.ensures, c.number-in-len5.ensures, c.find.ensures, c.number-in-len5-2.ensures, c.items.ensures, c.items-in-len5.ensures, c.items-in-len5-2.ensures, c.items-in-len5-3.ensures)
    (vmap_is c.args.names.now c.args.words.now c.va-item.result c.n-item.result c.b-item.result c.off-item.result five c.va-item.is c.n-item.is c.b-item.is c.off-item.is)
