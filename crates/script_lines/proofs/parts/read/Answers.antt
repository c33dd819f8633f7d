use Rattle.std.proofs.Common.{◌≡◌, length, arith}
use Rattle.script_lines.proofs.Patterns.{read_is}
use Rattle.script_lines.proofs.parts.read.Goals as goal

pub returns-in-len4 : goal.returns-in-len4
returns-in-len4 c =
    let four : length c.args.words.now ≡ 4 = omega (arith, c.in-len4.len_at_least, c.in-len4.len_below) in
    rw (c.read_with.ensures, c.items.ensures, c.items-in-len4.ensures, c.items-in-len4-2.ensures)
    (read_is c.args.access c.args.names.now c.args.words.now c.b-item.result c.off-item.result c.len-item.result four c.b-item.is c.off-item.is c.len-item.is)
