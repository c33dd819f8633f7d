use Rattle.std.proofs.Common.{◌≡◌, length, get_or, arith, ap}
use Rattle.journal_model.specs.scripts.LineWords.{write_line}
use Rattle.script_lines.proofs.Fronts.{first_again, four_are}
use Rattle.script_lines.proofs.parts.write.Goals as goal

pub returns-in_ok-bytes-in-len4 : goal.returns-in_ok-bytes-in-len4
returns-in_ok-bytes-in-len4 c =
    let four : length c.args.words.now ≡ 4 = omega (arith, c.in-len4.len_at_least, c.in-len4.len_below) in
    rw (c.find.ensures, c.items-in-len4.ensures, c.offset.ensures, c.items-in-len4-2.ensures, c.in_ok-bytes-in-len4.ensures, c.items.ensures)
    (ap (write_line c.args.access c.args.names.now)
    (four_are c.args.words.now (get_or c.args.words.now 0 c.b-item.result) _ _ _ four (first_again c.args.words.now c.b-item.result) c.b-item.is c.off-item.is c.text-item.is))
