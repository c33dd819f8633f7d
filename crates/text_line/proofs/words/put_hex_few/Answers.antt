use Rattle.std.proofs.Common.{◌≡◌, rules, arith}
use Rattle.hex.specs.Hex.{IsBytes, encode_lower}
use Rattle.journal_model.specs.scripts.Words.{hex}
use Rattle.text_line.proofs.Digits.{encode_lower_bytes}
use Rattle.text_line.proofs.words.put_hex_few.Goals as goal

pub returns : goal.returns
returns c =
    let fits : IsBytes c.args.bytes.now = λ i. let f = c.type_inv.bytes i in omega arith in
    let same : encode_lower c.args.bytes.now ≡ hex c.args.bytes.now = encode_lower_bytes c.args.bytes.now fits in
    search (rules, same)
