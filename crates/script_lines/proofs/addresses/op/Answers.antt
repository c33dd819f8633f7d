use Rattle.std.proofs.Common.{◌≡◌, [], ◌∷◌, true, false, bytes_eq, codes, length, refl, arith, ap, sym, ◌∙◌}
use Rattle.journal_model.specs.scripts.LineWords.{vop_of}
use Rattle.script_lines.proofs.Fronts.{three_are, four_are}
use Rattle.script_lines.proofs.addresses.op.Goals as goal

pub returns-then-is : goal.returns-then-is
returns-then-is c =
    let three : length c.args.words.now ≡ 3 = omega (arith, c.in-len3.len_at_least, c.in-len3.len_below) in
    let whole : vop_of (c.w-item.result ∷ c.addr-item.result ∷ c.len-item.result ∷ []) ≡ vop_of c.args.words.now =
    ap vop_of (three_are c.args.words.now _ _ _ three c.w-item.is c.addr-item.is c.len-item.is) in
    let is : bytes_eq c.w-item.result (codes "probe") ≡ true = rw (← c.items.ensures) (sym c.is.ensures ∙ c.if-is.true) in
    rw (c.probe.ensures, ← whole, is) refl

pub returns-else-is : goal.returns-else-is
returns-else-is c =
    let three : length c.args.words.now ≡ 3 = omega (arith, c.in-len3.len_at_least, c.in-len3.len_below) in
    let whole : vop_of (c.w-item.result ∷ c.addr-item.result ∷ c.len-item.result ∷ []) ≡ vop_of c.args.words.now =
    ap vop_of (three_are c.args.words.now _ _ _ three c.w-item.is c.addr-item.is c.len-item.is) in
    let is : bytes_eq c.w-item.result (codes "probe") ≡ false = rw (← c.items.ensures) (sym c.is.ensures ∙ c.if-is.false) in
    rw (← whole, is) refl

pub returns-then-is-2 : goal.returns-then-is-2
returns-then-is-2 c =
    let four : length c.args.words.now ≡ 4 = omega (arith, c.in-len4.len_at_least, c.in-len4.len_below) in
    let whole : vop_of (c.w-item-then-words-lt5.result ∷ c.addr-item-then-words-lt5.result ∷ c.x-item.result ∷ c.y-item.result ∷ []) ≡ vop_of c.args.words.now =
    ap vop_of (four_are c.args.words.now _ _ _ _ four c.w-item-then-words-lt5.is c.addr-item-then-words-lt5.is c.x-item.is c.y-item.is) in
    let filled : bytes_eq c.w-item-then-words-lt5.result (codes "fill") ≡ true = rw (← c.items-in-len4.ensures) (sym c.is-in-len4.ensures ∙ c.if-is-2.true) in
    rw (c.fill.ensures, ← whole, filled) refl

pub returns-then-is-3 : goal.returns-then-is-3
returns-then-is-3 c =
    let four : length c.args.words.now ≡ 4 = omega (arith, c.in-len4.len_at_least, c.in-len4.len_below) in
    let whole : vop_of (c.w-item-then-words-lt5.result ∷ c.addr-item-then-words-lt5.result ∷ c.x-item.result ∷ c.y-item.result ∷ []) ≡ vop_of c.args.words.now =
    ap vop_of (four_are c.args.words.now _ _ _ _ four c.w-item-then-words-lt5.is c.addr-item-then-words-lt5.is c.x-item.is c.y-item.is) in
    let filled : bytes_eq c.w-item-then-words-lt5.result (codes "fill") ≡ false = rw (← c.items-in-len4.ensures) (sym c.is-in-len4.ensures ∙ c.if-is-2.false) in
    let copied : bytes_eq c.w-item-then-words-lt5.result (codes "copy") ≡ true = rw (← c.items-in-len4-2.ensures) (sym c.is-in-len4-2.ensures ∙ c.if-is-3.true) in
    rw (c.copy.ensures, ← whole, filled, copied) refl

pub returns-then-is-4 : goal.returns-then-is-4
returns-then-is-4 c =
    let four : length c.args.words.now ≡ 4 = omega (arith, c.in-len4.len_at_least, c.in-len4.len_below) in
    let whole : vop_of (c.w-item-then-words-lt5.result ∷ c.addr-item-then-words-lt5.result ∷ c.x-item.result ∷ c.y-item.result ∷ []) ≡ vop_of c.args.words.now =
    ap vop_of (four_are c.args.words.now _ _ _ _ four c.w-item-then-words-lt5.is c.addr-item-then-words-lt5.is c.x-item.is c.y-item.is) in
    let filled : bytes_eq c.w-item-then-words-lt5.result (codes "fill") ≡ false = rw (← c.items-in-len4.ensures) (sym c.is-in-len4.ensures ∙ c.if-is-2.false) in
    let copied : bytes_eq c.w-item-then-words-lt5.result (codes "copy") ≡ false = rw (← c.items-in-len4-2.ensures) (sym c.is-in-len4-2.ensures ∙ c.if-is-3.false) in
    let xored : bytes_eq c.w-item-then-words-lt5.result (codes "xor") ≡ true = rw (← c.items-in-len4-3.ensures) (sym c.is-in-len4-3.ensures ∙ c.if-is-4.true) in
    rw (c.xor.ensures, ← whole, filled, copied, xored) refl

pub returns-else-is-4 : goal.returns-else-is-4
returns-else-is-4 c =
    let four : length c.args.words.now ≡ 4 = omega (arith, c.in-len4.len_at_least, c.in-len4.len_below) in
    let whole : vop_of (c.w-item-then-words-lt5.result ∷ c.addr-item-then-words-lt5.result ∷ c.x-item.result ∷ c.y-item.result ∷ []) ≡ vop_of c.args.words.now =
    ap vop_of (four_are c.args.words.now _ _ _ _ four c.w-item-then-words-lt5.is c.addr-item-then-words-lt5.is c.x-item.is c.y-item.is) in
    let filled : bytes_eq c.w-item-then-words-lt5.result (codes "fill") ≡ false = rw (← c.items-in-len4.ensures) (sym c.is-in-len4.ensures ∙ c.if-is-2.false) in
    let copied : bytes_eq c.w-item-then-words-lt5.result (codes "copy") ≡ false = rw (← c.items-in-len4-2.ensures) (sym c.is-in-len4-2.ensures ∙ c.if-is-3.false) in
    let xored : bytes_eq c.w-item-then-words-lt5.result (codes "xor") ≡ false = rw (← c.items-in-len4-3.ensures) (sym c.is-in-len4-3.ensures ∙ c.if-is-4.false) in
    rw (← whole, filled, copied, xored) refl
