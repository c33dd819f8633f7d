use Rattle.std.proofs.Common.{◌≡◌, [], ◌∷◌, true, false, bytes_eq, codes, length, refl, arith, ap, sym, ◌∙◌}
use Rattle.journal_model.specs.scripts.LineWords.{op_of}
use Rattle.script_lines.proofs.Fronts.{four_are, five_are, six_are}
use Rattle.script_lines.proofs.jobs.op.Goals as goal

pub returns-then-is : goal.returns-then-is
returns-then-is c =
    let four : length c.args.words.now ≡ 4 = omega (arith, c.in-len4.len_at_least, c.in-len4.len_below) in
    let whole : op_of c.args.names.now (c.w-item.result ∷ c.b-item.result ∷ c.off-item.result ∷ c.len-item.result ∷ []) ≡ op_of c.args.names.now c.args.words.now =
    ap (op_of c.args.names.now) (four_are c.args.words.now _ _ _ _ four c.w-item.is c.b-item.is c.off-item.is c.len-item.is) in
    let is : bytes_eq c.w-item.result (codes "probe") ≡ true = rw (← c.items.ensures) (sym c.is.ensures ∙ c.if-is.true) in
    rw (c.probe.ensures, ← whole, is) refl

pub returns-else-is : goal.returns-else-is
returns-else-is c =
    let four : length c.args.words.now ≡ 4 = omega (arith, c.in-len4.len_at_least, c.in-len4.len_below) in
    let whole : op_of c.args.names.now (c.w-item.result ∷ c.b-item.result ∷ c.off-item.result ∷ c.len-item.result ∷ []) ≡ op_of c.args.names.now c.args.words.now =
    ap (op_of c.args.names.now) (four_are c.args.words.now _ _ _ _ four c.w-item.is c.b-item.is c.off-item.is c.len-item.is) in
    let is : bytes_eq c.w-item.result (codes "probe") ≡ false = rw (← c.items.ensures) (sym c.is.ensures ∙ c.if-is.false) in
    rw (← whole, is) refl

pub returns-then-is-2 : goal.returns-then-is-2
returns-then-is-2 c =
    let five : length c.args.words.now ≡ 5 = omega (arith, c.in-len5.len_at_least, c.in-len5.len_below) in
    let whole : op_of c.args.names.now (c.w-item-then-words-lt6.result ∷ c.b-item-then-words-lt6.result ∷ c.off-item-then-words-lt6.result ∷ c.len-item-then-words-lt6.result ∷ c.byte-item.result ∷ []) ≡ op_of c.args.names.now c.args.words.now =
    ap (op_of c.args.names.now) (five_are c.args.words.now _ _ _ _ _ five c.w-item-then-words-lt6.is c.b-item-then-words-lt6.is c.off-item-then-words-lt6.is c.len-item-then-words-lt6.is c.byte-item.is) in
    let is : bytes_eq c.w-item-then-words-lt6.result (codes "fill") ≡ true = rw (← c.items-in-len5.ensures) (sym c.is-in-len5.ensures ∙ c.if-is-2.true) in
    rw (c.fill.ensures, ← whole, is) refl

pub returns-else-is-2 : goal.returns-else-is-2
returns-else-is-2 c =
    let five : length c.args.words.now ≡ 5 = omega (arith, c.in-len5.len_at_least, c.in-len5.len_below) in
    let whole : op_of c.args.names.now (c.w-item-then-words-lt6.result ∷ c.b-item-then-words-lt6.result ∷ c.off-item-then-words-lt6.result ∷ c.len-item-then-words-lt6.result ∷ c.byte-item.result ∷ []) ≡ op_of c.args.names.now c.args.words.now =
    ap (op_of c.args.names.now) (five_are c.args.words.now _ _ _ _ _ five c.w-item-then-words-lt6.is c.b-item-then-words-lt6.is c.off-item-then-words-lt6.is c.len-item-then-words-lt6.is c.byte-item.is) in
    let is : bytes_eq c.w-item-then-words-lt6.result (codes "fill") ≡ false = rw (← c.items-in-len5.ensures) (sym c.is-in-len5.ensures ∙ c.if-is-2.false) in
    rw (← whole, is) refl

pub returns-then-is-3 : goal.returns-then-is-3
returns-then-is-3 c =
    let six : length c.args.words.now ≡ 6 = omega (arith, c.in-len6.len_at_least, c.in-len6.len_below) in
    let whole : op_of c.args.names.now (c.w-item-then-words-lt7.result ∷ c.d-item.result ∷ c.doff-item.result ∷ c.s-item.result ∷ c.soff-item.result ∷ c.len-item-then-words-lt7.result ∷ []) ≡ op_of c.args.names.now c.args.words.now =
    ap (op_of c.args.names.now) (six_are c.args.words.now _ _ _ _ _ _ six c.w-item-then-words-lt7.is c.d-item.is c.doff-item.is c.s-item.is c.soff-item.is c.len-item-then-words-lt7.is) in
    let copied : bytes_eq c.w-item-then-words-lt7.result (codes "copy") ≡ true = rw (← c.items-in-len6.ensures) (sym c.is-in-len6.ensures ∙ c.if-is-3.true) in
    rw (c.copy.ensures, ← whole, copied) refl

pub returns-then-is-4 : goal.returns-then-is-4
returns-then-is-4 c =
    let six : length c.args.words.now ≡ 6 = omega (arith, c.in-len6.len_at_least, c.in-len6.len_below) in
    let whole : op_of c.args.names.now (c.w-item-then-words-lt7.result ∷ c.d-item.result ∷ c.doff-item.result ∷ c.s-item.result ∷ c.soff-item.result ∷ c.len-item-then-words-lt7.result ∷ []) ≡ op_of c.args.names.now c.args.words.now =
    ap (op_of c.args.names.now) (six_are c.args.words.now _ _ _ _ _ _ six c.w-item-then-words-lt7.is c.d-item.is c.doff-item.is c.s-item.is c.soff-item.is c.len-item-then-words-lt7.is) in
    let copied : bytes_eq c.w-item-then-words-lt7.result (codes "copy") ≡ false = rw (← c.items-in-len6.ensures) (sym c.is-in-len6.ensures ∙ c.if-is-3.false) in
    let xored : bytes_eq c.w-item-then-words-lt7.result (codes "xor") ≡ true = rw (← c.items-in-len6-2.ensures) (sym c.is-in-len6-2.ensures ∙ c.if-is-4.true) in
    rw (c.xor.ensures, ← whole, copied, xored) refl

pub returns-else-is-4 : goal.returns-else-is-4
returns-else-is-4 c =
    let six : length c.args.words.now ≡ 6 = omega (arith, c.in-len6.len_at_least, c.in-len6.len_below) in
    let whole : op_of c.args.names.now (c.w-item-then-words-lt7.result ∷ c.d-item.result ∷ c.doff-item.result ∷ c.s-item.result ∷ c.soff-item.result ∷ c.len-item-then-words-lt7.result ∷ []) ≡ op_of c.args.names.now c.args.words.now =
    ap (op_of c.args.names.now) (six_are c.args.words.now _ _ _ _ _ _ six c.w-item-then-words-lt7.is c.d-item.is c.doff-item.is c.s-item.is c.soff-item.is c.len-item-then-words-lt7.is) in
    let copied : bytes_eq c.w-item-then-words-lt7.result (codes "copy") ≡ false = rw (← c.items-in-len6.ensures) (sym c.is-in-len6.ensures ∙ c.if-is-3.false) in
    let xored : bytes_eq c.w-item-then-words-lt7.result (codes "xor") ≡ false = rw (← c.items-in-len6-2.ensures) (sym c.is-in-len6-2.ensures ∙ c.if-is-4.false) in
    rw (← whole, copied, xored) refl
