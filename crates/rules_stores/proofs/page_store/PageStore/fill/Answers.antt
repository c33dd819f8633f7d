use Rattle.std.proofs.Common.{◌≡◌, ◌<◌, ap, ◌∙◌, arith}
use Rattle.byte_store.specs.Parts.{filled, overwritten}
use Rattle.byte_store.proofs.PartLaws.{length-filled, get_or-filled}
use Rattle.rules_stores.specs.StoredPages.{stored_byte}
use Rattle.rules_stores.proofs.StoredLaws.{page_write}
use Rattle.rules_stores.proofs.page_store.PageStore.fill.Goals as goal

pub returns-then-count-gt0-clause-bytes : goal.returns-then-count-gt0-clause-bytes
returns-then-count-gt0-clause-bytes c = λ q o.
    let count = c.count_on_page-count.result in
    let l = length-filled count c.args.byte in
    let is : c.fill.new.self ≡ overwritten c.args.self.now c.position_of.result (filled count c.args.byte) = cc in
    ap (λ ys. stored_byte ys q o) is
    ∙ page_write c.args.self.now (filled count c.args.byte) c.position_of.result count c.args.page c.args.off c.args.len (λ i. c.args.byte)
    c.count_on_page-count.ensures c.if-count-gt0.true c.position_of.ensures l (λ i h. let below : i < count = omega (arith, l) in get_or-filled count c.args.byte i 0 below) q o
