use Rattle.std.proofs.Common.{◌≡◌, ◌<◌, ◌≤◌, ap, ◌∙◌, take, length, arith}
use Rattle.std.specs.Prelude.{slice_index}
use Rattle.std.proofs.lemmas.List.{length-take-le, get_or-take}
use Rattle.std.proofs.lemmas.Bool.Decides.{nat_tests}
use Rattle.byte_store.specs.Parts.{overwritten}
use Rattle.rules_stores.specs.StoredPages.{stored_byte}
use Rattle.rules_stores.proofs.StoredLaws.{page_write}
use Rattle.rules_stores.proofs.page_store.PageStore.write.Goals as goal

pub returns-then-count-gt0-clause-bytes : goal.returns-then-count-gt0-clause-bytes
returns-then-count-gt0-clause-bytes c = λ q o.
    let count = c.count_on_page-count.result in
    let f = take count c.args.from.now in
    let fits : count ≤ length c.args.from.now = grind (arith, nat_tests, c.count_on_page-count.ensures) in
    let l : length f ≡ count = length-take-le _ _ fits in
    let is : c.copy_page_part.new.self ≡ overwritten c.args.self.now c.position_of-at.result f = cc in
    ap (λ ys. stored_byte ys q o) is
    ∙ page_write c.args.self.now f c.position_of-at.result count c.args.page c.args.off (length c.args.from.now) (slice_index c.args.from.now)
    c.count_on_page-count.ensures c.if-count-gt0.true c.position_of-at.ensures l (λ i h. let below : i < count = omega (arith, l) in get_or-take _ c.args.from.now i 0 below) q o
