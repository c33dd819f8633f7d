use Rattle.std.proofs.Common.{◌≡◌, ◌++◌, length, sym, ◌∙◌, ap, subst}
use Rattle.room_queries.proofs.Read.{slot_are, whole_page}
use Rattle.room_queries.proofs.bytes.push_slot.Goals as goal

pub returns : goal.returns
returns c =
    subst (λ l. c.extend.new.self ≡ c.args.out.now ++ l)
    (slot_are c.args.swap.now.bytes c.page-page.result.now c.args.slot c.args.off c.args.len c.page-page.ensures.value
    (whole_page c.args.swap.now.bytes c.args.slot (ap length (sym c.page-page.ensures.value) ∙ c.page-page.ensures.len)) c.requires.fits) c.extend.ensures
