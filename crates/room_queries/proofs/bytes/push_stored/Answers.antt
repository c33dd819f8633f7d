use Rattle.std.proofs.Common.{◌≡◌, ◌++◌, ◌∙◌, subst}
use Rattle.room_queries.proofs.Read.{stored_are}
use Rattle.room_queries.proofs.bytes.push_stored.Goals as goal

pub returns : goal.returns
returns c =
    subst (λ l. c.extend.new.self ≡ c.args.out.now ++ l)
    (c.part-bytes.ensures.value ∙ stored_are c.args.store.now c.args.page c.args.off c.args.len c.requires.page c.requires.fits) c.extend.ensures
