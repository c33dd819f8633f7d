use Rattle.std.proofs.Common.{◌≡◌, ◌++◌, sym, ◌∙◌, ap, subst}
use Rattle.room_queries.specs.Bytes.{bytes_in, page_of}
use Rattle.room_queries.proofs.Read.{zeros_are}
use Rattle.room_queries.proofs.bytes.push_part.Goals as goal

pub returns-in-Nowhere : goal.returns-in-Nowhere
returns-in-Nowhere c =
    subst (λ l. c.push_zeros.new.out ≡ c.args.out.now ++ l)
    (zeros_are c.args.len c.args.off ∙ ap (λ q. bytes_in c.args.parts.now q c.args.off c.args.len) (sym (ap page_of c.in-Nowhere.is) ∙ c.standing_of.ensures)) c.push_zeros.ensures
