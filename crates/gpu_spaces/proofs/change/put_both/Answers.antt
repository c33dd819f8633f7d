use Rattle.std.proofs.Common.{◌≡◌, None, Option, subst, ◌∙◌, ap}
use Rattle.std.specs.Prelude.{IfSome}
use Rattle.gpu_spaces.specs.declared.mappings.Mapping.{Mapping}
use Rattle.gpu_spaces.specs.Kept.{regions_in, region_of}
use Rattle.gpu_spaces.specs.Regions.{starting, set_at}
use Rattle.gpu_spaces.proofs.Changing.{undone}
use Rattle.gpu_spaces.proofs.change.put_both.Goals as goal

pub returns-in-Err-clause-err : goal.returns-in-Err-clause-err
returns-in-Err-clause-err c =
    let rs = regions_in c.args.mappings.now in
    let fresh : starting c.in-Some.tail.span.start rs ≡ None = subst (λ (o : Option Mapping). IfSome o (λ m. starting m.span.start rs ≡ None)) c.in-Some.is c.requires.fresh in
    undone rs (regions_in c.put.new.mappings) (regions_in c.take_out.new.mappings) (region_of c.in-Some.tail) fresh c.requires.ordered c.take_out.ensures.ordered c.in_ok-put.ensures.ok
    (λ q. c.take_out.ensures.left q ∙ ap (λ ms. set_at c.in-Some.tail.span.start None (λ p. starting p ms) q) c.in-Err.ensures.err)
