use Rattle.std.proofs.Common.{◌≡◌, ◌+◌}
use Rattle.journal_model.specs.declared.script.MarkKind.TheVariants as mark
use Rattle.journal_model.specs.marks.Spaces.{new_region, regions_after, regions_space, after_request}
use Rattle.law_legal.specs.law_spaces.Sides.{sides}
use Rattle.law_legal.proofs.law_spaces.Order.{disjoint_of_rising}
use Rattle.gpu_spaces.proofs.Small.{on_ok, sides_are_mapped, asks_for_pages, pages_are_given, few_remaps}
use Rattle.gpu_spaces.proofs.space.Space.map.Goals as goal

pub returns-clause-mappings : goal.returns-clause-mappings
returns-clause-mappings c =
    let a = c.args in
    let rs = c.args.self.now in
    let now = c.request.new.self in
    on_ok c.request.result (now ≡ sides (record { start = a.va; end = a.va + a.n }) (new_region (mark.Vmap a.va a.n a.b a.off)) rs) (now ≡ regions_after rs (mark.Vmap a.va a.n a.b a.off))
    (sides_are_mapped now rs a.va a.n a.b a.off c.requires.some c.request.ensures.rising) c.request.ensures.mappings

pub returns-clause-pages : goal.returns-clause-pages
returns-clause-pages c =
    let a = c.args in
    let rs = c.args.self.now in
    let now = c.request.new.self in
    on_ok c.request.result (now ≡ sides (record { start = a.va; end = a.va + a.n }) (new_region (mark.Vmap a.va a.n a.b a.off)) rs) (regions_space now ≡ after_request (regions_space rs) (mark.Vmap a.va a.n a.b a.off))
    (λ e. pages_are_given now rs (mark.Vmap a.va a.n a.b a.off) (asks_for_pages a.n c.requires.some) c.request.ensures.rising (sides_are_mapped now rs a.va a.n a.b a.off c.requires.some c.request.ensures.rising e)) c.request.ensures.mappings

pub returns-clause-disjoint : goal.returns-clause-disjoint
returns-clause-disjoint c = disjoint_of_rising c.request.new.self c.request.ensures.rising_now

pub returns-clause-few_remaps : goal.returns-clause-few_remaps
returns-clause-few_remaps c = let a = c.args in few_remaps c.request.result c.request.new.steps c.args.self.now (mark.Vmap a.va a.n a.b a.off) c.request.ensures.rising c.request.ensures.steps c.request.ensures.no_steps
