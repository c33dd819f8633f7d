use Rattle.std.proofs.Common.{◌≡◌, ◌∙◌, ap, Some, None}
use Rattle.std.specs.Prelude.{option_map}
use Rattle.gpu_spaces.specs.Kept.{regions_in, region_at}
use Rattle.gpu_spaces.specs.Regions.{starting}
use Rattle.gpu_spaces.proofs.Kept.{starting_is, starting_updated, regions_in_order, on_err}
use Rattle.gpu_spaces.proofs.mappings.put.Goals as goal

pub returns-in_err-insert-clause-absent : goal.returns-in_err-insert-clause-absent
returns-in_err-insert-clause-absent c =
    let start = c.args.mapping.span.start in
    let m = c.args.mappings.now in
    on_err c.from_residual.result (starting start (regions_in m) ≡ None) (starting_is m start ∙ ap (option_map (λ r. region_at (start, r))) c.in_err-insert.ensures.absent)

pub returns-in_err-insert-clause-ordered : goal.returns-in_err-insert-clause-ordered
returns-in_err-insert-clause-ordered c = regions_in_order c.insert.new.self c.insert.ensures.ordered

pub returns-clause-ok : goal.returns-clause-ok
returns-clause-ok c =
    let m = c.args.mapping in
    starting_updated c.args.mappings.now c.insert.new.self m.span.start (Some (record { end = m.span.end; b = m.b; off = m.off })) c.in_ok-insert.ensures.updates.0

pub returns-clause-ordered : goal.returns-clause-ordered
returns-clause-ordered c = regions_in_order c.insert.new.self c.insert.ensures.ordered
