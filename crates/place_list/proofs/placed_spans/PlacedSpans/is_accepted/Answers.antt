use Rattle.std.proofs.Common.{◌∙◌, ap, ap₂}
use Rattle.std.specs.List.{list_any}
use Rattle.ttm_base.specs.Placement.{compatible}
use Rattle.place_list.specs.Stretch as words
use Rattle.place_list.proofs.Stretches.{accepted}
use Rattle.place_list.proofs.placed_spans.PlacedSpans.is_accepted.Goals as goal

pub returns : goal.returns
returns c =
    c.is_taken.ensures
    ∙ ap₂ (λ stretch contiguous. list_any (λ p. words.takes c.args.mem stretch contiguous c.args.size p.place) c.args.places.now) c.self.invariant.stretch_is c.self.invariant.contiguous_is
    ∙ accepted c.args.mem c.self.inside.spans c.args.size c.args.places.now
    ∙ ap (λ spans. compatible c.args.mem spans (record { list = c.args.places.now }) c.args.size) c.self.view_is
