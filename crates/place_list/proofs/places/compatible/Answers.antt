use Rattle.std.proofs.Common.{◌∙◌, ap₂}
use Rattle.std.specs.List.{list_any}
use Rattle.place_list.specs.Stretch as words
use Rattle.place_list.proofs.Stretches.{some_accepts}
use Rattle.place_list.proofs.places.compatible.Goals as goal

pub returns : goal.returns
returns c =
    c.is_taken.ensures
    ∙ ap₂ (λ stretch contiguous. list_any (λ p. words.takes c.args.mem stretch contiguous c.args.size p.place) c.args.places.now) c.stretch_of.ensures c.is_asked_contiguous-contiguous.ensures
    ∙ some_accepts c.args.mem c.args.held.now c.args.size c.args.places.now
