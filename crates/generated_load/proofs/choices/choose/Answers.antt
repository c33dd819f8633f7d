use Rattle.generated_load.proofs.DrawnLaws.{chosen}
use Rattle.generated_load.proofs.choices.choose.Goals as goal

pub returns : goal.returns
returns c =
    chosen c.args.thread c.args.draws.now c.draw-number.new.self c.draw-first.new.self c.draw-distance.new.self c.draw-sixteens.new.self c.draw-byte.new.self c.draw-engine.new.self
    c.draw-number.result c.draw-first.result c.draw-distance.result c.draw-sixteens.result c.draw-byte.result c.draw-engine.result _
    c.draw-number.ensures.drawn c.draw-first.ensures.drawn c.draw-distance.ensures.drawn c.draw-sixteens.ensures.drawn c.draw-byte.ensures.drawn c.draw-engine.ensures.drawn
    cc
