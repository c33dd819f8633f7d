use Rattle.std.proofs.Common.{ap, ◌∙◌, arith}
use Rattle.lru_bulk.specs.declared.nodes.Links.{Links}
use Rattle.lru_bulk.specs.Lists.{list_at}
use Rattle.lru_bulk.specs.Sound.{buffer_in, lists_of}
use Rattle.std.specs.Prelude.{slice_get}
use Rattle.lru_bulk.proofs.OrderLaws.{first_is}
use Rattle.lru_bulk.proofs.rings.Rings.first.Goals as goal

pub links-links-requires : goal.links-links-requires
links-links-requires c =
    let ends = c.requires.sound.ends in
    let below = c.list_number-list.ensures.below in
    omega arith

pub returns : goal.returns
returns c =
    c.buffer_in.ensures ∙ ap (λ (l : Links). buffer_in l.next) c.links-links.ensures
    ∙ first_is c.args.self.now c.list_number-list.result c.requires.sound c.list_number-list.ensures.below
    ∙ ap (λ i. slice_get (list_at (lists_of c.args.self.now) i) 0) c.list_number-list.ensures.number
