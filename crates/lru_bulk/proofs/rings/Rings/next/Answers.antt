use Rattle.std.proofs.Common.{ap, ◌∙◌}
use Rattle.lru_bulk.specs.declared.nodes.Links.{Links}
use Rattle.lru_bulk.specs.Sound.{buffer_in}
use Rattle.lru_bulk.proofs.OrderLaws.{next_is}
use Rattle.lru_bulk.proofs.rings.Rings.next.Goals as goal

pub returns : goal.returns
returns c =
    c.buffer_in.ensures ∙ ap (λ (l : Links). buffer_in l.next) c.links-links.ensures ∙ next_is c.args.self.now c.args.b c.requires.sound c.requires.listed
