use Rattle.std.proofs.Common.{sym, ap, ◌∙◌}
use Rattle.lru_bulk.specs.declared.nodes.Links.{Links}
use Rattle.lru_bulk.proofs.WholeLaws.{splice_ready, splice_ended}
use Rattle.lru_bulk.proofs.rings.Rings.splice_range.Goals as goal

pub links-last-requires : goal.links-last-requires
links-last-requires g c = (splice_ready c.args.self.now c.args.group c.args.list c.args.range c.requires.sound c.requires.group c.requires.list c.requires.range).last

pub splice_before-requires-clause-behind : goal.splice_before-requires-clause-behind
splice_before-requires-clause-behind g c = sym (ap (λ (l : Links). l.next) c.links-last.ensures) ∙ c.in-Of.is

pub returns-in-End-clause-lists : goal.returns-in-End-clause-lists
returns-in-End-clause-lists g c =
    splice_ended c.args.self.now c.args.group c.args.list _ c.args.range c.requires.sound c.requires.group c.requires.list c.requires.range
    (sym (ap (λ (l : Links). l.next) c.links-last.ensures) ∙ c.in-End.is)
