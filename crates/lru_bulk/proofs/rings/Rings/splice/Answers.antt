use Rattle.std.proofs.Common.{ℕ, ◌+◌, ◌≤◌, refl, sym, ◌∙◌, arith}
use Rattle.lru_bulk.proofs.WholeLaws.{splice_absent}
use Rattle.lru_bulk.proofs.rings.Rings.splice.Goals as goal

-- no step is within six
within_six : (n : ℕ) → n ≤ n + 6
within_six n = omega arith

pub splice_range-requires-clause-sound : goal.splice_range-requires-clause-sound
splice_range-requires-clause-sound g c = c.requires.sound

pub splice_range-requires-clause-group : goal.splice_range-requires-clause-group
splice_range-requires-clause-group g c = c.requires.group

pub splice_range-requires-clause-list : goal.splice_range-requires-clause-list
splice_range-requires-clause-list g c = c.requires.list

pub splice_range-requires-clause-range : goal.splice_range-requires-clause-range
splice_range-requires-clause-range g c = sym c.range-found.ensures ∙ c.in-Some.is

pub returns-in-None-clause-sound : goal.returns-in-None-clause-sound
returns-in-None-clause-sound g c = c.requires.sound

pub returns-in-None-clause-lists : goal.returns-in-None-clause-lists
returns-in-None-clause-lists g c =
    splice_absent c.args.self.now c.args.group c.args.list c.requires.sound c.requires.group c.requires.list (sym c.range-found.ensures ∙ c.in-None.is)

pub returns-in-None-clause-listings : goal.returns-in-None-clause-listings
returns-in-None-clause-listings g c = refl

pub returns-in-None-clause-groups : goal.returns-in-None-clause-groups
returns-in-None-clause-groups g c = refl

pub returns-in-None-clause-cost : goal.returns-in-None-clause-cost
returns-in-None-clause-cost g c = within_six c.args.steps.now

pub returns-in-Some-clause-sound : goal.returns-in-Some-clause-sound
returns-in-Some-clause-sound g c = c.splice_range.ensures.sound

pub returns-in-Some-clause-lists : goal.returns-in-Some-clause-lists
returns-in-Some-clause-lists g c = c.splice_range.ensures.lists

pub returns-in-Some-clause-listings : goal.returns-in-Some-clause-listings
returns-in-Some-clause-listings g c = c.splice_range.ensures.listings

pub returns-in-Some-clause-groups : goal.returns-in-Some-clause-groups
returns-in-Some-clause-groups g c = c.splice_range.ensures.groups

pub returns-in-Some-clause-cost : goal.returns-in-Some-clause-cost
returns-in-Some-clause-cost g c = c.splice_range.ensures.cost
