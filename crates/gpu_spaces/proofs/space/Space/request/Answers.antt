use Rattle.std.proofs.Common.{sym, subst}
use Rattle.gpu_spaces.specs.Kept.{regions_in}
use Rattle.gpu_spaces.specs.Regions.{IsKept}
use Rattle.gpu_spaces.proofs.Small.{kept_sides}
use Rattle.gpu_spaces.proofs.space.Space.request.Goals as goal

pub invariant_of-self-2 : goal.invariant_of-self-2
invariant_of-self-2 c =
    subst IsKept (sym c.in_default.ensures.ok)
    (kept_sides c.args.range c.args.new (regions_in c.self.inside.mappings) c.requires.some c.requires.inside c.requires.new c.requires.pages c.self.invariant)

pub returns-clause-rising_now : goal.returns-clause-rising_now
returns-clause-rising_now c = (invariant_of-self-2 c).rising
