use Rattle.std.proofs.Common.{subst}
use Rattle.sim_drive.specs.Ends.{Kept}
use Rattle.law_legal.specs.KeepsLaws.{KeepsLaws}
use Rattle.simulator.proofs.DeviceLaws.{laws_of}
use Rattle.simulator.proofs.law.lawful_parts.Goals as goal

pub returns-clause-laws : goal.returns-clause-laws
returns-clause-laws c =
    subst (λ (k : Kept). KeepsLaws k.script k.journal) c.rooms.ensures (laws_of c.rooms.result.now c.parts.result.now c.parts.ensures)
