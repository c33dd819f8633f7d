use Rattle.std.proofs.Common.{◌∙◌, ◌<◌, length, arith}
use Rattle.rules_stores.proofs.KeptLaws.{becomes_cut}
use Rattle.rules_stores.proofs.parts.copy_through.Goals as goal

pub returns : goal.returns
returns c =
    becomes_cut _ _ _ _ _ _ _ _ c.write.ensures (c.read.auto.into ∙ c.requires) (λ i h. let below : i < length c.args.through.now = omega arith in c.read.ensures i below)
