use Rattle.std.proofs.Common.{refl, sym, subst}
use Rattle.script_rules.specs.script_mappings.ThreadMappingLists.{Seen, IsThreadMappings}
use Rattle.script_rules.proofs.script_mappings.ThreadMappingLists.{unmap_on}
use Rattle.script_rules.proofs.script_mappings.ThreadMappings.unmap.Goals as goal

pub returns : goal.returns
returns c = λ d k.
    let old : Seen = record { mapped = c.self.inside.mapped; regions = c.self.inside.space } in
    let new : Seen = record { mapped = c.remove.new.self; regions = c.self.inside.space } in
    unmap_on old new c.args.b c.remove.ensures refl d (subst (λ (s : Seen). IsThreadMappings s d) (sym c.self.view_is) k)
