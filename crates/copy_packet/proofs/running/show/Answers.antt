use Rattle.copy_packet.proofs.SpotLaws.{page_read}
use Rattle.std.proofs.Common.{◌∙◌, ap}
use Rattle.copy_packet.specs.Spots.{part_at}
use Rattle.copy_packet.proofs.running.show.Goals as goal

pub returns-in-Probe : goal.returns-in-Probe
returns-in-Probe c =
    let h = rw c.in-Probe.is at c.requires in
    rw c.in-Probe.is (c.set.ensures ∙ c.part.ensures ∙ ap (λ x. part_at c.args.stores.now x c.in-Probe.len) c.spot-source.ensures ∙ page_read c.args.stores.now _ _ _ h.0.0 h.0.1)
