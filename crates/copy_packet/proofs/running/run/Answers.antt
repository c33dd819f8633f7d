use Rattle.copy_packet.proofs.SpotLaws.{fill_written, copy_written, xor_written}
use Rattle.copy_packet.proofs.running.run.Goals as goal

pub returns-in-Fill-clause-bytes : goal.returns-in-Fill-clause-bytes
returns-in-Fill-clause-bytes c =
    let h = rw c.in-Fill.is at c.requires in
    rw c.in-Fill.is (fill_written _ _ _ _ _ _ _ h.0 h.1 c.spot-target.ensures c.fill.ensures.after)

pub returns-in-Copy-clause-bytes : goal.returns-in-Copy-clause-bytes
returns-in-Copy-clause-bytes c =
    let h = rw c.in-Copy.is at c.requires in
    rw c.in-Copy.is (copy_written _ _ _ _ _ _ _ _ _ h.0.0 h.0.1 h.1.0 h.1.1 c.spot-target-in-Copy.ensures c.spot-source.ensures c.copy.ensures.after)

pub returns-in-Xor-clause-bytes : goal.returns-in-Xor-clause-bytes
returns-in-Xor-clause-bytes c =
    let h = rw c.in-Xor.is at c.requires in
    rw c.in-Xor.is (xor_written _ _ _ _ _ _ _ _ _ h.0.0 h.0.1 h.1.0 h.1.1 c.spot-target-in-Xor.ensures c.spot-source-in-Xor.ensures c.xor.ensures.after)
