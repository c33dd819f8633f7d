use Rattle.std.proofs.Common.{subst}
use Rattle.ttm_base.specs.Pages.{PageBytes, frame, slot}
use Rattle.rules_stores.specs.StorePages.{page_of}
use Rattle.rules_stores.specs.Kept.{BecomesBytes, bytes_of}
use Rattle.rules_stores.proofs.KeptLaws.{becomes_same}
use Rattle.rules_stores.proofs.EntryLaws.{becomes_copy, stores_stay}
use Rattle.rules_stores.proofs.stores.PlainStores.after.Goals as goal

pub returns-in-Populate : goal.returns-in-Populate
returns-in-Populate c = rw c.in-Populate.is c.fill.ensures

pub returns-in-SwapIn : goal.returns-in-SwapIn
returns-in-SwapIn c = rw c.in-SwapIn.is (becomes_copy _ _ (frame c.in-SwapIn.frame) (slot c.in-SwapIn.slot) (rw (c.whole.ensures, c.whole-in-SwapIn.ensures) at c.copy_part.ensures))

pub returns-in-SwapOut : goal.returns-in-SwapOut
returns-in-SwapOut c =
    rw (c.in-SwapOut.is, ← c.of.ensures)
    (becomes_copy _ _ (slot c.in-SwapOut.slot) (page_of c.of.result) (rw (c.whole-in-SwapOut.ensures, c.whole-in-SwapOut-2.ensures) at c.copy_part-in-SwapOut.ensures))

pub returns-in-Packet : goal.returns-in-Packet
returns-in-Packet c = rw (c.in-Packet.is, ← c.engine_of.ensures, ← c.job_packet.ensures) c.run_packet.ensures

pub returns-in-Result : goal.returns-in-Result
returns-in-Result c = rw (c.in-Result.is, ← c.thread_of.ensures) c.answer.ensures

pub returns-in_default : goal.returns-in_default
returns-in_default c =
    subst (λ (b : PageBytes). BecomesBytes c.args.self.now c.args.self.now b)
    (stores_stay c.args.script.now c.args.state.now c.args.entry.now.who c.args.entry.now.kind (bytes_of c.args.self.now) c.in_default.not-Populate c.in_default.not-SwapIn c.in_default.not-SwapOut c.in_default.not-Packet c.in_default.not-Result)
    (becomes_same c.args.self.now)
